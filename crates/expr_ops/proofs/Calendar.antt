-- The date and the time of a moment, as the crate jiff tells them and as the definition counts them.
use Rattle.std.proofs.Common.{◌≡◌, ℕ, zero, suc, ◌+◌, ◌-◌, ◌*◌, ◌/◌, ◌%◌, ◌<◌, ◌≤◌, inl, inr, List, [], ◌∷◌, ◌++◌, refl, sym, ap, append_assoc, ◌∙◌, arith, cond, Bool, true, false, nat_lt, ℤ, pos, negsuc, ◌<ℤ◌}
use Rattle.std.specs.Prelude.{None, codes}
use Rattle.std.proofs.lemmas.Bool.{cases_lt}
use Rattle.std.proofs.lemmas.Bool.Decides.{nat_tests}
use Rattle.jiff_core.specs.declared.civil.date.Date.{Date}
use Rattle.jiff_core.specs.declared.civil.time.Time.{Time}
use Rattle.jiff_core.specs.declared.civil.datetime.DateTime.{DateTime}
use Rattle.jiff_core.specs.Calendar.{days_in_year as jiff_days_in_year, days_in_month as jiff_days_in_month, days_of_months, day_of_year, day_count, days_from_civil, IsYear, IsCivilDate}
use Rattle.jiff_core.specs.Date.{epoch_day}
use Rattle.jiff_core.specs.Time.{time_nanos}
use Rattle.jiff_core.specs.DateTime.{civil_nanos}
use Rattle.jiff_core.proofs.SignedLemmas.{signed_arith}
use Rattle.jiff_core.proofs.CalendarLemmas.{day_count-epoch, days_from_civil-day_count, days_in_year_bounds, days_of_months-zero, days_of_months_more, days_of_months_mono, day_of_year_bound, day_count-day_of_year, day_count-next_year, day_count-lt_year, day_count-year_is}
use Rattle.jiff_core.proofs.DateLemmas.{civil}
use Rattle.jiff_core.proofs.DateTimeLemmas.{civil_nanos-parts, epoch_day-civil_nanos}
use Rattle.jiff.specs.Words.{date_text as jiff_date_text, time_text as jiff_time_text}
use Rattle.std.proofs.lemmas.Int.{by_lt_z}
use Rattle.value_rules.specs.Moments.{days_in_year, days_in_month, year_and_day, month_and_day, year_of_day, month_of_day, two_digits, four_digits, date_text, clock_text, moment_text}

-- ---- the year

-- a date among the days of a year is of that year, at its place
in_this_year : (b n y m d : ℕ) → IsCivilDate (pos y) m d → b ≤ y → day_count (pos b) 1 1 + n ≡ day_count (pos y) m d → n < days_in_year b → (b ≡ y) × (n + 1 ≡ day_of_year (pos y) m d)
in_this_year b n y m d date later e within =
    let year : IsYear (pos b) = (omega (arith, signed_arith), omega (arith, signed_arith, date.0)) in
    let same : pos y ≡ pos b = day_count-year_is (pos b) (pos y) m d year date (omega arith) (omega arith) in
    let here : b ≡ y = omega (arith, signed_arith) in
    let first : day_count (pos b) 1 1 ≡ day_count (pos y) 1 1 = ap (λ k. day_count (pos k) 1 1) here in
    (here, omega (arith, day_count-day_of_year (pos y) m d date.2.0))

-- a date behind the days of a year is of a later one
in_later_year : (b n y m d : ℕ) → IsCivilDate (pos y) m d → b ≤ y → day_count (pos b) 1 1 + n ≡ day_count (pos y) m d → days_in_year b ≤ n → b + 1 ≤ y
in_later_year b n y m d date later e behind =
    elim (cases_lt b y) [
      | inl below ↦ omega arith
      | inr above ↦
          let here : b ≡ y = omega arith in
          let first : day_count (pos b) 1 1 ≡ day_count (pos y) 1 1 = ap (λ k. day_count (pos k) 1 1) here in
          let same : jiff_days_in_year (pos b) ≡ jiff_days_in_year (pos y) = ap (λ k. jiff_days_in_year (pos k)) here in
          absurd (omega (arith, day_count-day_of_year (pos y) m d date.2.0, day_of_year_bound (pos y) m d date))
    ]

-- the next year begins behind the days of this one
next_year : (b : ℕ) → day_count (pos (b + 1)) 1 1 ≡ day_count (pos b) 1 1 + days_in_year b
next_year b = day_count-next_year (pos b) (pos (b + 1)) (omega (arith, signed_arith)) (omega (arith, signed_arith))

-- the step of the count: `found` is what the later years give
counted_year : (b n y m d : ℕ) (rest : ℕ × ℕ) (within : Bool) → nat_lt n (days_in_year b) ≡ within → IsCivilDate (pos y) m d → b ≤ y
    → day_count (pos b) 1 1 + n ≡ day_count (pos y) m d
    → (days_in_year b ≤ n → rest ≡ (y, day_of_year (pos y) m d - 1)) → cond within (b, n) rest ≡ (y, day_of_year (pos y) m d - 1)
counted_year b n y m d rest true test date later e found =
    let here = in_this_year b n y m d date later e (grind (arith, nat_tests)) in
    let place : n ≡ day_of_year (pos y) m d - 1 = omega arith in
    let year : b ≡ y = here.0 in
    cc
counted_year b n y m d rest false test date later e found = found (grind (arith, nat_tests))

year_counted : (more b n y m d : ℕ) → IsCivilDate (pos y) m d → b ≤ y → n < 365 * (more + 1)
    → day_count (pos b) 1 1 + n ≡ day_count (pos y) m d → year_and_day more b n ≡ (y, day_of_year (pos y) m d - 1)
year_counted zero b n y m d date later enough e =
    let here = in_this_year b n y m d date later e (omega (arith, (days_in_year_bounds (pos b)).1)) in
    let place : n ≡ day_of_year (pos y) m d - 1 = omega arith in
    let year : b ≡ y = here.0 in
    cc
year_counted (suc more) b n y m d date later enough e =
    counted_year b n y m d (year_and_day more (b + 1) (n - days_in_year b)) (nat_lt n (days_in_year b)) refl date later e
    (λ behind. year_counted more (b + 1) (n - days_in_year b) y m d date (in_later_year b n y m d date later e behind)
    (omega (arith, (days_in_year_bounds (pos b)).1)) (omega (arith, next_year b)))

-- ---- the month

in_this_month : (b n y m d : ℕ) → IsCivilDate (pos y) m d → 1 ≤ b → b ≤ m → days_of_months (pos y) (b - 1) + n + 1 ≡ day_of_year (pos y) m d
    → n < days_in_month y b → b ≡ m
in_this_month b n y m d date first later e within =
    elim (cases_lt b m) [
      | inl below ↦ absurd (omega (arith, days_of_months_more (pos y) b first, days_of_months_mono (pos y) b (m - 1) (omega arith), date.2.0))
      | inr above ↦ omega arith
    ]

in_later_month : (b n y m d : ℕ) → IsCivilDate (pos y) m d → b ≤ m → days_of_months (pos y) (b - 1) + n + 1 ≡ day_of_year (pos y) m d
    → days_in_month y b ≤ n → b + 1 ≤ m
in_later_month b n y m d date later e behind =
    elim (cases_lt b m) [
      | inl below ↦ omega arith
      | inr above ↦
          let here : b ≡ m = omega arith in
          let before : days_of_months (pos y) (b - 1) ≡ days_of_months (pos y) (m - 1) = ap (λ k. days_of_months (pos y) (k - 1)) here in
          let same : jiff_days_in_month (pos y) b ≡ jiff_days_in_month (pos y) m = ap (jiff_days_in_month (pos y)) here in
          absurd (omega (arith, date.2.1))
    ]

-- the place in a month that the month's number settles
place_in_month : (b n y m d : ℕ) → b ≡ m → days_of_months (pos y) (b - 1) + n + 1 ≡ day_of_year (pos y) m d → ◌≡◌ {A = ℕ × ℕ} (b, n) (m, d - 1)
place_in_month b n y m d here e =
    let before : days_of_months (pos y) (b - 1) ≡ days_of_months (pos y) (m - 1) = ap (λ k. days_of_months (pos y) (k - 1)) here in
    let place : n ≡ d - 1 = omega arith in
    cc

counted_month : (b n y m d : ℕ) (rest : ℕ × ℕ) (within : Bool) → nat_lt n (days_in_month y b) ≡ within → IsCivilDate (pos y) m d → 1 ≤ b → b ≤ m
    → days_of_months (pos y) (b - 1) + n + 1 ≡ day_of_year (pos y) m d
    → (days_in_month y b ≤ n → rest ≡ (m, d - 1)) → cond within (b, n) rest ≡ (m, d - 1)
counted_month b n y m d rest true test date first later e found =
    place_in_month b n y m d (in_this_month b n y m d date first later e (grind (arith, nat_tests))) e
counted_month b n y m d rest false test date first later e found = found (grind (arith, nat_tests))

month_counted : (more b n y m d : ℕ) → IsCivilDate (pos y) m d → 1 ≤ b → b ≤ m → m ≤ b + more
    → days_of_months (pos y) (b - 1) + n + 1 ≡ day_of_year (pos y) m d → month_and_day more y b n ≡ (m, d - 1)
month_counted zero b n y m d date first later enough e = place_in_month b n y m d (omega arith) e
month_counted (suc more) b n y m d date first later enough e =
    let back : b + 1 - 1 ≡ b = omega arith in
    counted_month b n y m d (month_and_day more y (b + 1) (n - days_in_month y b)) (nat_lt n (days_in_month y b)) refl date first later e
    (λ behind. month_counted more (b + 1) (n - days_in_month y b) y m d date (omega arith) (in_later_month b n y m d date later e behind) (omega arith)
    (rw back (omega (arith, days_of_months_more (pos y) b first))))

-- ---- the date

-- the year, the month and the day of a date from 1970 on, as the definition counts them
date_counted : (year m d days : ℕ) → IsCivilDate (pos year) m d → 1970 ≤ year → day_count (pos 1970) 1 1 + days ≡ day_count (pos year) m d
    → (year_of_day days ≡ (year, day_of_year (pos year) m d - 1)) × (month_of_day year (day_of_year (pos year) m d - 1) ≡ (m, d - 1))
unfolding year_of_day month_of_day
date_counted year m d days date late e = (
  year_counted (days / 365) 1970 days year m d date late (omega arith) e,
  month_counted 11 1 (day_of_year (pos year) m d - 1) year m d date (omega arith) (omega arith) (omega arith) (omega (arith, days_of_months-zero (pos year), date.2.0)),
)

-- the days before a date from 1970 on
days_before : (y : ℤ) (m d days : ℕ) → days_from_civil y m d ≡ pos days → 4371953 + days ≡ day_count y m d
days_before y m d days e = let count = rw e at (days_from_civil-day_count y m d) in omega (arith, signed_arith)

-- before 1970 no day has a number that is not negative
no_earlier_year : (y : ℤ) (m d days : ℕ) → IsCivilDate y m d → days_from_civil y m d ≡ pos days → y <ℤ pos 1970 → ⊥
no_earlier_year y m d days date e early =
    omega (arith, days_before y m d days e, day_count-lt_year y m d (pos 1970) 1 1 date (omega arith) early, day_count-epoch)

-- the text of a date by its parts, as jiff writes it
year_text : ℤ → List ℕ
year_text (pos n) = four_digits n
year_text (negsuc n) = codes "-00" ++ four_digits (suc n)

parts_text : ℤ → ℕ → ℕ → List ℕ
parts_text y m d = year_text y ++ 45 ∷ [] ++ two_digits m ++ 45 ∷ [] ++ two_digits d

text_same : (y : ℤ) (m d days : ℕ) → IsCivilDate y m d → days_from_civil y m d ≡ pos days → parts_text y m d ≡ date_text days
unfolding year_text parts_text date_text
text_same (negsuc k) m d days date e = absurd (no_earlier_year (negsuc k) m d days date e (omega (arith, signed_arith)))
text_same (pos year) m d days date e =
    let late : 1970 ≤ year = by_lt_z (pos year) (pos 1970) (λ early. absurd (no_earlier_year (pos year) m d days date e early)) (λ le. omega (arith, signed_arith)) in
    let counted = date_counted year m d days date late (rw day_count-epoch (days_before (pos year) m d days e)) in
    let day : d - 1 + 1 ≡ d = omega (arith, date.2.0) in
    rw (counted.0, counted.1, day) refl

-- the text of a date from 1970 on
date_same : (date : Date) (days : ℕ) → epoch_day date ≡ pos days → jiff_date_text date ≡ date_text days
unfolding year_text parts_text
date_same date days e = text_same date.year date.month date.day days (civil date) e

-- ---- the time

-- hours, minutes and seconds are settled by the seconds since midnight
parts_of_time : (hour minute second subsec seconds : ℕ) → minute < 60 → second < 60 → subsec < 1_000_000_000
    → (hour * 3600 + minute * 60 + second) * 1_000_000_000 + subsec ≡ seconds * 1_000_000_000
    → (hour ≡ seconds / 3600) × (minute ≡ seconds / 60 % 60) × (second ≡ seconds % 60) × (subsec ≡ 0)
parts_of_time hour minute second subsec seconds m s n e =
    let whole : hour * 3600 + minute * 60 + second ≡ seconds = omega arith in
    let none : subsec ≡ 0 = omega arith in
    (omega arith, omega arith, omega arith, none)

-- the text of a time without a fraction
clock_same : (time : Time) (seconds : ℕ) → time_nanos time ≡ seconds * 1_000_000_000 → jiff_time_text None time ≡ clock_text seconds
unfolding clock_text
clock_same time seconds e =
    let parts = parts_of_time time.hour time.minute time.second time.subsec_nanosecond seconds (omega arith) (omega arith) (omega arith) e in
    rw (parts.0, parts.1, parts.2, parts.3) refl

-- ---- the moment

day_of_moment : (shown : DateTime) (t : ℕ) → civil_nanos shown ≡ pos (t * 1_000_000_000) → epoch_day shown.date ≡ pos (t / 86400)
day_of_moment shown t e =
    let day = rw e at (epoch_day-civil_nanos shown) in
    let seconds : t * 1_000_000_000 / 86_400_000_000_000 ≡ t / 86400 = omega arith in
    day ∙ ap pos seconds

time_of_moment : (shown : DateTime) (t : ℕ) → civil_nanos shown ≡ pos (t * 1_000_000_000) → time_nanos shown.time ≡ t % 86400 * 1_000_000_000
time_of_moment shown t e =
    let parts = rw (e, day_of_moment shown t e) at (civil_nanos-parts shown) in
    omega (arith, signed_arith)

-- a date and a time with a space between them
joined_same : (a b c d : List ℕ) → a ≡ b → c ≡ d → a ++ 32 ∷ c ≡ b ++ codes " " ++ d
joined_same a b c d e f = rw (e, f) (sym (append_assoc b (32 ∷ []) d))

-- the text of a moment
pub moment_same : (shown : DateTime) (t : ℕ) → civil_nanos shown ≡ pos (t * 1_000_000_000)
    → jiff_date_text shown.date ++ 32 ∷ jiff_time_text None shown.time ≡ moment_text t
unfolding moment_text
moment_same shown t e =
    let date = date_same shown.date (t / 86400) (day_of_moment shown t e) in
    let time = clock_same shown.time (t % 86400) (time_of_moment shown t e) in
    joined_same _ _ _ _ date time
