-- A moment, in seconds since 1970-01-01 00:00:00 UTC, as the text of its date and time.
use Rattle.std.specs.Prelude.{ℕ, zero, suc, ◌+◌, ◌-◌, ◌/◌, ◌%◌, ◌==◌, Bool, not, ◌&&◌, ◌||◌, nat_lt, if◌then◌else◌, List, [], ◌∷◌, ◌++◌, codes}

-- every fourth year is a leap year, but of the centuries only every fourth
abbrev pub is_leap_year : ℕ → Bool
is_leap_year year = (year % 4 == 0) && (not (year % 100 == 0) || (year % 400 == 0))

-- the days of a year
abbrev pub days_in_year : ℕ → ℕ
days_in_year year = if is_leap_year year then 366 else 365

-- the days of a month, counted from 1
abbrev pub days_in_month : ℕ → ℕ → ℕ
days_in_month year month =
    if month == 2 then (if is_leap_year year then 29 else 28)
    else (if (month == 4) || (month == 6) || (month == 9) || (month == 11) then 30 else 31)

-- the year of a day that lies so many days behind 1 January of a year, and its place in its own year from 0;
-- `more` is how many years later it may be
abbrev pub year_and_day : ℕ → ℕ → ℕ → ℕ × ℕ
year_and_day zero year days = (year, days)
year_and_day (suc more) year days =
    if nat_lt days (days_in_year year) then (year, days)
    else year_and_day more (year + 1) (days - days_in_year year)

-- the month of a day that lies so many days behind the first of a month, and its place in its own month from 0
abbrev pub month_and_day : ℕ → ℕ → ℕ → ℕ → ℕ × ℕ
month_and_day zero year month days = (month, days)
month_and_day (suc more) year month days =
    if nat_lt days (days_in_month year month) then (month, days)
    else month_and_day more year (month + 1) (days - days_in_month year month)

-- the year of the day so many days after 1970-01-01, and its place in the year
unfoldable pub year_of_day : ℕ → ℕ × ℕ
year_of_day days = year_and_day (days / 365) 1970 days

-- the month of the day at a place of a year, and its place in the month
unfoldable pub month_of_day : ℕ → ℕ → ℕ × ℕ
month_of_day year day = month_and_day 11 year 1 day

-- a number below 100 in two digits, and one below 10,000 in four
abbrev pub two_digits : ℕ → List ℕ
two_digits n = (48 + n / 10) ∷ (48 + n % 10) ∷ []

abbrev pub four_digits : ℕ → List ℕ
four_digits n = two_digits (n / 100) ++ two_digits (n % 100)

-- `YYYY-MM-DD` of the day so many days after 1970-01-01
unfoldable pub date_text : ℕ → List ℕ
date_text days =
    let year = year_of_day days in
    let month = month_of_day year.0 year.1 in
    four_digits year.0 ++ codes "-" ++ two_digits month.0 ++ codes "-" ++ two_digits (month.1 + 1)

-- `HH:MM:SS` of so many seconds after midnight
unfoldable pub clock_text : ℕ → List ℕ
clock_text seconds =
    two_digits (seconds / 3600) ++ codes ":" ++ two_digits (seconds / 60 % 60) ++ codes ":" ++ two_digits (seconds % 60)

-- `YYYY-MM-DD HH:MM:SS` of a moment
unfoldable pub moment_text : ℕ → List ℕ
moment_text t = date_text (t / 86400) ++ codes " " ++ clock_text (t % 86400)
