-- Numbers read from digits.
use Rattle.std.proofs.Common.{◌≡◌, ℕ, ◌+◌, ◌-◌, ◌*◌, ◌^◌, ◌<◌, ◌≤◌, List, [], ◌∷◌, Bool, true, false, ◌&&◌, nat_le, length, slice_index, Some, None, Result, Ok, Err, arith, ap, sym, subst, refl, inl, inr}
use Rattle.std.specs.List.{list_all}
use Rattle.std.specs.Char.{is_ascii_digit}
use Rattle.std.specs.Str.Parse.{ParsesUnsigned}
use Rattle.std.proofs.lemmas.Bool.Decides.{nat_tests}
use Rattle.std.proofs.lemmas.Str.Parse.{IsNumeralModel, FoldsDigits, IsDigitsTest, numerals_by_fold, parse_plain}
use Rattle.std.proofs.lemmas.Bool.{cases_lt}
use Rattle.script_read.specs.Bytes.{read_on, is_numeral, number_to}

both : (a b : Bool) → (a && b) ≡ true → (a ≡ true) × (b ≡ true)
both true b e = (refl, e)
both false b e = cc

-- ---- what the words of `std` on digits say of these

abbrev AreDigits : List ℕ → Type 0
AreDigits ds = list_all is_ascii_digit ds ≡ true

is_digit : (c : ℕ) → is_ascii_digit c ≡ true → (48 ≤ c) × (c ≤ 57)
is_digit c e = let parts = both (nat_le 48 c) (nat_le c 57) e in (grind (arith, nat_tests), grind (arith, nat_tests))

digit_is : (c : ℕ) → 48 ≤ c → c ≤ 57 → is_ascii_digit c ≡ true
digit_is c low high = grind (arith, nat_tests)

tells : IsDigitsTest AreDigits
tells = record {
  empty = refl;
  parts = λ c cs e. let k = both (is_ascii_digit c) (list_all is_ascii_digit cs) e in (is_digit c k.0, k.1);
  more = λ c cs k e. rw (digit_is c k.0 k.1) e;
}

folds : FoldsDigits read_on
folds = record {
  empty = λ n. refl;
  more = λ n c cs k. let same : 10 * n + (c - 0x30) ≡ n * 10 + (c - 48) = omega arith in ap (λ m. read_on m cs) same;
}

model : IsNumeralModel AreDigits (read_on 0)
model = numerals_by_fold AreDigits tells read_on folds

-- ---- digits of which the first is not 0

-- digits that begin so are a numeral
numeral : (d : ℕ) (ds : List ℕ) → 49 ≤ d → d ≤ 57 → AreDigits (d ∷ ds) → is_numeral (d ∷ ds) ≡ true
numeral d ds low high all =
    let rest : AreDigits ds = (both (is_ascii_digit d) (list_all is_ascii_digit ds) all).1 in
    grind (arith, nat_tests, rest)

-- and a numeral is digits
digits_of : (d : ℕ) (ds : List ℕ) → is_numeral (d ∷ ds) ≡ true → AreDigits (d ∷ ds)
digits_of d ds e =
    let parts = both (nat_le 0x31 d && nat_le d 0x39) (list_all is_ascii_digit ds) e in
    let ends = both (nat_le 0x31 d) (nat_le d 0x39) parts.0 in
    let rest : AreDigits ds = parts.1 in
    rw (digit_is d (grind (arith, nat_tests)) (grind (arith, nat_tests))) rest

-- what is no number is none
by_number : (limit : ℕ) (digits : List ℕ) → (is_numeral digits ≡ true → read_on 0 digits ≤ limit → ⊥) → number_to limit digits ≡ None
by_number limit digits never = by_tests (is_numeral digits) (nat_le (read_on 0 digits) limit) refl refl where
  by_tests : (a b : Bool) → is_numeral digits ≡ a → nat_le (read_on 0 digits) limit ≡ b → number_to limit digits ≡ None
  by_tests false b e f = rw e refl
  by_tests true false e f = rw (e, f) refl
  by_tests true true e f = absurd (never e (grind (arith, nat_tests)))

-- what `std` reads of digits that begin so, as one of its answers
abbrev Reads : {E : Type 0} → List ℕ → Result ℕ E → Type 0
Reads digits (Ok n) = (is_numeral digits ≡ true) × (n ≡ read_on 0 digits)
Reads digits (Err e) = is_numeral digits ≡ true → 4294967296 ≤ read_on 0 digits

reads : (E : Type 0) (digits : List ℕ) (r : Result ℕ E) → 1 ≤ length digits → 49 ≤ slice_index digits 0 → slice_index digits 0 ≤ 57 → ParsesUnsigned 32 10 digits r → Reads {E = E} digits r
reads E [] r some low high parses = absurd (omega arith)
reads E (d ∷ ds) (Ok n) some low high parses =
    let plain = parse_plain model {E = E} 32 (d ∷ ds) (Ok n) parses (λ e. omega arith) in
    (numeral d ds low high plain.0.0, plain.1)
reads E (d ∷ ds) (Err e) some low high parses =
    let plain = parse_plain model {E = E} 32 (d ∷ ds) (Err e) parses (λ e. omega arith) in
    λ is. by_size (read_on 0 (d ∷ ds)) (λ fits. plain (digits_of d ds is, omega arith, fits))
  where
    by_size : (n : ℕ) → (n < 2 ^ 32 → ⊥) → 4294967296 ≤ n
    by_size n never = elim (cases_lt n 4294967296) [ inl less ↦ absurd (never less) | inr more ↦ more ]

-- ---- what is read, within the limit and past it

pub read : (E : Type 0) (limit : ℕ) (digits : List ℕ) (r : Result ℕ E) (n : ℕ) → 1 ≤ length digits → 49 ≤ slice_index digits 0 → slice_index digits 0 ≤ 57 → ParsesUnsigned 32 10 digits r → r ≡ Ok n → n ≤ limit → number_to limit digits ≡ Some n
read E limit digits r n some low high parses is within =
    let told = subst (Reads {E = E} digits) is (reads E digits r some low high parses) in
    let number : n ≡ read_on 0 digits = told.1 in
    let fits : nat_le (read_on 0 digits) limit ≡ true = grind (arith, nat_tests) in
    rw (told.0, fits) (ap Some (sym number))

pub past : (E : Type 0) (limit : ℕ) (digits : List ℕ) (r : Result ℕ E) (n : ℕ) → 1 ≤ length digits → 49 ≤ slice_index digits 0 → slice_index digits 0 ≤ 57 → ParsesUnsigned 32 10 digits r → r ≡ Ok n → limit < n → number_to limit digits ≡ None
past E limit digits r n some low high parses is over =
    let told = subst (Reads {E = E} digits) is (reads E digits r some low high parses) in
    let number : n ≡ read_on 0 digits = told.1 in
    by_number limit digits (λ numeral within. omega arith)

pub unread : (E : Type 0) (limit : ℕ) (digits : List ℕ) (r : Result ℕ E) (e : E) → limit < 4294967296 → 1 ≤ length digits → 49 ≤ slice_index digits 0 → slice_index digits 0 ≤ 57 → ParsesUnsigned 32 10 digits r → r ≡ Err e → number_to limit digits ≡ None
unread E limit digits r e small some low high parses is =
    let told = subst (Reads {E = E} digits) is (reads E digits r some low high parses) in
    by_number limit digits (λ numeral within. let big : 4294967296 ≤ read_on 0 digits = told numeral in omega arith)
