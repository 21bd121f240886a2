-- Numbers read from digits.
use Rattle.std.proofs.Common.{◌≡◌, ℕ, ◌+◌, ◌-◌, ◌*◌, ◌<◌, ◌≤◌, List, [], ◌∷◌, Bool, true, false, ◌&&◌, nat_le, length, drop, get_or, arith, add-one, drop-cons, None, refl}
use Rattle.std.specs.List.{list_all}
use Rattle.std.specs.Char.{is_ascii_digit}
use Rattle.std.proofs.lemmas.List.{drop_all}
use Rattle.std.proofs.lemmas.Bool.Decides.{nat_tests}
use Rattle.script_read.specs.Bytes.{read_on, is_numeral, number_to}

-- reading on never makes a number less
pub read_on_grows : (n : ℕ) (ds : List ℕ) → n ≤ read_on n ds
read_on_grows n [] = omega arith
read_on_grows n (d ∷ ds) = omega (arith, read_on_grows (10 * n + (d - 0x30)) ds)

-- a number past the limit is none
past_limit : (limit : ℕ) (digits : List ℕ) → limit < read_on 0 digits → number_to limit digits ≡ None
past_limit limit digits past = by_numeral (is_numeral digits) refl where
  by_numeral : (t : Bool) → is_numeral digits ≡ t → number_to limit digits ≡ None
  by_numeral false e = rw e refl
  by_numeral true e = grind (arith, nat_tests)

-- digits whose number is past the limit once some of them are read give none
pub too_great : (limit : ℕ) (digits : List ℕ) (i n d : ℕ) → i < length digits → d ≡ get_or digits i 0 → limit < 10 * n + (d - 0x30) → read_on n (drop i digits) ≡ read_on 0 digits → number_to limit digits ≡ None
too_great limit digits i n d within is above e =
    let grows : 10 * n + (d - 0x30) ≤ read_on (10 * n + (d - 0x30)) (drop (i + 1) digits) = read_on_grows (10 * n + (d - 0x30)) (drop (i + 1) digits) in
    let split : drop i digits ≡ d ∷ drop (i + 1) digits = rw (is, add-one) (drop-cons digits i 0 within) in
    let whole : read_on (10 * n + (d - 0x30)) (drop (i + 1) digits) ≡ read_on 0 digits = rw split at e in
    past_limit limit digits (omega arith)

first_digit : (d : ℕ) (ds : List ℕ) → 0x31 ≤ d → 1 ≤ read_on (10 * 0 + (d - 0x30)) ds
first_digit d ds first = omega (arith, first, read_on_grows (10 * 0 + (d - 0x30)) ds)

both : (a b : Bool) → (a && b) ≡ true → (a ≡ true) × (b ≡ true)
both true b e = (refl, e)
both false b e = cc

at_least_one : (digits : List ℕ) → is_numeral digits ≡ true → 1 ≤ read_on 0 digits
at_least_one [] e = cc
at_least_one (d ∷ ds) e =
    let first : nat_le 0x31 d ≡ true = (both (nat_le 0x31 d) (nat_le d 0x39) (both (nat_le 0x31 d && nat_le d 0x39) (list_all is_ascii_digit ds) e).0).0 in
    first_digit d ds (grind (arith, nat_tests))

-- the number of a numeral of which all digits are read is 1 at the least
pub some_number : (digits : List ℕ) (i n : ℕ) → length digits ≤ i → is_numeral digits ≡ true → read_on n (drop i digits) ≡ read_on 0 digits → 1 ≤ n
some_number digits i n past numeral e =
    let whole : n ≡ read_on 0 digits = rw (drop_all i digits past) at e in
    omega (arith, whole, at_least_one digits numeral)
