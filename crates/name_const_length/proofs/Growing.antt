-- Lengths of texts, one behind the other.
use Rattle.std.proofs.Common.{◌≡◌, ℕ, suc, ◌+◌, ◌/◌, ◌^◌, ◌≤◌, ◌<◌, List, drop, get_or, drop-cons, add-one, [], ◌∷◌, ◌++◌, Bool, true, false, cond, arith, refl, ap, ◌∙◌, sym}
use Rattle.std.specs.Prelude.{min, nat_lt, length, ℤ, pos, negsuc}
use Rattle.std.specs.Fmt.{decimal, signed_decimal}
use Rattle.std.proofs.lemmas.Bool.{ltb-true}
use lib.Signed.{lt_z}
use lib.IntN.{nat_abs}
use Rattle.std.proofs.lemmas.Fmt.{decimal_digit, decimal_step}
use Rattle.hex.specs.Hex.{encode_with}
use Rattle.name_const_length.specs.Growing.{greatest, one_more, grown}

-- where a text is two, its length is that of the one and then that of the other
pub grown-append : (n : ℕ) (a b : List ℕ) → grown n (a ++ b) ≡ grown (grown n a) b
grown-append n [] b = refl
grown-append n (x ∷ a) b = grown-append (one_more n) a b

-- a length is another one with a text behind it
pub record Counted (n : ℕ) (text : List ℕ) (m : ℕ) : Type 0 where
  pub is : m ≡ grown n text

pub start : (n m : ℕ) (text : List ℕ) → m ≡ grown n text → Counted n text m
start n m text e = record { is = e }

-- one piece more
pub step : {n m : ℕ} {text : List ℕ} (m' : ℕ) (piece : List ℕ) → Counted n text m → m' ≡ grown m piece → Counted n (text ++ piece) m'
step {n = n} {text = text} m' piece h e = record { is = e ∙ ap (λ k. grown k piece) h.is ∙ sym (grown-append n text piece) }

-- a list from one of its items on
pub drop-one : {A : Type 0} (all : List A) (k : ℕ) (a : A) → k < length all → a ≡ get_or all k a → drop k all ≡ a ∷ drop (k + 1) all
drop-one all k a low is = rw (add-one k) (drop-cons all k a low ∙ ap (λ x. x ∷ drop (suc k) all) (sym is))

-- an item of a list, with what stands before it, and what follows
pub next : (before : Bool → List ℕ) (first : Bool) (total middle new whole : ℕ) (item more : List ℕ) → middle ≡ grown total (before first) → new ≡ grown middle item
    → grown total (cond first (before true ++ item ++ more) (before false ++ item ++ more)) ≡ whole → grown new more ≡ whole
next before true total middle new whole item more d e f =
    ap (λ k. grown k more) (step new item (start total middle (before true) d) e).is ∙ sym (grown-append total (before true ++ item) more) ∙ f
next before false total middle new whole item more d e f =
    ap (λ k. grown k more) (step new item (start total middle (before false) d) e).is ∙ sym (grown-append total (before false ++ item) more) ∙ f

-- an item with nothing before it
pub next_alone : (total new whole : ℕ) (item more : List ℕ) → new ≡ grown total item → grown total (item ++ more) ≡ whole → grown new more ≡ whole
next_alone total new whole item more e f = ap (λ k. grown k more) e ∙ sym (grown-append total item more) ∙ f

-- ---- as a number

one_by : (n : ℕ) (below : Bool) → nat_lt n greatest ≡ below → n ≤ greatest → cond below (suc n) n ≡ min (n + 1) greatest
one_by n true e low = grind (arith)
one_by n false e low = grind (arith)

one_more_is : (n : ℕ) → n ≤ greatest → one_more n ≡ min (n + 1) greatest
unfolding one_more
one_more_is n low = one_by n (nat_lt n greatest) refl low

-- a length by that of the text
pub grown_by : (n : ℕ) (text : List ℕ) → n ≤ greatest → grown n text ≡ min (n + length text) greatest
grown_by n [] low = omega (arith, low)
grown_by n (b ∷ text) low =
    let one = one_more_is n low in
    let rest = grown_by (one_more n) text (omega (arith, one)) in
    omega (arith, one, rest, low)

-- a length from the start
pub from_start : (text : List ℕ) → grown 0 text ≡ min (length text) greatest
from_start text = grown_by 0 text (omega arith) ∙ omega arith

-- ---- only lengths count

pub grown-length : (n : ℕ) (a b : List ℕ) → length a ≡ length b → grown n a ≡ grown n b
grown-length n [] [] e = refl
grown-length n [] (y ∷ b) e = absurd (omega (arith, e))
grown-length n (x ∷ a) [] e = absurd (omega (arith, e))
grown-length n (x ∷ a) (y ∷ b) e = grown-length (one_more n) a b (omega (arith, e))

one-behind : (n : ℕ) (a : List ℕ) → one_more (grown n a) ≡ grown (one_more n) a
one-behind n [] = refl
one-behind n (x ∷ a) = one-behind (one_more n) a

-- the last digit may be counted first
pub digit-first : (n k : ℕ) → 10 ≤ k → k < 2 ^ 64 → grown n (decimal k) ≡ grown (one_more n) (decimal (k / 10))
digit-first n k low high = ap (λ text. grown n text) (decimal_step k low high) ∙ grown-append n (decimal (k / 10)) _ ∙ one-behind n (decimal (k / 10))

pub last-digit : (n k : ℕ) → k < 10 → grown n (decimal k) ≡ one_more n
last-digit n k low = ap (λ text. grown n text) (decimal_digit k low)

-- two digits for each byte
pub grown-hexadecimal : (n : ℕ) (t bytes : List ℕ) → grown n (encode_with t bytes) ≡ grown (grown n bytes) bytes
unfolding encode_with
grown-hexadecimal n t [] = refl
grown-hexadecimal n t (b ∷ bytes) =
    grown-hexadecimal (one_more (one_more n)) t bytes ∙ ap (λ m. grown m bytes) (sym (one-behind (one_more n) bytes))

-- a number below 0 has a sign before its digits
pub grown-negative : (z : ℤ) (n sign digits total : ℕ) → lt_z z (pos 0) ≡ true → sign ≡ one_more n → digits ≡ nat_abs z → total ≡ grown sign (decimal digits) → total ≡ grown n (signed_decimal z)
grown-negative (pos k) n sign digits total below s d e = absurd (omega (arith, ltb-true k 0 below))
grown-negative (negsuc k) n sign digits total below s d e = e ∙ (λ i. grown (s i) (decimal (d i)))

pub grown-positive : (z : ℤ) (n digits total : ℕ) → lt_z z (pos 0) ≡ false → digits ≡ nat_abs z → total ≡ grown n (decimal digits) → total ≡ grown n (signed_decimal z)
grown-positive (pos k) n digits total above d e = e ∙ (λ i. grown n (decimal (d i)))
grown-positive (negsuc k) n digits total above d e = cc

pub ruleset growing = (grown-append)
