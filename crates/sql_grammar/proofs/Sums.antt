-- The laws of the small language.
use Rattle.std.proofs.Common.{◌≡◌, ℕ, zero, suc, pred, Bool, true, false, not, inl, inr, List, [], ◌∷◌, Some, None, refl, arith}
use Rattle.sql_grammar.specs.Sets.{member, next_in}
use Rattle.sql_grammar.specs.Grammar.{first}
use Rattle.sql_grammar.specs.Rule.{Rule, any_of, of_kinds, word, behind, opened}
use Rattle.sql_grammar.specs.Whole.{IsExact}
use Rattle.sql_grammar.specs.Sums.{Token, number, plus, times, minus, opening, closing, comma, signed, exact, colon, Tree, leaf, negated, add, multiply, kind, value_of, scale_of, product, sum, inside, factor_by, factor, marked, mark, marks, scale, text, applied, application}
use Rattle.sql_grammar.proofs.Lawful.{Shape, shape, Lawful, GoesOn}
use Rattle.sql_grammar.proofs.Single.{Takes, takes_kinds, takes_any, kinds_taken, expect_lawful, word_lawful, pure_lawful, mapped_lawful, only_if_lawful, widened}
use Rattle.sql_grammar.proofs.Levels.{recursive_lawful}
use Rattle.sql_grammar.proofs.Sequence.{both_lawful, opened_lawful}
use Rattle.sql_grammar.proofs.Choice.{either_lawful, either_by_two_lawful, Never}
use Rattle.sql_grammar.proofs.Chains.{chain_by_lawful, chain_lawful, listed_lawful}
use Rattle.sql_grammar.proofs.Alive.{one_alive, both_alive, chain_alive}
use Rattle.sql_grammar.proofs.TwoTokens.{starts_one, starts_both, starts_opened, always_pair, never_first, never_one, never_either, never_same, never_wider, never_chain}
use Rattle.sql_grammar.proofs.Top.{is_exact}

takes_number : Takes kind (of_kinds kind (0 ∷ []) (λ t. Some (leaf (value_of t)))) (0 ∷ [])
takes_number = takes_kinds kind (0 ∷ []) (λ t. Some (leaf (value_of t))) (number 0) (leaf 0) refl refl

-- ---- sums of factors
abbrev factors : Shape
factors = shape (4 ∷ 3 ∷ 0 ∷ []) false [] true

abbrev sums : Shape
sums = shape (4 ∷ 3 ∷ 0 ∷ []) false (1 ∷ 2 ∷ []) true

module _ {F : ℕ → Rule Token Tree} {d : ℕ} (l : Lawful kind factors F d) where
  product_lawful : Lawful kind (shape (4 ∷ 3 ∷ 0 ∷ []) false (2 ∷ []) true) (λ e. product (F e)) d
  product_lawful = chain_lawful multiply (2 ∷ []) l (both_lawful (λ u a. a) (word_lawful 2 times refl d) l refl refl) refl refl refl refl

  sum_lawful : Lawful kind sums (λ e. sum (F e)) d
  sum_lawful = widened (chain_lawful add (1 ∷ []) product_lawful (both_lawful (λ u a. a) (word_lawful 1 plus refl d) product_lawful refl refl) refl refl refl refl) sums refl

  inside_lawful : Lawful kind (shape (4 ∷ 3 ∷ 0 ∷ []) false [] true) (λ e. inside (F e)) d
  inside_lawful = both_lawful (λ a u. a) sum_lawful (word_lawful 5 closing refl d) refl refl

-- ---- factors
inside_alive : (F : ℕ → Rule Token Tree) → GoesOn F [] → GoesOn (λ e. inside (F e)) []
inside_alive F alive =
    both_alive (λ a u. a) (λ e. sum (F e)) (λ e. word kind 5)
    (chain_alive kind add (1 ∷ []) (λ e. product (F e)) (λ e a. behind (word kind 1) (product (F e))) (chain_alive kind multiply (2 ∷ []) F (λ e a. behind (word kind 2) (F e)) alive))
    (one_alive (takes_any kind 5 closing refl))

factor_by_lawful : (F : ℕ → Rule Token Tree) → GoesOn F [] → (d : ℕ) → ((k : ℕ) → d ≡ suc k → Lawful kind factors F k) → Lawful kind factors (λ e. factor_by e (F (pred e))) d
factor_by_lawful F alive d l =
    let o = opened_lawful (takes_any kind 4 opening refl) (λ u a. a) (λ e. inside (F e)) (inside_alive F alive) d (λ k e. inside_lawful (l k e)) refl in
    let m = opened_lawful (takes_any kind 3 minus refl) (λ u a. negated a) F alive d l refl in
    widened (either_lawful (4 ∷ []) o (either_lawful (3 ∷ []) m (expect_lawful takes_number d) refl refl refl) refl refl refl) factors refl

factor_is : (e : ℕ) → factor e ≡ factor_by e (factor (pred e))
unfolding factor
factor_is zero = refl
factor_is (suc e) = refl

-- a number is a factor
number_factor : (e : ℕ) (t : Token) (rest : List Token) → of_kinds kind (0 ∷ []) (λ u. Some (leaf (value_of u))) t ≡ Some (leaf (value_of t)) → (factor e).texts (leaf (value_of t)) (t ∷ rest) rest
number_factor e t rest q = rw (factor_is e) (inr (inr (t, refl, q)))

factor_alive : GoesOn factor []
factor_alive = (0, λ e m tail. (number 0 ∷ [], leaf 0, number_factor e (number 0) tail refl))

factor_lawful : (d : ℕ) → Lawful kind factors factor d
factor_lawful = recursive_lawful factor factor_by factor_is (factor_by_lawful factor factor_alive)

-- ---- marks, scale and whole texts
mark_lawful : (m : Bool × Bool) (d : ℕ) → Lawful kind (shape (7 ∷ 8 ∷ []) false [] false) (λ e. mark m) d
mark_lawful m d =
    either_lawful (7 ∷ []) (only_if_lawful (not m.0) (mapped_lawful (λ u. true) (word_lawful 7 signed refl d)))
    (only_if_lawful (not m.1) (mapped_lawful (λ u. false) (word_lawful 8 exact refl d))) refl refl refl

marks_lawful : (d : ℕ) → Lawful kind (shape (7 ∷ 8 ∷ []) true (7 ∷ 8 ∷ []) true) (λ e. marks) d
marks_lawful d = chain_by_lawful marked (7 ∷ 8 ∷ []) {S = λ e m. mark m} (pure_lawful (false, false) d) (λ m. mark_lawful m d) refl refl refl refl

scale_lawful : (d : ℕ) → Lawful kind (shape (9 ∷ []) true (9 ∷ []) true) (λ e. scale) d
scale_lawful d =
    let n = expect_lawful (takes_kinds kind (0 ∷ []) scale_of (number 0) 0 refl refl) d in
    either_lawful (9 ∷ []) (mapped_lawful Some (both_lawful (λ u a. a) (word_lawful 9 colon refl d) n refl refl)) (pure_lawful None d) refl refl refl

text_lawful : (d : ℕ) → Lawful kind (shape (4 ∷ 3 ∷ 0 ∷ []) false (9 ∷ 7 ∷ 8 ∷ 6 ∷ 1 ∷ 2 ∷ []) true) text d
text_lawful d =
    let s = listed_lawful (6 ∷ []) (word_lawful 6 comma refl d) (sum_lawful (factor_lawful d)) (refl, refl) refl refl refl refl in
    let r = both_lawful (λ m s. (m, s)) (marks_lawful d) (scale_lawful d) refl refl in
    widened (both_lawful (λ s r. (s, r)) s r refl refl) (shape (4 ∷ 3 ∷ 0 ∷ []) false (9 ∷ 7 ∷ 8 ∷ 6 ∷ 1 ∷ 2 ∷ []) true) refl

pub text_exact : IsExact text
text_exact = is_exact text_lawful refl

-- ---- applications, by two tokens
group_lawful : (d : ℕ) → Lawful kind (shape (4 ∷ []) false [] true) (λ e. opened e (any_of kind 4) (λ u a. a) (inside (factor (pred e)))) d
group_lawful d = opened_lawful (takes_any kind 4 opening refl) (λ u a. a) (λ e. inside (factor e)) (inside_alive factor factor_alive) d (λ k e. inside_lawful (factor_lawful k)) refl

applied_lawful : (d : ℕ) → Lawful kind (shape (0 ∷ []) false [] true) (λ e. applied e (factor (pred e))) d
applied_lawful d = both_lawful multiply (expect_lawful takes_number d) (group_lawful d) refl refl

-- no factor and no sum begins with a number and a parenthesis
factor_never : Never kind (0 ∷ []) (4 ∷ []) (4 ∷ []) factor
factor_never =
    let group = starts_opened (takes_any kind 4 opening refl) (λ u a. a) (λ e. inside (factor (pred e))) in
    let minus' = starts_opened (takes_any kind 3 minus refl) (λ u a. negated a) (λ e. factor (pred e)) in
    never_same factor factor_is (never_either (next_in kind (4 ∷ [])) (never_first (0 ∷ []) (4 ∷ []) (4 ∷ []) group refl)
    (never_either (next_in kind (3 ∷ [])) (never_first (0 ∷ []) (4 ∷ []) (4 ∷ []) minus' refl) (never_one (of_kinds kind (0 ∷ []) (λ t. Some (leaf (value_of t)))) (0 ∷ []) (4 ∷ []) (4 ∷ []) refl)))

sum_never : Never kind (0 ∷ []) (4 ∷ []) (4 ∷ []) (λ e. sum (factor e))
sum_never =
    never_chain add (1 ∷ []) {S = λ e a. behind (word kind 1) (product (factor e))}
    (never_chain multiply (2 ∷ []) {S = λ e a. behind (word kind 2) (factor e)} factor_never (λ a. starts_both (λ u b. b) factor (starts_one (takes_any kind 2 times refl))) refl)
    (λ a. starts_both (λ u b. b) (λ e. product (factor e)) (starts_one (takes_any kind 1 plus refl))) refl

-- a number may begin the one and the other
number_front : (d : ℕ) (t : Token) → member (kind t) (0 ∷ []) ≡ true → (sum (factor d)).fronts (t ∷ [])
number_front d t is =
    let q = kinds_taken kind (0 ∷ []) (λ u. leaf (value_of u)) t is in
    (sum_lawful (factor_lawful d)).closed (leaf (value_of t)) (t ∷ []) [] [] (first (first (number_factor d t [] q))) (omega arith)

application_lawful : (d : ℕ) → Lawful kind (shape (0 ∷ 4 ∷ 3 ∷ 0 ∷ []) false (1 ∷ 2 ∷ 4 ∷ []) true) application d
application_lawful d =
    either_by_two_lawful (0 ∷ []) (4 ∷ []) (4 ∷ []) (applied_lawful d) (sum_lawful (factor_lawful d)) refl (always_pair multiply (0 ∷ []) (4 ∷ []) takes_number (starts_opened (takes_any kind 4 opening refl) (λ u a. a) (λ e. inside (factor (pred e)))) refl refl)
    (never_wider (1 ∷ 2 ∷ 4 ∷ []) sum_never refl) (λ t h. number_front d t ((applied_lawful d).front_begins t [] h))
    (λ t h is. inl (inr (leaf (value_of t), (t, refl, kinds_taken kind (0 ∷ []) (λ u. leaf (value_of u)) t is))))

pub application_exact : IsExact application
application_exact = is_exact application_lawful refl
