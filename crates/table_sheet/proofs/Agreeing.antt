-- Keys compared value by value, and keys on which rows agree.
use Rattle.std.proofs.Common.{◌≡◌, ℕ, suc, ◌+◌, ◌<◌, List, ◌∷◌, length, get_or, drop, Bool, true, false, ◌&&◌, cond, Option, Some, None, Ordering, Less, Equal, Greater, refl, sym, ap, ◌∙◌, arith}
use Rattle.std.proofs.Math.Seq.{drop-cons}
use Rattle.std.specs.List.{list_any}
use Rattle.std.specs.Option.{option_map}
use Rattle.std.specs.Ordering.{is_eq, ordering_then}
use Rattle.val_types.specs.declared.value.Value.{Value}
use Rattle.val_types.specs.declared.definitions.KeyDef.{KeyDef}
use Rattle.val_types.specs.Order.{value_order, key_order}
use Rattle.val_types.specs.Keys.{same_values, agree_on}
use Rattle.table_rules.specs.Stored.{first_agreed}

equal_both : (o p : Ordering) → is_eq (ordering_then o p) ≡ (is_eq o && is_eq p)
equal_both Less p = refl
equal_both Equal p = refl
equal_both Greater p = refl

-- keys are the same where their first values and the rest are
pub same_values_cons : (v w : Value) (vs ws : List Value) → same_values (v ∷ vs) (w ∷ ws) ≡ (is_eq (value_order v w) && same_values vs ws)
same_values_cons v w vs ws = equal_both (value_order v w) (key_order vs ws)

-- ---- the first unique key on which a row agrees

shift_two : (i : ℕ) (o : Option ℕ) → option_map (λ (k : ℕ). i + k) (option_map suc o) ≡ option_map (λ (k : ℕ). (i + 1) + k) o
shift_two i None = refl
shift_two i (Some k) = let same : i + suc k ≡ (i + 1) + k = omega arith in ap (λ (n : ℕ). Some n) same

agreed_step : (key : KeyDef) (rest : List KeyDef) (row : List Value) (rows : List (List Value)) (b : Bool) → list_any (λ other. agree_on row other key) rows ≡ b
    → first_agreed (key ∷ rest) row rows ≡ cond b (Some 0) (option_map suc (first_agreed rest row rows))
agreed_step key rest row rows b e = ap (λ (c : Bool). cond c (Some 0) (option_map suc (first_agreed rest row rows))) e

pub agreed_here : (keys : List KeyDef) (row : List Value) (rows : List (List Value)) (i : ℕ) (key : KeyDef) → i < length keys → key ≡ get_or keys i key
    → list_any (λ other. agree_on row other key) rows ≡ true
    → option_map (λ (k : ℕ). i + k) (first_agreed (drop i keys) row rows) ≡ first_agreed keys row rows
    → Some (i + 1) ≡ option_map suc (first_agreed keys row rows)
agreed_here keys row rows i key h is e at =
    let here : first_agreed (drop i keys) row rows ≡ Some 0 =
    ap (λ (ks : List KeyDef). first_agreed ks row rows) (drop-cons keys i key h)
    ∙ ap (λ (k : KeyDef). first_agreed (k ∷ drop (suc i) keys) row rows) (sym is)
    ∙ agreed_step key (drop (suc i) keys) row rows true e in
    let found : first_agreed keys row rows ≡ Some (i + 0) = sym at ∙ ap (option_map (λ (k : ℕ). i + k)) here in
    let one : i + 1 ≡ suc (i + 0) = omega arith in
    ap (λ (n : ℕ). Some n) one ∙ sym (ap (option_map suc) found)

pub agreed_next : (keys : List KeyDef) (row : List Value) (rows : List (List Value)) (i : ℕ) (key : KeyDef) → i < length keys → key ≡ get_or keys i key
    → list_any (λ other. agree_on row other key) rows ≡ false
    → option_map (λ (k : ℕ). i + k) (first_agreed (drop i keys) row rows) ≡ first_agreed keys row rows
    → option_map (λ (k : ℕ). (i + 1) + k) (first_agreed (drop (i + 1) keys) row rows) ≡ first_agreed keys row rows
agreed_next keys row rows i key h is e at =
    let one : suc i ≡ i + 1 = omega arith in
    let here : first_agreed (drop i keys) row rows ≡ option_map suc (first_agreed (drop (suc i) keys) row rows) =
    ap (λ (ks : List KeyDef). first_agreed ks row rows) (drop-cons keys i key h)
    ∙ ap (λ (k : KeyDef). first_agreed (k ∷ drop (suc i) keys) row rows) (sym is)
    ∙ agreed_step key (drop (suc i) keys) row rows false e in
    ap (λ (j : ℕ). option_map (λ (k : ℕ). (i + 1) + k) (first_agreed (drop j keys) row rows)) (sym one)
    ∙ sym (shift_two i (first_agreed (drop (suc i) keys) row rows))
    ∙ ap (option_map (λ (k : ℕ). i + k)) (sym here)
    ∙ at
