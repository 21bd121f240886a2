-- Variables that are set one after the other, each of a name that is not there yet.
use Rattle.std.proofs.Common.{◌≡◌, ℕ, Bool, true, false, cond, List, [], ◌∷◌, ◌++◌, refl, sym, ap, ◌∙◌, subst, append_assoc}
use Rattle.std.specs.Prelude.{nat_eq}
use Rattle.std.specs.List.{AllByRecursion, IsDistinct}
use Rattle.std.specs.Map.{keys_of}
use Rattle.std.specs.Cmp.Lexicographic.{pointwise}
use Rattle.std.proofs.lemmas.Cmp.{nat_list_eq_equiv}
use Rattle.std.proofs.lemmas.Map.Keys.{IsDistinct-head, IsDistinct-tail}
use Rattle.val_types.specs.declared.value.Value.{Value}
use Rattle.log_entries.specs.Variables.{variable_set}

key_there : (P : List ℕ → Type 0) (front back : List (List ℕ × Value)) (name : List ℕ) (value : Value) → AllByRecursion P (keys_of (front ++ (name, value) ∷ back)) → P name
key_there P [] back name value all = all.0
key_there P (e ∷ es) back name value all = key_there P es back name value all.1

passed : (same : Bool) (e : List ℕ × Value) (value : Value) (es more : List (List ℕ × Value)) → same ≡ false → cond same ((e.0, value) ∷ es) (e ∷ more) ≡ e ∷ more
passed true e value es more differ = cc
passed false e value es more differ = refl

-- a variable of a name that none before it has goes last
pub set_behind : (front back : List (List ℕ × Value)) (name : List ℕ) (value : Value) → IsDistinct (pointwise nat_eq) (keys_of (front ++ (name, value) ∷ back))
    → variable_set front name value ≡ front ++ (name, value) ∷ []
set_behind [] back name value distinct = refl
set_behind (e ∷ es) back name value distinct =
    let other : pointwise nat_eq name e.0 ≡ false =
    nat_list_eq_equiv.symm name e.0 ∙ key_there (λ other. pointwise nat_eq e.0 other ≡ false) es back name value (IsDistinct-head (pointwise nat_eq) e.0 _ distinct) in
    passed (pointwise nat_eq name e.0) e value es (variable_set es name value) other
    ∙ ap (λ (rest : List (List ℕ × Value)). e ∷ rest) (set_behind es back name value (IsDistinct-tail (pointwise nat_eq) e.0 _ distinct))

-- one more is set in a copy of those in front
pub copied_more : (all front left rest copy : List (List ℕ × Value)) (name : List ℕ) (value set : Value) → front ++ left ≡ all → left ≡ (name, value) ∷ rest
    → IsDistinct (pointwise nat_eq) (keys_of all) → set ≡ value → copy ≡ variable_set front name set → copy ++ rest ≡ all
copied_more all front left rest copy name value set whole first distinct same is =
    let parts : front ++ (name, value) ∷ rest ≡ all = ap (λ (l : List (List ℕ × Value)). front ++ l) (sym first) ∙ whole in
    let apart : IsDistinct (pointwise nat_eq) (keys_of (front ++ (name, value) ∷ rest)) = subst (λ (l : List (List ℕ × Value)). IsDistinct (pointwise nat_eq) (keys_of l)) (sym parts) distinct in
    ap (λ (c : List (List ℕ × Value)). c ++ rest) (is ∙ ap (λ (v : Value). variable_set front name v) same ∙ set_behind front rest name value apart)
    ∙ append_assoc front ((name, value) ∷ []) rest ∙ parts
