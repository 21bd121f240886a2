-- Rows that are others.
use Rattle.std.proofs.Common.{◌≡◌, ℕ, Bool, true, false, eqb, length, List, [], ◌∷◌, Option, Some, None, refl, sym, ap, ◌∙◌, arith}
use Rattle.std.specs.Option.{option_map_or}
use Rattle.std.proofs.lemmas.Bool.{ne_eqb}
use Rattle.std.specs.Ordering.{is_eq}
use Rattle.std.specs.declared.cmp.Ordering.{Ordering}
use Rattle.std.specs.declared.cmp.Ordering.TheVariants.{Less, Equal, Greater}
use Rattle.val_types.specs.declared.value.Value.{Value}
use Rattle.table_rules.specs.Tables.{Table}
use Rattle.table_rules.specs.Stored.{rows_of}
use Rattle.table_rules.specs.Stores.{place_of}
use Rattle.table_rules.proofs.Places.{none_named}
use Rattle.store_open.specs.Filling.{AreSame}

firsts : (x y : List Value) (xs ys : List (List Value)) → x ∷ xs ≡ y ∷ ys → x ≡ y
firsts x y xs ys e = cc

rests : (x y : List Value) (xs ys : List (List Value)) → x ∷ xs ≡ y ∷ ys → xs ≡ ys
rests x y xs ys e = cc

-- a list of some items is no other without any
pub nothing_left : (x : List Value) (xs ys : List (List Value)) → ys ≡ [] → x ∷ xs ≡ ys → ⊥
nothing_left x xs ys none e = let never : x ∷ xs ≡ [] = e ∙ none in cc

pub firsts_differ : (x y : List Value) (xs ys left right : List (List Value)) → left ≡ x ∷ xs → right ≡ y ∷ ys → (x ≡ y → ⊥) → left ≡ right → ⊥
firsts_differ x y xs ys left right is there other e = other (firsts x y xs ys (sym is ∙ e ∙ there))

pub firsts_same : (x y : List Value) (xs ys left right : List (List Value)) → left ≡ x ∷ xs → right ≡ y ∷ ys → x ≡ y → xs ≡ ys → left ≡ right
firsts_same x y xs ys left right is there same rest = is ∙ ap (λ (z : List Value). z ∷ xs) same ∙ ap (λ (zs : List (List Value)). y ∷ zs) rest ∙ sym there

pub rests_same : (x y : List Value) (xs ys left right : List (List Value)) → left ≡ x ∷ xs → right ≡ y ∷ ys → left ≡ right → xs ≡ ys
rests_same x y xs ys left right is there e = rests x y xs ys (sym is ∙ e ∙ there)

-- a table that is not there has no rows
pub rows_nowhere : (name : List ℕ) (ts : List Table) → place_of name ts ≡ None → rows_of name ts ≡ []
rows_nowhere name ts none = ap (λ (o : Option Table). option_map_or (λ (t : Table). t.rows) o []) (none_named name ts none)

-- no rows are others exactly where these are none
pub none_same : (b : Bool) (rows others : List (List Value)) → rows ≡ [] → b ≡ eqb (length others) 0 → AreSame b rows others
none_same true rows [] none e = none
none_same true rows (x ∷ xs) none e =
    let some : eqb (length (x ∷ xs)) 0 ≡ false = ne_eqb _ _ (λ n. omega arith) in
    cc
none_same false rows [] none e = cc
none_same false rows (x ∷ xs) none e = λ same. nothing_left x xs rows none (sym same)
