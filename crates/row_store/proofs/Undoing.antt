-- Taking a change of rows back.
use Rattle.std.proofs.Common.{◌≡◌, List, [], ◌∷◌, Bool, true, false, not, ◌&&◌, cond, Option, Some, None, Ordering, Less, Equal, Greater, refl, sym, ap, ◌∙◌}
use Rattle.std.specs.Prelude.{is_some}
use Rattle.std.specs.List.{list_any}
use Rattle.std.specs.Option.{option_map, option_and_then}
use Rattle.std.specs.Ordering.{is_eq, is_lt, ordering_reverse}
use Rattle.val_types.specs.declared.value.Value.{Value}
use Rattle.val_types.specs.declared.definitions.TableDef.{TableDef}
use Rattle.val_types.specs.Order.{key_order}
use Rattle.val_types.specs.Fitting.{row_fits}
use Rattle.val_types.specs.Keys.{primary_key, same_values, collide}
use Rattle.table_rules.specs.Tables.{is_below}
use Rattle.table_rules.specs.Changes.{without, with_row, put}
use Rattle.table_rules.specs.Stored.{has_key, row_of_key, rows_beside}
use Rattle.val_types.proofs.Values.{key_order_total}
use Rattle.table_rules.proofs.Taking.{Kept, same_is, same_self, taken_out}
use Rattle.table_rules.proofs.Storing.{without_is_beside}

above_differs : (o : Ordering) → is_lt o ≡ true → is_eq (ordering_reverse o) ≡ false
above_differs Less e = refl
above_differs Equal e = cc
above_differs Greater e = cc

key_differs : (d : TableDef) (s row : List Value) → is_below d s row ≡ true → has_key d (primary_key d row) s ≡ false
key_differs d s row e =
    ap is_eq (key_order_total.antisymm (primary_key d row) (primary_key d s)) ∙ above_differs (key_order (primary_key d s) (primary_key d row)) e

some_is : {A : Type 0} (o : Option A) → is_some o ≡ true → (a : A) × (o ≡ Some a)
some_is None e = cc
some_is (Some a) e = (a, refl)

mapped_some : {A B : Type 0} (f : A → B) (o : Option A) → is_some (option_map f o) ≡ true → is_some o ≡ true
mapped_some f None e = cc
mapped_some f (Some a) e = refl

own_key_step : (d : TableDef) (row s : List Value) (ss : List (List Value)) (b : Bool) → same_values row s ≡ b → Kept d (s ∷ ss)
    → (is_some (without row ss) ≡ true → row_of_key d (primary_key d row) ss ≡ Some row)
    → is_some (cond b (Some ss) (option_map (λ (rest : List (List Value)). s ∷ rest) (without row ss))) ≡ true
    → row_of_key d (primary_key d row) (s ∷ ss) ≡ Some row
own_key_step d row s ss true e kept later found =
    let same : row ≡ s = same_is row s e in
    let key : has_key d (primary_key d row) s ≡ true = ap (λ (r : List Value). same_values (primary_key d row) (primary_key d r)) (sym same) ∙ same_self (primary_key d row) in
    ap (λ (b : Bool). cond b (Some s) (row_of_key d (primary_key d row) ss)) key ∙ ap (λ (r : List Value). Some r) (sym same)
own_key_step d row s ss false e kept later found =
    let there : is_some (without row ss) ≡ true = mapped_some (λ (rest : List (List Value)). s ∷ rest) (without row ss) found in
    let rest = some_is (without row ss) there in
    let below = (taken_out d row ss rest.0 kept.2 rest.1).each s kept.1 in
    ap (λ (b : Bool). cond b (Some s) (row_of_key d (primary_key d row) ss)) (key_differs d s row below.0) ∙ later there

-- a row that can be taken out is the row of its key
pub own_key : (d : TableDef) (row : List Value) (rows : List (List Value)) → Kept d rows → is_some (without row rows) ≡ true → row_of_key d (primary_key d row) rows ≡ Some row
own_key d row [] kept e = cc
own_key d row (s ∷ ss) kept e = own_key_step d row s ss (same_values row s) refl kept (own_key d row ss kept.2) e

-- taking it out leaves the rows with other keys
pub out_is_beside : (d : TableDef) (row : List Value) (rows : List (List Value)) → Kept d rows → is_some (without row rows) ≡ true → without row rows ≡ Some (rows_beside d (primary_key d row) rows)
out_is_beside d row rows kept e = without_is_beside d (primary_key d row) row rows kept (own_key d row rows kept e)

first_some : {A B : Type 0} (f : A → Option B) (o : Option A) → is_some (option_and_then f o) ≡ true → is_some o ≡ true
first_some f None e = cc
first_some f (Some a) e = refl

may_split : (fits taken : Bool) (rows : List (List Value)) → is_some (cond (fits && not taken) (Some rows) None) ≡ true
    → (fits ≡ true) × (taken ≡ false) × (cond (fits && not taken) (Some rows) None ≡ Some rows)
may_split true false rows e = (refl, refl, refl)
may_split true true rows e = cc
may_split false true rows e = cc
may_split false false rows e = cc

-- a row that can be put fits, and collides with none
pub put_split : (d : TableDef) (row : List Value) (rows : List (List Value)) → is_some (put d row rows) ≡ true
    → (row_fits d.columns row ≡ true) × (list_any (collide d row) rows ≡ false) × (put d row rows ≡ Some (with_row d row rows))
put_split d row rows e = may_split (row_fits d.columns row) (list_any (collide d row) rows) (with_row d row rows) e

-- what is known where a row can be taken out and another one put
pub record Exchanged (d : TableDef) (out into : List Value) (rows : List (List Value)) : Type 0 where
  pub fits : row_fits d.columns into ≡ true
  pub free : list_any (collide d into) (rows_beside d (primary_key d out) rows) ≡ false
  pub made : option_and_then (put d into) (without out rows) ≡ Some (with_row d into (rows_beside d (primary_key d out) rows))

pub exchanged : (d : TableDef) (out into : List Value) (rows : List (List Value)) → Kept d rows → is_some (option_and_then (put d into) (without out rows)) ≡ true → Exchanged d out into rows
exchanged d out into rows kept e =
    let beside : without out rows ≡ Some (rows_beside d (primary_key d out) rows) = out_is_beside d out rows kept (first_some (put d into) (without out rows) e) in
    let whole : option_and_then (put d into) (without out rows) ≡ put d into (rows_beside d (primary_key d out) rows) = ap (option_and_then (put d into)) beside in
    let parts = put_split d into (rows_beside d (primary_key d out) rows) (sym (ap (λ (o : Option (List (List Value))). is_some o) whole) ∙ e) in
    record { fits = parts.0; free = parts.1; made = whole ∙ parts.2 }
