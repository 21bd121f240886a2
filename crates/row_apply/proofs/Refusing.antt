-- Whether the rows of a table refuse a change, by what storing its row comes to.
use Rattle.std.proofs.Common.{◌≡◌, ℕ, List, [], ◌∷◌, Bool, true, false, not, ◌&&◌, Option, Some, None, refl, sym, ap, ◌∙◌}
use Rattle.std.specs.Prelude.{is_some, is_ok, if◌then◌else◌}
use Rattle.std.specs.List.{list_any}
use Rattle.std.specs.Option.{option_map, option_and_then, option_map_or}
use Rattle.std.proofs.lemmas.Bool.{false_from_ne_true, true≢false, or_parts}
use Rattle.val_types.specs.declared.value.Value.{Value}
use Rattle.val_types.specs.declared.definitions.TableDef.{TableDef}
use Rattle.val_types.specs.declared.change.Change.{Change}
use Rattle.val_types.specs.declared.change.Change.TheVariants.{Insert, Update, Delete}
use Rattle.val_types.specs.Changes.{table_of}
use Rattle.val_types.specs.Fitting.{row_fits}
use Rattle.val_types.specs.Keys.{primary_key, same_values, agree_on, collide}
use Rattle.table_rules.specs.Tables.{Table}
use Rattle.table_rules.specs.Changes.{applied, may_put, put, rows_after, with_row, without, AreKept}
use Rattle.table_rules.specs.Stored.{table_named, has_key, row_of_key, row_at, rows_beside, fits_table, insertion, replacement}
use Rattle.table_rules.proofs.Storing.{applied_where, inserts_where, named_kept, replaces_where, without_is_beside}
use Rattle.table_rules.proofs.Taking.{Kept, as_kept, same_is, same_self, taken_out}
use Rattle.apply_model.specs.Rows.{Refusal, taken_if, replacing, removing, storing_refusal}
use Rattle.row_apply.specs.Changes.{is_row}

-- ---- by whether the change can be made

-- the rows of the table after a change, by the tables
rows_made : (c : Change) (ts : List Table) (t : Table) (b : Bool) → table_named (table_of c) ts ≡ Some t → is_some (applied c ts) ≡ b
    → is_some (rows_after t.definition c t.rows) ≡ b
rows_made c ts t b found e =
    sym (ap (λ (o : Option Table). option_map_or (λ (u : Table). is_some (rows_after u.definition c u.rows)) o false) found)
    ∙ sym (applied_where c ts) ∙ e

abbrev pub no_refusal : Option Refusal
no_refusal = None

abbrev pub key_taken_at : TableDef → List Value → Option Refusal
key_taken_at d row = Some (1062, primary_key d row)

put_made : (b : Bool) (d : TableDef) (row : List Value) (rows : List (List Value)) → is_some (if b then Some rows else None) ≡ true → taken_if b d row ≡ no_refusal
put_made true d row rows e = refl
put_made false d row rows e = cc

put_refused : (b : Bool) (d : TableDef) (row : List Value) (rows : List (List Value)) → is_some (if b then Some rows else None) ≡ false → taken_if b d row ≡ key_taken_at d row
put_refused true d row rows e = cc
put_refused false d row rows e = refl

replaced_made : (d : TableDef) (before after : List Value) (o : Option (List (List Value))) → is_some (option_and_then (put d after) o) ≡ true
    → replacing d before after o ≡ no_refusal
replaced_made d before after None e = cc
replaced_made d before after (Some others) e = put_made (may_put d after others) d after (with_row d after others) e

replaced_refused : (d : TableDef) (before after : List Value) (o : Option (List (List Value))) (others : List (List Value)) → o ≡ Some others
    → is_some (option_and_then (put d after) o) ≡ false → replacing d before after o ≡ key_taken_at d after
replaced_refused d before after None others is e = cc
replaced_refused d before after (Some rows) others is e = put_refused (may_put d after rows) d after (with_row d after rows) e

removed_made : (d : TableDef) (row : List Value) (o : Option (List (List Value))) → is_some o ≡ true → removing d row o ≡ no_refusal
removed_made d row None e = cc
removed_made d row (Some others) e = refl

made_by : (c : Change) (t : Table) → is_some (rows_after t.definition c t.rows) ≡ true → storing_refusal t.definition t.rows c ≡ no_refusal
made_by (Insert name row) t e = put_made (may_put t.definition row t.rows) t.definition row (with_row t.definition row t.rows) e
made_by (Update name before after) t e = replaced_made t.definition before after (without before t.rows) e
made_by (Delete name row) t e = removed_made t.definition row (without row t.rows) e

-- where it can be made, the rows do not refuse it
pub not_refused : (c : Change) (ts after : List Table) (t : Table) → table_named (table_of c) ts ≡ Some t → applied c ts ≡ Some after
    → storing_refusal t.definition t.rows c ≡ no_refusal
not_refused c ts after t found e = made_by c t (rows_made c ts t true found (ap is_some e))

-- ---- a row that is put

fits_there : (name : List ℕ) (row : List Value) (ts : List Table) (t : Table) (b : Bool) → table_named name ts ≡ Some t → fits_table name row ts ≡ b → row_fits t.definition.columns row ≡ b
fits_there name row ts t b found e = sym (ap (λ (o : Option Table). option_map_or (λ (u : Table). row_fits u.definition.columns row) o true) found) ∙ e

taken_unfit : (fits : Bool) (d : TableDef) (row : List Value) (rows : List (List Value)) → row_fits d.columns row ≡ fits → fits ≡ false → may_put d row rows ≡ false
taken_unfit fits d row rows is e = ap (λ (b : Bool). b && not (list_any (collide d row) rows)) (is ∙ e)

-- one that does not fit
pub insert_unfit : (name : List ℕ) (row : List Value) (ts : List Table) (t : Table) → table_named name ts ≡ Some t → fits_table name row ts ≡ false
    → storing_refusal t.definition t.rows (Insert name row) ≡ key_taken_at t.definition row
insert_unfit name row ts t found e =
    ap (λ (b : Bool). taken_if b t.definition row) (taken_unfit false t.definition row t.rows (fits_there name row ts t false found e) refl)

-- one of which a key is taken
pub insert_taken : (name : List ℕ) (row : List Value) (ts : List Table) (t : Table) → table_named name ts ≡ Some t → fits_table name row ts ≡ true
    → is_ok (insertion name row ts) ≡ false → storing_refusal t.definition t.rows (Insert name row) ≡ key_taken_at t.definition row
insert_taken name row ts t found fits e =
    put_refused (may_put t.definition row t.rows) t.definition row (with_row t.definition row t.rows)
    (rows_made (Insert name row) ts t false found (sym (inserts_where name row ts fits) ∙ e))

-- ---- a row that is there

key_there : (name : List ℕ) (key row : List Value) (ts : List Table) (t : Table) → table_named name ts ≡ Some t → row_at name key ts ≡ Some row → row_of_key t.definition key t.rows ≡ Some row
key_there name key row ts t found e = sym (ap (option_and_then (λ (u : Table). row_of_key u.definition key u.rows)) found) ∙ e

taken_there : (name : List ℕ) (key row : List Value) (ts : List Table) (t : Table) → AreKept ts → table_named name ts ≡ Some t → row_at name key ts ≡ Some row
    → without row t.rows ≡ Some (rows_beside t.definition key t.rows)
taken_there name key row ts t all found e =
    without_is_beside t.definition key row t.rows (as_kept t (named_kept name ts t all found)) (key_there name key row ts t found e)

-- it cannot be replaced by one that does not fit
pub update_unfit : (name : List ℕ) (key before row : List Value) (ts : List Table) (t : Table) → AreKept ts → table_named name ts ≡ Some t → row_at name key ts ≡ Some before
    → fits_table name row ts ≡ false → storing_refusal t.definition t.rows (Update name before row) ≡ key_taken_at t.definition row
update_unfit name key before row ts t all found there e =
    ap (replacing t.definition before row) (taken_there name key before ts t all found there)
    ∙ ap (λ (b : Bool). taken_if b t.definition row) (taken_unfit false t.definition row (rows_beside t.definition key t.rows) (fits_there name row ts t false found e) refl)

-- nor by one of which a key is taken
pub update_taken : (name : List ℕ) (key before row : List Value) (ts : List Table) (t : Table) → AreKept ts → table_named name ts ≡ Some t → row_at name key ts ≡ Some before
    → fits_table name row ts ≡ true → is_ok (replacement name key row ts) ≡ false → storing_refusal t.definition t.rows (Update name before row) ≡ key_taken_at t.definition row
update_taken name key before row ts t all found there fits e =
    replaced_refused t.definition before row (without before t.rows) (rows_beside t.definition key t.rows) (taken_there name key before ts t all found there)
    (rows_made (Update name before row) ts t false found (sym (replaces_where name key before row ts all fits there) ∙ e))

-- ---- a row that is not there

has_own_key : (d : TableDef) (x s : List Value) → same_values x s ≡ true → has_key d (primary_key d x) s ≡ true
has_own_key d x s e = ap (λ (y : List Value). same_values (primary_key d x) (primary_key d y)) (sym (same_is x s e)) ∙ same_self (primary_key d x)

-- rows without a key in common have other primary keys
has_other_key : (d : TableDef) (x s : List Value) → collide d s x ≡ false → has_key d (primary_key d x) s ≡ false
has_other_key d x s apart =
    false_from_ne_true (has_key d (primary_key d x) s) (λ same.
    let equal : primary_key d x ≡ primary_key d s = same_is (primary_key d x) (primary_key d s) same in
    true≢false (sym (same_self (primary_key d s)) ∙ ap (same_values (primary_key d s)) (sym equal)
    ∙ (or_parts (same_values (primary_key d s) (primary_key d x)) (list_any (agree_on s x) d.uniques) apart).0))

some_of : {A B : Type 0} (f : A → B) (o : Option A) (y : B) → option_map f o ≡ Some y → (z : A) × (o ≡ Some z)
some_of f (Some z) y e = (z, refl)
some_of f None y e = cc

found_step : (d : TableDef) (x s : List Value) (ss rest : List (List Value)) (same : Bool) → same_values x s ≡ same → Kept d (s ∷ ss)
    → ((left : List (List Value)) → without x ss ≡ Some left → row_of_key d (primary_key d x) ss ≡ Some x)
    → (if same then Some ss else option_map (λ (left : List (List Value)). s ∷ left) (without x ss)) ≡ Some rest
    → row_of_key d (primary_key d x) (s ∷ ss) ≡ Some x
found_step d x s ss rest true is kept later e = rw (has_own_key d x s is) (ap (λ (y : List Value). Some y) (sym (same_is x s is)))
found_step d x s ss rest false is kept later e =
    let left = some_of (λ (l : List (List Value)). s ∷ l) (without x ss) rest e in
    let out = taken_out d x ss left.0 kept.2 left.1 in
    rw (has_other_key d x s (out.each s kept.1).1) (later left.0 left.1)

-- a row that can be taken out is that of its key
found_by_key : (d : TableDef) (x : List Value) (rs rest : List (List Value)) → Kept d rs → without x rs ≡ Some rest → row_of_key d (primary_key d x) rs ≡ Some x
found_by_key d x [] rest kept e = cc
found_by_key d x (s ∷ ss) rest kept e = found_step d x s ss rest (same_values x s) refl kept (λ left f. found_by_key d x ss left kept.2 f) e

none_unless : (x : List Value) (o : Option (List (List Value))) → ((rest : List (List Value)) → o ≡ Some rest → ⊥) → o ≡ None
none_unless x None never = refl
none_unless x (Some rest) never = absurd (never rest refl)

pub row_found : (o : Option (List Value)) (row : List Value) → is_row o row ≡ true → o ≡ Some row
row_found None row e = cc
row_found (Some found) row e = ap (λ (y : List Value). Some y) (sym (same_is row found e))

other_found : (o : Option (List Value)) (row : List Value) → is_row o row ≡ false → o ≡ Some row → ⊥
other_found o row e is = true≢false (sym (same_self row) ∙ sym (ap (λ (p : Option (List Value)). is_row p row) is) ∙ e)

none_taken : (name : List ℕ) (row : List Value) (ts : List Table) (t : Table) → AreKept ts → table_named name ts ≡ Some t
    → is_row (row_at name (primary_key t.definition row) ts) row ≡ false → without row t.rows ≡ None
none_taken name row ts t all found e =
    none_unless row (without row t.rows) (λ rest is.
    other_found (row_at name (primary_key t.definition row) ts) row e
    (ap (option_and_then (λ (u : Table). row_of_key u.definition (primary_key t.definition row) u.rows)) found
    ∙ found_by_key t.definition row t.rows rest (as_kept t (named_kept name ts t all found)) is))

abbrev pub absent_at : TableDef → List Value → Option Refusal
absent_at d row = Some (1032, primary_key d row)

pub delete_absent : (name : List ℕ) (row : List Value) (ts : List Table) (t : Table) → AreKept ts → table_named name ts ≡ Some t
    → is_row (row_at name (primary_key t.definition row) ts) row ≡ false → storing_refusal t.definition t.rows (Delete name row) ≡ absent_at t.definition row
delete_absent name row ts t all found e = ap (removing t.definition row) (none_taken name row ts t all found e)

pub update_absent : (name : List ℕ) (before row : List Value) (ts : List Table) (t : Table) → AreKept ts → table_named name ts ≡ Some t
    → is_row (row_at name (primary_key t.definition before) ts) before ≡ false → storing_refusal t.definition t.rows (Update name before row) ≡ absent_at t.definition before
update_absent name before row ts t all found e = ap (replacing t.definition before row) (none_taken name before ts t all found e)
