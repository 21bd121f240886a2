-- A change of a row made again, or why it cannot be.
use Rattle.std.proofs.Common.{◌≡◌, ℕ, List, [], ◌∷◌, ◌++◌, Bool, true, false, not, ◌&&◌, Option, Some, None, Err, refl, sym, ap, ◌∙◌}
use Rattle.std.specs.Prelude.{is_some, is_ok, if◌then◌else◌, reverse, slice_get}
use Rattle.std.specs.List.{list_any}
use Rattle.std.specs.Option.{option_map, option_and_then, option_map_or}
use Rattle.std.proofs.lemmas.Bool.{false_from_ne_true, true≢false, or_parts}
use Rattle.std.proofs.lemmas.List.{reverse-append}
use Rattle.std.proofs.lemmas.Option.{slice_get-map}
use Rattle.val_types.specs.declared.value.Value.{Value}
use Rattle.val_types.specs.declared.change.Change.{Change}
use Rattle.val_types.specs.declared.change.Change.TheVariants.{Insert, Update, Delete}
use Rattle.val_types.specs.declared.definitions.TableDef.{TableDef}
use Rattle.val_types.specs.Changes.{table_of}
use Rattle.val_types.specs.Fitting.{row_fits}
use Rattle.val_types.specs.Keys.{primary_key, same_values, agree_on, collide}
use Rattle.table_rules.specs.Tables.{Table}
use Rattle.table_rules.specs.Changes.{applied, AreKept, put, rows_after, with_row, without}
use Rattle.table_rules.specs.Stored.{all_applied, table_named, has_key, row_of_key, row_at, fits_table, insertion, replacement, deletion, Obstacle, carried_out}
use Rattle.table_rules.specs.Stores.{place_of, definitions_of}
use Rattle.table_rules.proofs.Equations.{applied_front, applied_none, deletion_by_row}
use Rattle.table_rules.proofs.Places.{place_is_of_name, none_named}
use Rattle.table_rules.proofs.Storing.{applied_where, inserts_where, named_kept, replaces_where}
use Rattle.table_rules.proofs.Taking.{Kept, as_kept, same_is, same_self, taken_out}
use Rattle.prog_work.proofs.of_dml_rows.Noting.{carried, inserted, replaced}
use Rattle.store_load.specs.Rows.{IsNowhere, definition_of, is_row}

-- ---- the table of a name

pub definition_there : (name : List ℕ) (ts : List Table) (at : ℕ) (o : Option TableDef) → Some at ≡ place_of name ts → o ≡ slice_get (definitions_of ts) at
    → o ≡ option_map definition_of (table_named name ts)
definition_there name ts at o is e = e ∙ slice_get-map definition_of ts at ∙ ap (option_map definition_of) (place_is_of_name name ts at (sym is))

abbrev no_definition_of : Option TableDef
no_definition_of = None

pub no_definition : (name : List ℕ) (ts : List Table) → None ≡ place_of name ts → no_definition_of ≡ option_map definition_of (table_named name ts)
no_definition name ts is = sym (ap (option_map definition_of) (none_named name ts (sym is)))

-- ---- what cannot be made

none_of : {A : Type 0} (o : Option A) → is_some o ≡ false → o ≡ None
none_of None e = refl
none_of (Some x) e = cc

by_table : (c : Change) (ts : List Table) (o : Option Table) (b : Bool) → table_named (table_of c) ts ≡ o → option_map_or (λ (t : Table). is_some (rows_after t.definition c t.rows)) o false ≡ b
    → is_some (applied c ts) ≡ b
by_table c ts o b found e = applied_where c ts ∙ ap (λ (p : Option Table). option_map_or (λ (t : Table). is_some (rows_after t.definition c t.rows)) p false) found ∙ e

-- without a table, and where its rows cannot be changed so
no_table : (c : Change) (ts : List Table) → table_named (table_of c) ts ≡ None → applied c ts ≡ None
no_table c ts found = none_of (applied c ts) (by_table c ts None false found refl)

no_rows : (c : Change) (ts : List Table) (t : Table) → table_named (table_of c) ts ≡ Some t → rows_after t.definition c t.rows ≡ None → applied c ts ≡ None
no_rows c ts t found none = none_of (applied c ts) (by_table c ts (Some t) false found (ap is_some none))

not_put : (d : TableDef) (row : List Value) (rows : List (List Value)) → row_fits d.columns row ≡ false → put d row rows ≡ None
not_put d row rows unfit = ap (λ (b : Bool). if b && not (list_any (collide d row) rows) then Some (with_row d row rows) else None) unfit

not_put_back : (d : TableDef) (row : List Value) (o : Option (List (List Value))) → row_fits d.columns row ≡ false → option_and_then (put d row) o ≡ None
not_put_back d row None unfit = refl
not_put_back d row (Some rows) unfit = not_put d row rows unfit

-- a row that does not fit has a table
unfit_by : (row : List Value) (o : Option Table) → option_map_or (λ (t : Table). row_fits t.definition.columns row) o true ≡ false → (t : Table) × ((o ≡ Some t) × (row_fits t.definition.columns row ≡ false))
unfit_by row None e = cc
unfit_by row (Some t) e = (t, (refl, e))

pub unfit_insert : (name : List ℕ) (row : List Value) (ts : List Table) → fits_table name row ts ≡ false → applied (Insert name row) ts ≡ None
unfit_insert name row ts e =
    let t = unfit_by row (table_named name ts) e in
    no_rows (Insert name row) ts t.0 t.1.0 (not_put t.0.definition row t.0.rows t.1.1)

pub unfit_update : (name : List ℕ) (before row : List Value) (ts : List Table) → fits_table name row ts ≡ false → applied (Update name before row) ts ≡ None
unfit_update name before row ts e =
    let t = unfit_by row (table_named name ts) e in
    no_rows (Update name before row) ts t.0 t.1.0 (not_put_back t.0.definition row (without before t.0.rows) t.1.1)

pub refused_insert : (name : List ℕ) (row : List Value) (ts : List Table) (o : Obstacle) → fits_table name row ts ≡ true → insertion name row ts ≡ Err o → applied (Insert name row) ts ≡ None
refused_insert name row ts o fits e = none_of (applied (Insert name row) ts) (sym (inserts_where name row ts fits) ∙ ap is_ok e)

pub refused_update : (name : List ℕ) (key before row : List Value) (ts : List Table) (o : Obstacle) → AreKept ts → fits_table name row ts ≡ true → row_at name key ts ≡ Some before
    → replacement name key row ts ≡ Err o → applied (Update name before row) ts ≡ None
refused_update name key before row ts o kept fits there e = none_of (applied (Update name before row) ts) (sym (replaces_where name key before row ts kept fits there) ∙ ap is_ok e)

pub refused_delete : (name : List ℕ) (key row : List Value) (ts : List Table) (o : Obstacle) → row_at name key ts ≡ Some row → deletion name key ts ≡ Err o → applied (Delete name row) ts ≡ None
refused_delete name key row ts o there e = let is = deletion_by_row name key ts (Some row) there in cc

-- ---- what was made

pub made_insert : (name : List ℕ) (row : List Value) (ts after : List Table) → carried_out (insertion name row ts) ts ≡ Some after → applied (Insert name row) ts ≡ Some after
made_insert name row ts after made = carried (insertion name row ts) (Insert name row) ts after (inserted name row ts after made) made

pub made_update : (name : List ℕ) (key before row : List Value) (ts after : List Table) → row_at name key ts ≡ Some before → carried_out (replacement name key row ts) ts ≡ Some after
    → applied (Update name before row) ts ≡ Some after
made_update name key before row ts after there made = carried (replacement name key row ts) (Update name before row) ts after (replaced name key row before ts after there made) made

pub made_delete : (name : List ℕ) (key row : List Value) (ts after : List Table) → row_at name key ts ≡ Some row → carried_out (deletion name key ts) ts ≡ Some after
    → applied (Delete name row) ts ≡ Some after
made_delete name key row ts after there made = carried (deletion name key ts) (Delete name row) ts after (deletion_by_row name key ts (Some row) there) made

-- ---- a row that is not there

has_own_key : (d : TableDef) (x s : List Value) → same_values x s ≡ true → has_key d (primary_key d x) s ≡ true
has_own_key d x s e = ap (λ (y : List Value). same_values (primary_key d x) (primary_key d y)) (sym (same_is x s e)) ∙ same_self (primary_key d x)

-- rows without a key in common have other primary keys
has_other_key : (d : TableDef) (x s : List Value) → collide d s x ≡ false → has_key d (primary_key d x) s ≡ false
has_other_key d x s apart =
    false_from_ne_true (has_key d (primary_key d x) s) (λ same.
    let equal : primary_key d x ≡ primary_key d s = same_is (primary_key d x) (primary_key d s) same in
    true≢false (sym (same_self (primary_key d s)) ∙ ap (same_values (primary_key d s)) (sym equal)
    ∙ (or_parts (same_values (primary_key d s) (primary_key d x)) (list_any (agree_on s x) d.uniques) apart).0))

some_of : {A B : Type 0} (f : A → B) (o : Option A) (y : B) → option_map f o ≡ Some y → (z : A) × (o ≡ Some z)
some_of f (Some z) y e = (z, refl)
some_of f None y e = cc

found_step : (d : TableDef) (x s : List Value) (ss rest : List (List Value)) (same : Bool) → same_values x s ≡ same → Kept d (s ∷ ss)
    → ((left : List (List Value)) → without x ss ≡ Some left → row_of_key d (primary_key d x) ss ≡ Some x)
    → (if same then Some ss else option_map (λ (left : List (List Value)). s ∷ left) (without x ss)) ≡ Some rest
    → row_of_key d (primary_key d x) (s ∷ ss) ≡ Some x
found_step d x s ss rest true is kept later e = rw (has_own_key d x s is) (ap (λ (y : List Value). Some y) (sym (same_is x s is)))
found_step d x s ss rest false is kept later e =
    let left = some_of (λ (l : List (List Value)). s ∷ l) (without x ss) rest e in
    let out = taken_out d x ss left.0 kept.2 left.1 in
    rw (has_other_key d x s (out.each s kept.1).1) (later left.0 left.1)

-- a row that can be taken out is that of its key
found_by_key : (d : TableDef) (x : List Value) (rs rest : List (List Value)) → Kept d rs → without x rs ≡ Some rest → row_of_key d (primary_key d x) rs ≡ Some x
found_by_key d x [] rest kept e = cc
found_by_key d x (s ∷ ss) rest kept e = found_step d x s ss rest (same_values x s) refl kept (λ left f. found_by_key d x ss left kept.2 f) e

none_unless : (x : List Value) (o : Option (List (List Value))) → ((rest : List (List Value)) → o ≡ Some rest → ⊥) → o ≡ None
none_unless x None never = refl
none_unless x (Some rest) never = absurd (never rest refl)

pub row_found : (o : Option (List Value)) (row : List Value) → is_row o row ≡ true → o ≡ Some row
row_found None row e = cc
row_found (Some found) row e = ap (λ (y : List Value). Some y) (sym (same_is row found e))

other_found : (o : Option (List Value)) (row : List Value) → is_row o row ≡ false → o ≡ Some row → ⊥
other_found o row e is = true≢false (sym (same_self row) ∙ sym (ap (λ (p : Option (List Value)). is_row p row) is) ∙ e)

none_taken : (name : List ℕ) (row : List Value) (ts : List Table) (t : Table) → AreKept ts → table_named name ts ≡ Some t
    → is_row (row_at name (primary_key t.definition row) ts) row ≡ false → without row t.rows ≡ None
none_taken name row ts t all found e =
    none_unless row (without row t.rows) (λ rest is.
    other_found (row_at name (primary_key t.definition row) ts) row e
    (ap (option_and_then (λ (u : Table). row_of_key u.definition (primary_key t.definition row) u.rows)) found
    ∙ found_by_key t.definition row t.rows rest (as_kept t (named_kept name ts t all found)) is))

none_named_so : (o : Option Table) → no_definition_of ≡ option_map definition_of o → o ≡ None
none_named_so None e = refl
none_named_so (Some t) e = cc

named_so : (o : Option Table) (d : TableDef) → Some d ≡ option_map definition_of o → (t : Table) × ((o ≡ Some t) × (d ≡ t.definition))
named_so None d e = cc
named_so (Some t) d e = let same : d ≡ t.definition = cc in (t, (refl, same))

pub nowhere_without : (name : List ℕ) (row : List Value) (ts : List Table) → no_definition_of ≡ option_map definition_of (table_named name ts) → IsNowhere name row ts
nowhere_without name row ts e =
    let none = none_named_so (table_named name ts) e in
    record { deletes = no_table (Delete name row) ts none; replaces = λ after. no_table (Update name row after) ts none }

pub nowhere : (name : List ℕ) (row key : List Value) (d : TableDef) (ts : List Table) → AreKept ts → Some d ≡ option_map definition_of (table_named name ts) → key ≡ primary_key d row
    → is_row (row_at name key ts) row ≡ false → IsNowhere name row ts
nowhere name row key d ts all e is absent =
    let t = named_so (table_named name ts) d e in
    let none = none_taken name row ts t.0 all t.1.0 (ap (λ (k : List Value). is_row (row_at name k ts) row) (sym (is ∙ ap (λ (c : TableDef). primary_key c row) t.1.1)) ∙ absent) in
    record {
      deletes = no_rows (Delete name row) ts t.0 t.1.0 none;
      replaces = λ after. no_rows (Update name row after) ts t.0 t.1.0 (ap (option_and_then (put t.0.definition after)) none);
    }

-- ---- changes one after the other, the last of a list that is turned round first

pub none_left : (left : List Change) (ts after : List Table) (o : Option (List Table)) → left ≡ [] → all_applied (reverse left) ts ≡ o → o ≡ Some ts
none_left left ts after o none is = sym is ∙ ap (λ (cs : List Change). all_applied (reverse cs) ts) none ∙ applied_none ts

first_left : (left rest : List Change) (c : Change) (ts : List Table) → left ≡ rest ++ c ∷ [] → all_applied (reverse left) ts ≡ option_and_then (all_applied (reverse rest)) (applied c ts)
first_left left rest c ts is = ap (λ (cs : List Change). all_applied cs ts) (ap (λ (cs : List Change). reverse cs) is ∙ reverse-append rest (c ∷ [])) ∙ applied_front c (reverse rest) ts

pub none_made : (left rest : List Change) (c : Change) (ts : List Table) (o : Option (List Table)) → left ≡ rest ++ c ∷ [] → applied c ts ≡ None → all_applied (reverse left) ts ≡ o → o ≡ None
none_made left rest c ts o is none so_far = sym so_far ∙ first_left left rest c ts is ∙ ap (option_and_then (all_applied (reverse rest))) none

pub one_made : (left rest : List Change) (c : Change) (ts after : List Table) (o : Option (List Table)) → left ≡ rest ++ c ∷ [] → applied c ts ≡ Some after → all_applied (reverse left) ts ≡ o
    → all_applied (reverse rest) after ≡ o
one_made left rest c ts after o is made so_far = sym (first_left left rest c ts is ∙ ap (option_and_then (all_applied (reverse rest))) made) ∙ so_far
