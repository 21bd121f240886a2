-- Rows that have a key of another one, in the table at a place.
use Rattle.std.proofs.Common.{◌≡◌, ℕ, List, true, false, Option, Some, None, Result, Ok, Err, refl, sym, ap, ◌∙◌, find}
use Rattle.std.specs.Prelude.{is_some, IfOk}
use Rattle.std.specs.Option.{option_map, option_copied}
use Rattle.std.specs.Borrow.{Bor}
use Rattle.val_types.specs.declared.value.Value.{Value}
use Rattle.val_types.specs.declared.definitions.TableDef.{TableDef}
use Rattle.table_rules.specs.Tables.{Table}
use Rattle.table_rules.specs.Stored.{table_named, has_key_in_way, row_in_way}
use Rattle.table_rules.specs.Stores.{place_of}
use Rattle.sql_evaluation.specs.sql_meaning.Scenes.{Scene, done, needed, then_do, pure}
use Rattle.sql_evaluation.specs.exec_state.declared.stage.Stage.{Stage}
use Rattle.sql_evaluation.specs.exec_state.Stage.{scene_of}
use Rattle.sql_evaluation.proofs.of_exec_state.Snapshots.{definition_there}
use Rattle.changed_rows.specs.Changed.{StandsAt}
use Rattle.changed_rows.specs.Inserted.{InWay, found_by, way_of}
use Rattle.changed_rows.proofs.Places.{stands_place, stands_there}

some_definition : (o : Option Table) (d : TableDef) → option_map (λ (t : Table). t.definition) o ≡ Some d → (t : Table) × (o ≡ Some t) × (t.definition ≡ d)
some_definition None d e = cc
some_definition (Some t) d e = (t, refl, cc)

-- the table that stands there
table_here : (at : ℕ) (d : TableDef) (s : Stage) → StandsAt at d s → (t : Table) × (table_named d.name s.tables.tables ≡ Some t) × (t.definition ≡ d)
unfolding scene_of
table_here at d s h =
    some_definition (table_named d.name s.tables.tables) d (sym (definition_there d.name (scene_of s) at (stands_place at d s h)) ∙ stands_there at d s h)

key_found : (at : ℕ) (d : TableDef) (s : Stage) (row : List Value) (which : ℕ) (o : Option (Bor (List Value))) (r : Option (List Value)) → StandsAt at d s
    → ((name : List ℕ) (table : Table) → place_of name s.tables.tables ≡ Some at → table_named name s.tables.tables ≡ Some table → option_copied o ≡ find (has_key_in_way table.definition row which) table.rows)
    → r ≡ option_copied o → found_by d (has_key_in_way d row which) (scene_of s) ≡ done r (scene_of s)
unfolding scene_of
key_found at d s row which o r h looked is =
    let t = table_here at d s h in
    let found : option_copied o ≡ find (has_key_in_way t.0.definition row which) t.0.rows = looked d.name t.0 (stands_place at d s h) t.1 in
    ap (λ (x : Option Table). then_do (needed 1146 x (scene_of s)) (λ table. pure (find (has_key_in_way d row which) table.rows))) t.1
    ∙ ap (λ (x : Option (List Value)). done x (scene_of s)) (sym (is ∙ found ∙ ap (λ (e : TableDef). find (has_key_in_way e row which) t.0.rows) t.2))

way_found : (at : ℕ) (d : TableDef) (s : Stage) (row : List Value) (o : Option (Bor (List Value))) (r : Option (List Value)) → StandsAt at d s
    → ((name : List ℕ) (table : Table) → place_of name s.tables.tables ≡ Some at → table_named name s.tables.tables ≡ Some table → option_copied o ≡ row_in_way table.definition row table.rows)
    → r ≡ option_copied o → way_of d row (scene_of s) ≡ done r (scene_of s)
unfolding scene_of
way_found at d s row o r h looked is =
    let t = table_here at d s h in
    let found : option_copied o ≡ row_in_way t.0.definition row t.0.rows = looked d.name t.0 (stands_place at d s h) t.1 in
    ap (λ (x : Option Table). then_do (needed 1146 x (scene_of s)) (λ table. pure (row_in_way d row table.rows))) t.1
    ∙ ap (λ (x : Option (List Value)). done x (scene_of s)) (sym (is ∙ found ∙ ap (λ (e : TableDef). row_in_way e row t.0.rows) t.2))

none_of : (o : Option (Bor (List Value))) → is_some o ≡ false → None ≡ option_copied o
none_of None e = refl
none_of (Some x) e = cc

some_of : (o : Option (Bor (List Value))) → is_some o ≡ true → (r : List Value) × (Some r ≡ option_copied o)
some_of None e = cc
some_of (Some x) e = (x.now, refl)

pub way_clear : (at : ℕ) (d : TableDef) (s : Stage) (row : List Value) (o : Option (Bor (List Value))) → StandsAt at d s
    → ((name : List ℕ) (table : Table) → place_of name s.tables.tables ≡ Some at → table_named name s.tables.tables ≡ Some table → option_copied o ≡ row_in_way table.definition row table.rows)
    → is_some o ≡ false → way_of d row (scene_of s) ≡ done None (scene_of s)
way_clear at d s row o h looked e = way_found at d s row o None h looked (none_of o e)

pub way_taken : (at : ℕ) (d : TableDef) (s : Stage) (row : List Value) (o : Option (Bor (List Value))) → StandsAt at d s
    → ((name : List ℕ) (table : Table) → place_of name s.tables.tables ≡ Some at → table_named name s.tables.tables ≡ Some table → option_copied o ≡ row_in_way table.definition row table.rows)
    → is_some o ≡ true → InWay d row (scene_of s)
way_taken at d s row o h looked e =
    let r = some_of o e in record { other = r.0; there = way_found at d s row o (Some r.0) h looked r.1 }

pub way_copied : {E : Type 0} (at : ℕ) (d : TableDef) (s : Stage) (row : List Value) (o : Option (Bor (List Value))) (r : Result (Option (List Value)) E) → StandsAt at d s
    → ((name : List ℕ) (table : Table) → place_of name s.tables.tables ≡ Some at → table_named name s.tables.tables ≡ Some table → option_copied o ≡ row_in_way table.definition row table.rows)
    → IfOk r (λ copy. copy ≡ option_copied o) → IfOk r (λ found. way_of d row (scene_of s) ≡ done found (scene_of s))
way_copied at d s row o (Ok r) h looked is = way_found at d s row o r h looked is
way_copied at d s row o (Err e) h looked is = tt

pub key_copied : {E : Type 0} (at : ℕ) (d : TableDef) (s : Stage) (row : List Value) (which : ℕ) (o : Option (Bor (List Value))) (r : Result (Option (List Value)) E) → StandsAt at d s
    → ((name : List ℕ) (table : Table) → place_of name s.tables.tables ≡ Some at → table_named name s.tables.tables ≡ Some table → option_copied o ≡ find (has_key_in_way table.definition row which) table.rows)
    → IfOk r (λ copy. copy ≡ option_copied o) → IfOk r (λ found. found_by d (has_key_in_way d row which) (scene_of s) ≡ done found (scene_of s))
key_copied at d s row which o (Ok r) h looked is = key_found at d s row which o r h looked is
key_copied at d s row which o (Err e) h looked is = tt

-- one that is in the way is met
pub way_met : (d : TableDef) (row : List Value) (scene : Scene) → InWay d row scene → way_of d row scene ≡ done None scene → ⊥
way_met d row scene h none =
    let same : done None scene ≡ done (Some h.other) scene = sym none ∙ h.there in
    cc
