-- What storing a row comes to is what the definitions' actions on a scene give.
use Rattle.std.proofs.Common.{◌≡◌, ℕ, List, [], ◌∷◌, ◌++◌, Bool, true, false, ◌&&◌, cond, Option, Some, None, Result, Ok, Err, refl, sym, ap, ◌∙◌}
use Rattle.std.specs.Prelude.{is_some, is_none, is_ok, slice_get}
use Rattle.std.specs.Option.{option_map, option_map_or}
use Rattle.val_types.specs.declared.value.Value.{Value}
use Rattle.val_types.specs.declared.change.Change.{Change}
use Rattle.val_types.specs.declared.change.Change.TheVariants.{Insert, Update, Delete}
use Rattle.val_types.specs.declared.definitions.TableDef.{TableDef}
use Rattle.val_types.specs.Fitting.{row_fits}
use Rattle.val_types.specs.Keys.{primary_key}
use Rattle.table_rules.specs.Tables.{Table}
use Rattle.table_rules.specs.Changes.{applied, rows_after}
use Rattle.table_rules.specs.Stored.{Obstacle, key_taken, row_absent, table_named, rows_beside, key_in_way, where_found, unless_taken, insertion_in, insertion, carried_out, fits_table}
use Rattle.table_rules.specs.Stores.{place_of, definitions_of, fits_at}
use Rattle.table_rules.proofs.Equations.{insertion_by}
use Rattle.table_rules.proofs.Places.{fits_by_place, place_has_name}
use Rattle.table_rules.proofs.Storing.{applied_where, inserts_where}
use Rattle.dml_rows.specs.row_store.Stores.{is_standing, exchange, removal}
use Rattle.dml_rows.proofs.of_row_store.Exchanging.{exchange_as, removal_as}
use Rattle.dml_rows.specs.Noted.{changes_of}
use Rattle.sql_meaning.specs.Scenes.{Scene, Ending, Action, done, failed, then_do, ◌>>=◌, require, make, noted}
use Rattle.sql_meaning.specs.Changing.{take_out, put_in_place}
use Rattle.exec_state.proofs.Snapshots.{definition_there}

-- ---- changes made

none_of : {A : Type 0} (o : Option A) → is_some o ≡ false → o ≡ None
none_of None e = refl
none_of (Some a) e = cc

made : (code : ℕ) (change : Change) (scene : Scene) (tables : List Table) → applied change scene.tables ≡ Some tables
    → make code change scene ≡ done tt (noted change scene tables)
made code change scene tables e = rw (make, e) refl

not_made : (code : ℕ) (change : Change) (scene : Scene) → applied change scene.tables ≡ None → make code change scene ≡ failed code scene
not_made code change scene e = rw (make, e) refl

-- the scene behind a change that was stored and noted
abbrev stored : Scene → List Table → List Change → Scene
stored scene tables changes = record scene { tables = tables; changes = changes }

abbrev is_done : Scene → Ending (Unit {0})
is_done scene = done tt scene

noted_as : (change : Change) (scene : Scene) (tables : List Table) (changes : List Change) → changes ≡ scene.changes ++ change ∷ []
    → is_done (noted change scene tables) ≡ is_done (stored scene tables changes)
noted_as change scene tables changes e = ap (λ (cs : List Change). is_done (stored scene tables cs)) (sym e)

-- an error behind which the tables and the changes are as before
pub failed_so : {A : Type 0} (ending : Ending A) (code : ℕ) (scene : Scene) (tables : List Table) (changes : List Change)
    → ending ≡ failed code scene → tables ≡ scene.tables → changes ≡ scene.changes → ending ≡ failed code (stored scene tables changes)
failed_so ending code scene tables changes e same now =
    e ∙ ap (λ (ts : List Table). failed code (stored scene ts scene.changes)) (sym same) ∙ ap (λ (cs : List Change). failed code (stored scene tables cs)) (sym now)

-- ---- a row put in

abbrev changes_rows : Change → Table → Bool
changes_rows change t = is_some (rows_after t.definition change t.rows)

unfit_in : (name : List ℕ) (row : List Value) (o : Option Table) → option_map_or (λ (t : Table). row_fits t.definition.columns row) o true ≡ false
    → option_map_or (changes_rows (Insert name row)) o false ≡ false
unfit_in name row None e = cc
unfit_in name row (Some t) e = rw e refl

-- a row that does not fit
pub insert_unfit : (name : List ℕ) (row : List Value) (at : ℕ) (scene : Scene) → place_of name scene.tables ≡ Some at → fits_at at row scene.tables ≡ false
    → make 1062 (Insert name row) scene ≡ failed 1062 scene
insert_unfit name row at scene here e =
    let fits : fits_table name row scene.tables ≡ false = sym (fits_by_place name row scene.tables at here) ∙ e in
    not_made 1062 (Insert name row) scene
    (none_of (applied (Insert name row) scene.tables) (applied_where (Insert name row) scene.tables ∙ unfit_in name row (table_named name scene.tables) fits))

unless_is : (o : Option ℕ) (change made' : Change) → unless_taken o change ≡ Ok made' → change ≡ made'
unless_is None change made' e = cc
unless_is (Some which) change made' e = cc

insertion_is : (name : List ℕ) (row : List Value) (o : Option Table) (change : Change) → where_found o (insertion_in name row) ≡ Ok change → Insert name row ≡ change
insertion_is name row None change e = cc
insertion_is name row (Some t) change e = unless_is (key_in_way t.definition row t.rows) (Insert name row) change e

insert_as : (name : List ℕ) (row : List Value) (scene : Scene) (tables : List Table) (changes : List Change) (step : Result Change Obstacle)
    → insertion name row scene.tables ≡ step → carried_out step scene.tables ≡ Some tables → changes ≡ scene.changes ++ changes_of step
    → make 1062 (Insert name row) scene ≡ done tt (stored scene tables changes)
insert_as name row scene tables changes (Ok change) is carried now =
    let same : Insert name row ≡ change = insertion_is name row (table_named name scene.tables) change (sym (insertion_by name row scene.tables (table_named name scene.tables) refl) ∙ is) in
    made 1062 (Insert name row) scene tables (ap (λ (c : Change). applied c scene.tables) same ∙ carried)
    ∙ noted_as (Insert name row) scene tables changes (now ∙ ap (λ (c : Change). scene.changes ++ c ∷ []) (sym same))
insert_as name row scene tables changes (Err obstacle) is carried now = cc

-- one that was stored
pub inserted : (name : List ℕ) (row : List Value) (scene : Scene) (tables : List Table) (changes : List Change)
    → carried_out (insertion name row scene.tables) scene.tables ≡ Some tables → changes ≡ scene.changes ++ changes_of (insertion name row scene.tables)
    → make 1062 (Insert name row) scene ≡ done tt (stored scene tables changes)
inserted name row scene tables changes carried now = insert_as name row scene tables changes (insertion name row scene.tables) refl carried now

-- one that was refused
pub insert_refused : (name : List ℕ) (row : List Value) (at : ℕ) (scene : Scene) (obstacle : Obstacle) → place_of name scene.tables ≡ Some at
    → fits_at at row scene.tables ≡ true → insertion name row scene.tables ≡ Err obstacle
    → make 1062 (Insert name row) scene ≡ failed 1062 scene
insert_refused name row at scene obstacle here e refused =
    let fits : fits_table name row scene.tables ≡ true = sym (fits_by_place name row scene.tables at here) ∙ e in
    not_made 1062 (Insert name row) scene
    (none_of (applied (Insert name row) scene.tables) (sym (inserts_where name row scene.tables fits) ∙ ap is_ok refused))

-- ---- the table at a place

found_with : (o : Option Table) (d : TableDef) → option_map (λ (t : Table). t.definition) o ≡ Some d → (t : Table) × (o ≡ Some t) × (t.definition ≡ d)
found_with None d e = cc
found_with (Some t) d e = (t, refl, cc)

table_at : (name : List ℕ) (scene : Scene) (at : ℕ) (d : TableDef) → place_of name scene.tables ≡ Some at → slice_get (definitions_of scene.tables) at ≡ Some d
    → (t : Table) × (table_named name scene.tables ≡ Some t) × (t.definition ≡ d)
table_at name scene at d here e = found_with (table_named name scene.tables) d (sym (definition_there name scene at here) ∙ e)

definition_named : (o : Option TableDef) (name : List ℕ) → option_map (λ (d : TableDef). d.name) o ≡ Some name → (d : TableDef) × (o ≡ Some d)
definition_named None name e = cc
definition_named (Some d) name e = (d, refl)

named_at : (name : List ℕ) (scene : Scene) (at : ℕ) → place_of name scene.tables ≡ Some at → (t : Table) × (table_named name scene.tables ≡ Some t)
named_at name scene at here =
    let d = definition_named (slice_get (definitions_of scene.tables) at) name (place_has_name name scene.tables at here) in
    let t = table_at name scene at d.0 here d.1 in
    (t.0, t.1)

-- ---- a row taken out

take_by : (b : Bool) (name : List ℕ) (row : List Value) (scene : Scene) (t : Table) → table_named name scene.tables ≡ Some t → is_standing t.definition row t.rows ≡ b
    → take_out name row scene ≡ then_do (require 1032 b scene) (λ _. make 1032 (Delete name row))
take_by b name row scene t e there = rw e (ap (λ (holds : Bool). then_do (require 1032 holds scene) (λ _. make 1032 (Delete name row))) there)

removed_by : (b : Bool) (name : List ℕ) (row : List Value) (scene : Scene) (t : Table) (tables : List Table) (changes : List Change)
    → table_named name scene.tables ≡ Some t → is_standing t.definition row t.rows ≡ b
    → carried_out (cond b (Ok (Delete name row)) (Err row_absent)) scene.tables ≡ Some tables → changes ≡ scene.changes ++ changes_of (cond b (Ok (Delete name row)) (Err row_absent))
    → take_out name row scene ≡ done tt (stored scene tables changes)
removed_by true name row scene t tables changes e there carried now =
    take_by true name row scene t e there ∙ made 1032 (Delete name row) scene tables carried ∙ noted_as (Delete name row) scene tables changes now
removed_by false name row scene t tables changes e there carried now = cc

-- the row stands there, and was taken out
pub taken_out : (name : List ℕ) (row : List Value) (at : ℕ) (scene : Scene) (tables : List Table) (changes : List Change) → place_of name scene.tables ≡ Some at
    → carried_out (removal name row scene.tables) scene.tables ≡ Some tables → changes ≡ scene.changes ++ changes_of (removal name row scene.tables)
    → take_out name row scene ≡ done tt (stored scene tables changes)
taken_out name row at scene tables changes here carried now =
    let t = named_at name scene at here in
    let is = removal_as name row scene.tables t.0 (is_standing t.0.definition row t.0.rows) t.1 refl in
    removed_by (is_standing t.0.definition row t.0.rows) name row scene t.0 tables changes t.1 refl
    (ap (λ (s : Result Change Obstacle). carried_out s scene.tables) (sym is) ∙ carried) (now ∙ ap (λ (s : Result Change Obstacle). scene.changes ++ changes_of s) is)

kept_by : (b : Bool) (name : List ℕ) (row : List Value) (scene : Scene) (t : Table) (obstacle : Obstacle) → table_named name scene.tables ≡ Some t → is_standing t.definition row t.rows ≡ b
    → cond b (Ok (Delete name row)) (Err row_absent) ≡ Err obstacle → take_out name row scene ≡ failed 1032 scene
kept_by true name row scene t obstacle e there refused = cc
kept_by false name row scene t obstacle e there refused = take_by false name row scene t e there

-- another row stands at its key, or none
pub not_taken_out : (name : List ℕ) (row : List Value) (at : ℕ) (scene : Scene) (obstacle : Obstacle) → place_of name scene.tables ≡ Some at
    → removal name row scene.tables ≡ Err obstacle → take_out name row scene ≡ failed 1032 scene
not_taken_out name row at scene obstacle here refused =
    let t = named_at name scene at here in
    let is = removal_as name row scene.tables t.0 (is_standing t.0.definition row t.0.rows) t.1 refl in
    kept_by (is_standing t.0.definition row t.0.rows) name row scene t.0 obstacle t.1 refl (sym is ∙ refused)

-- ---- a row put in the place of another

abbrev way_of : Table → (old new : List Value) → Option ℕ
way_of t old new = key_in_way t.definition new (rows_beside t.definition (primary_key t.definition old) t.rows)

-- the rest, where the row stands there
abbrev then_put : List ℕ → (old new : List Value) → Table → Action (Unit {0})
then_put name old new t = require 1062 (is_none (way_of t old new)) >>= λ _. make 1032 (Update name old new)

put_by : (holds : Bool) (name : List ℕ) (old new : List Value) (scene : Scene) (t : Table) → table_named name scene.tables ≡ Some t
    → (row_fits t.definition.columns new && is_standing t.definition old t.rows) ≡ holds
    → put_in_place name old new scene ≡ then_do (require 1032 holds scene) (λ _. then_put name old new t)
put_by holds name old new scene t e there = rw e (ap (λ (b : Bool). then_do (require 1032 b scene) (λ _. then_put name old new t)) there)

fits_in : (name : List ℕ) (row : List Value) (at : ℕ) (scene : Scene) (t : Table) (fits : Bool) → place_of name scene.tables ≡ Some at → table_named name scene.tables ≡ Some t
    → fits_at at row scene.tables ≡ fits → row_fits t.definition.columns row ≡ fits
fits_in name row at scene t fits here named e =
    ap (λ (o : Option Table). option_map_or (λ (u : Table). row_fits u.definition.columns row) o true) (sym named) ∙ sym (fits_by_place name row scene.tables at here) ∙ e

none_fits : (fits there : Bool) → fits ≡ false → (fits && there) ≡ false
none_fits fits there e = rw e refl

both_there : (fits there b : Bool) → fits ≡ true → there ≡ b → (fits && there) ≡ b
both_there fits there b e f = rw e f

-- one that does not fit
pub unfit_in_place : (name : List ℕ) (old new : List Value) (at : ℕ) (scene : Scene) → place_of name scene.tables ≡ Some at
    → fits_at at new scene.tables ≡ false → put_in_place name old new scene ≡ failed 1032 scene
unfit_in_place name old new at scene here unfit =
    let t = named_at name scene at here in
    put_by false name old new scene t.0 t.1
    (none_fits (row_fits t.0.definition.columns new) (is_standing t.0.definition old t.0.rows) (fits_in name new at scene t.0 false here t.1 unfit))

way_done : (way : Option ℕ) (name : List ℕ) (old new : List Value) (scene : Scene) (tables : List Table) (changes : List Change)
    → carried_out (unless_taken way (Update name old new)) scene.tables ≡ Some tables → changes ≡ scene.changes ++ changes_of (unless_taken way (Update name old new))
    → then_do (require 1062 (is_none way) scene) (λ _. make 1032 (Update name old new)) ≡ done tt (stored scene tables changes)
way_done None name old new scene tables changes carried now =
    made 1032 (Update name old new) scene tables carried ∙ noted_as (Update name old new) scene tables changes now
way_done (Some which) name old new scene tables changes carried now = cc

put_done : (b : Bool) (name : List ℕ) (old new : List Value) (scene : Scene) (t : Table) (tables : List Table) (changes : List Change)
    → table_named name scene.tables ≡ Some t → (row_fits t.definition.columns new && is_standing t.definition old t.rows) ≡ b
    → carried_out (cond b (unless_taken (way_of t old new) (Update name old new)) (Err row_absent)) scene.tables ≡ Some tables
    → changes ≡ scene.changes ++ changes_of (cond b (unless_taken (way_of t old new) (Update name old new)) (Err row_absent))
    → put_in_place name old new scene ≡ done tt (stored scene tables changes)
put_done true name old new scene t tables changes e there carried now =
    put_by true name old new scene t e there ∙ way_done (way_of t old new) name old new scene tables changes carried now
put_done false name old new scene t tables changes e there carried now = cc

-- it was replaced
pub put_there : (name : List ℕ) (old new : List Value) (at : ℕ) (scene : Scene) (tables : List Table) (changes : List Change)
    → place_of name scene.tables ≡ Some at → fits_at at new scene.tables ≡ true
    → carried_out (exchange name old new scene.tables) scene.tables ≡ Some tables → changes ≡ scene.changes ++ changes_of (exchange name old new scene.tables)
    → put_in_place name old new scene ≡ done tt (stored scene tables changes)
put_there name old new at scene tables changes here fits carried now =
    let t = named_at name scene at here in
    let b = is_standing t.0.definition old t.0.rows in
    let is = exchange_as name old new scene.tables t.0 b t.1 refl in
    put_done b name old new scene t.0 tables changes t.1
    (both_there (row_fits t.0.definition.columns new) b b (fits_in name new at scene t.0 true here t.1 fits) refl)
    (ap (λ (s : Result Change Obstacle). carried_out s scene.tables) (sym is) ∙ carried) (now ∙ ap (λ (s : Result Change Obstacle). scene.changes ++ changes_of s) is)

way_taken : (way : Option ℕ) (name : List ℕ) (old new : List Value) (scene : Scene) (which : ℕ) → unless_taken way (Update name old new) ≡ Err (key_taken which)
    → then_do (require 1062 (is_none way) scene) (λ _. make 1032 (Update name old new)) ≡ failed 1062 scene
way_taken None name old new scene which e = cc
way_taken (Some other) name old new scene which e = refl

put_taken : (b : Bool) (name : List ℕ) (old new : List Value) (scene : Scene) (t : Table) (which : ℕ)
    → table_named name scene.tables ≡ Some t → (row_fits t.definition.columns new && is_standing t.definition old t.rows) ≡ b
    → cond b (unless_taken (way_of t old new) (Update name old new)) (Err row_absent) ≡ Err (key_taken which)
    → put_in_place name old new scene ≡ failed 1062 scene
put_taken true name old new scene t which e there refused =
    put_by true name old new scene t e there ∙ way_taken (way_of t old new) name old new scene which refused
put_taken false name old new scene t which e there refused = cc

-- or a key of the new row is that of a third
pub key_there : (name : List ℕ) (old new : List Value) (at : ℕ) (scene : Scene) (which : ℕ) → place_of name scene.tables ≡ Some at → fits_at at new scene.tables ≡ true
    → exchange name old new scene.tables ≡ Err (key_taken which) → put_in_place name old new scene ≡ failed 1062 scene
key_there name old new at scene which here fits refused =
    let t = named_at name scene at here in
    let b = is_standing t.0.definition old t.0.rows in
    let is = exchange_as name old new scene.tables t.0 b t.1 refl in
    put_taken b name old new scene t.0 which t.1
    (both_there (row_fits t.0.definition.columns new) b b (fits_in name new at scene t.0 true here t.1 fits) refl) (sym is ∙ refused)

way_absent : (way : Option ℕ) (change : Change) → unless_taken way change ≡ Err row_absent → ⊥
way_absent None change e = cc
way_absent (Some which) change e = cc

put_absent : (b : Bool) (name : List ℕ) (old new : List Value) (scene : Scene) (t : Table)
    → table_named name scene.tables ≡ Some t → (row_fits t.definition.columns new && is_standing t.definition old t.rows) ≡ b
    → cond b (unless_taken (way_of t old new) (Update name old new)) (Err row_absent) ≡ Err row_absent
    → put_in_place name old new scene ≡ failed 1032 scene
put_absent true name old new scene t e there refused = absurd (way_absent (way_of t old new) (Update name old new) refused)
put_absent false name old new scene t e there refused = put_by false name old new scene t e there

-- or another row stands there, or none
pub not_in_place : (name : List ℕ) (old new : List Value) (at : ℕ) (scene : Scene) → place_of name scene.tables ≡ Some at → fits_at at new scene.tables ≡ true
    → exchange name old new scene.tables ≡ Err row_absent → put_in_place name old new scene ≡ failed 1032 scene
not_in_place name old new at scene here fits refused =
    let t = named_at name scene at here in
    let b = is_standing t.0.definition old t.0.rows in
    let is = exchange_as name old new scene.tables t.0 b t.1 refl in
    put_absent b name old new scene t.0 t.1
    (both_there (row_fits t.0.definition.columns new) b b (fits_in name new at scene t.0 true here t.1 fits) refl) (sym is ∙ refused)
