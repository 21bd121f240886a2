-- A change of a transaction under way, made or refused.
use Rattle.std.proofs.Common.{◌≡◌, ℕ, List, [], ◌∷◌, ◌++◌, Bool, true, false, Option, Some, None, Result, Ok, Err, refl, sym, ap, ◌∙◌}
use Rattle.std.specs.Prelude.{IsSome, is_ok, unwrap_or, if◌then◌else◌}
use Rattle.std.specs.Option.{option_and_then, option_map_or}
use Rattle.val_types.specs.declared.value.Value.{Value}
use Rattle.val_types.specs.declared.change.Change.{Change}
use Rattle.val_types.specs.declared.change.Change.TheVariants.{Insert, Update, Delete}
use Rattle.val_types.specs.Changes.{table_of}
use Rattle.val_types.specs.Keys.{primary_key}
use Rattle.auto_inc.specs.declared.counters.Counter.{Counter}
use Rattle.table_rules.specs.Tables.{Table}
use Rattle.table_rules.specs.Changes.{applied, AreKept}
use Rattle.table_rules.specs.Stored.{table_named, row_at, row_of_key, rows_beside, key_in_way, fits_table, insertion, insertion_in, replacement, replacement_in, deletion, carried_out, key_taken, row_absent, unless_taken, where_found, Obstacle}
use Rattle.table_rules.proofs.Equations.{deletion_by_row}
use Rattle.prog_work.specs.dml_rows.Noted.{changes_of}
use Rattle.prog_work.proofs.of_dml_rows.Noting.{carried, inserted, replaced}
use Rattle.event_codec.specs.Event.{Map}
use Rattle.apply_model.specs.Stops.{Differs}
use Rattle.apply_model.specs.Rows.{Refusal, Store, change_if, change_refusal, counters_moved, matches, storing_refusal, table_refusal}
use Rattle.apply_model.specs.Texts.{Progress}
use Rattle.apply_model.specs.Groups.{and_then, with_store}
use Rattle.row_apply.specs.Changes.{change_carried, code_in, is_row, table_code, IsKey}
use Rattle.row_apply.proofs.Refusing.{not_refused, insert_unfit, insert_taken, update_unfit, update_taken, update_absent, delete_absent}

-- ---- the refusal, by the table

abbrev no_code : Option ℕ
no_code = None

there : (m : Map) (c : Change) (o : Option Table) → option_map_or (λ (t : Table). code_in m c t.definition) o (Some 1146) ≡ None → (t : Table) × (o ≡ Some t)
there m c None e = cc
there m c (Some t) e = (t, refl)

-- a change that its table takes has a table
pub table_there : (m : Map) (c : Change) (ts : List Table) → table_code m ts c ≡ None → (t : Table) × (table_named (table_of c) ts ≡ Some t)
table_there m c ts e = there m c (table_named (table_of c) ts) e

takes_by : (m : Map) (c : Change) (o : Option Table) → option_map_or (λ (t : Table). code_in m c t.definition) o (Some 1146) ≡ None → IsSome o
takes_by m c None e = cc
takes_by m c (Some t) e = refl

pub takes_there : (m : Map) (c : Change) (ts : List Table) → table_code m ts c ≡ None → IsSome (table_named (table_of c) ts)
takes_there m c ts e = takes_by m c (table_named (table_of c) ts) e

taken_when : (b : Bool) (x : Option Refusal) → (if b then no_code else Some 30010) ≡ None → (if b then x else Some (30010, [])) ≡ x
taken_when true x e = refl
taken_when false x e = cc

by_rows : (m : Map) (c : Change) (o : Option Table) (t : Table) → o ≡ Some t → option_map_or (λ (u : Table). code_in m c u.definition) o (Some 1146) ≡ None
    → option_map_or (table_refusal m c) o (Some (1146, [])) ≡ storing_refusal t.definition t.rows c
by_rows m c o t is e =
    ap (λ (p : Option Table). option_map_or (table_refusal m c) p (Some (1146, []))) is
    ∙ taken_when (matches m t.definition c) (storing_refusal t.definition t.rows c)
    (sym (ap (λ (p : Option Table). option_map_or (λ (u : Table). code_in m c u.definition) p (Some 1146)) is) ∙ e)

-- then its rows decide
pub refused_by_rows : (m : Map) (c : Change) (ts : List Table) (t : Table) → table_named (table_of c) ts ≡ Some t → table_code m ts c ≡ None
    → change_refusal m ts c ≡ storing_refusal t.definition t.rows c
refused_by_rows m c ts t is e = by_rows m c (table_named (table_of c) ts) t is e

abbrev refusal_of : ℕ → Option Refusal
refusal_of code = Some (code, [])

refused_when : (b : Bool) (x : Option Refusal) (code : ℕ) → (if b then no_code else Some 30010) ≡ Some code → (if b then x else Some (30010, [])) ≡ refusal_of code
refused_when true x code e = cc
refused_when false x code e = let same : 30010 ≡ code = cc in ap refusal_of same

by_table : (m : Map) (c : Change) (o : Option Table) (code : ℕ) → option_map_or (λ (u : Table). code_in m c u.definition) o (Some 1146) ≡ Some code
    → option_map_or (table_refusal m c) o (Some (1146, [])) ≡ refusal_of code
by_table m c None code e = let same : 1146 ≡ code = cc in ap refusal_of same
by_table m c (Some t) code e = refused_when (matches m t.definition c) (storing_refusal t.definition t.rows c) code e

-- ---- the change, by its refusal

abbrev then_noted : Change → Progress → Result Store Differs → Result Progress Differs
then_noted c p r = and_then (λ (s : Store). Ok (with_store c s p)) r

abbrev pub progress : List Table → List Counter → List Change → Progress
progress ts cs ch = record { store = record { tables = ts; counters = cs }; changes = ch }

abbrev pub stopped_at : ℕ → ℕ → List ℕ → List Value → Result Progress Differs
stopped_at place code name key = Err (record { place = place; code = code; table = name; key = key })

abbrev pub gone_to : Progress → Result Progress Differs
gone_to p = Ok p

stopped : (place : ℕ) (m : Map) (c : Change) (p : Progress) (code : ℕ) (key : List Value) → change_refusal m p.store.tables c ≡ Some (code, key)
    → change_carried place m c p ≡ stopped_at place code (table_of c) key
stopped place m c p code key e = ap (λ (r : Option Refusal). then_noted c p (change_if place c p.store r)) e

made : (place : ℕ) (m : Map) (c : Change) (ts after : List Table) (cs moved : List Counter) (ch noted : List Change)
    → change_refusal m ts c ≡ None → applied c ts ≡ Some after → counters_moved ts c cs ≡ moved → noted ≡ ch ++ c ∷ []
    → change_carried place m c (progress ts cs ch) ≡ gone_to (progress after moved noted)
made place m c ts after cs moved ch noted none app counters is =
    ap (λ (r : Option Refusal). then_noted c (progress ts cs ch) (change_if place c (record { tables = ts; counters = cs }) r)) none
    ∙ ap (λ (o : Option (List Table)). gone_to (progress (unwrap_or o ts) (counters_moved ts c cs) (ch ++ c ∷ []))) app
    ∙ ap (λ (k : List Counter). gone_to (progress after k (ch ++ c ∷ []))) counters
    ∙ ap (λ (k : List Change). gone_to (progress after moved k)) (sym is)

-- the table does not take it
pub change_refused : (place : ℕ) (m : Map) (c : Change) (p : Progress) (code : ℕ) → table_code m p.store.tables c ≡ Some code
    → change_carried place m c p ≡ stopped_at place code (table_of c) []
change_refused place m c p code e = stopped place m c p code [] (by_table m c (table_named (table_of c) p.store.tables) code e)

-- a refusal by the rows, with a key
rows_refuse : (place : ℕ) (m : Map) (c : Change) (p : Progress) (code : ℕ) (row key : List Value) (t : Table) → table_named (table_of c) p.store.tables ≡ Some t
    → table_code m p.store.tables c ≡ None → IsKey (table_of c) p.store.tables row key
    → storing_refusal t.definition t.rows c ≡ Some (code, primary_key t.definition row)
    → change_carried place m c p ≡ stopped_at place code (table_of c) key
rows_refuse place m c p code row key t is takes own e =
    stopped place m c p code (primary_key t.definition row) (refused_by_rows m c p.store.tables t is takes ∙ e)
    ∙ ap (stopped_at place code (table_of c)) (sym (own t is))

not_ok : (step : Result Change Obstacle) (which : ℕ) → step ≡ Err (key_taken which) → is_ok step ≡ false
not_ok step which e = ap is_ok e

-- ---- what is there is not absent

not_absent : (o : Option ℕ) (c : Change) → unless_taken o c ≡ Err row_absent → ⊥
not_absent None c e = cc
not_absent (Some which) c e = cc

-- a row is put into a table that is there
pub insertion_there : (name : List ℕ) (row : List Value) (ts : List Table) → IsSome (table_named name ts) → insertion name row ts ≡ Err row_absent → ⊥
unfolding insertion
insertion_there name row ts there absent = by_name (table_named name ts) there absent
  where
    by_name : (o : Option Table) → IsSome o → where_found o (insertion_in name row) ≡ Err row_absent → ⊥
    by_name None is e = cc
    by_name (Some t) is e = not_absent (key_in_way t.definition row t.rows) (Insert name row) e

-- a row that is there is replaced
pub replacement_there : (name : List ℕ) (key row : List Value) (ts : List Table) → IsSome (row_at name key ts) → replacement name key row ts ≡ Err row_absent → ⊥
unfolding replacement
replacement_there name key row ts there absent = by_name (table_named name ts) there absent
  where
    by_row : (t : Table) (o : Option (List Value)) → IsSome o
        → where_found o (λ before. unless_taken (key_in_way t.definition row (rows_beside t.definition key t.rows)) (Update name before row)) ≡ Err row_absent → ⊥
    by_row t None is e = cc
    by_row t (Some before) is e = not_absent (key_in_way t.definition row (rows_beside t.definition key t.rows)) (Update name before row) e

    by_name : (o : Option Table) → IsSome (option_and_then (λ (t : Table). row_of_key t.definition key t.rows) o) → where_found o (replacement_in name key row) ≡ Err row_absent → ⊥
    by_name None is e = cc
    by_name (Some t) is e = by_row t (row_of_key t.definition key t.rows) is e

-- a row that is there is taken out
pub deletion_there : (name : List ℕ) (key row : List Value) (ts : List Table) (obstacle : Obstacle) → row_at name key ts ≡ Some row → deletion name key ts ≡ Err obstacle → ⊥
deletion_there name key row ts obstacle at in_way =
    let made : deletion name key ts ≡ Ok (Delete name row) = deletion_by_row name key ts (Some row) at in cc

row_is_there : (o : Option (List Value)) (row : List Value) → is_row o row ≡ true → IsSome o
row_is_there None row e = cc
row_is_there (Some found) row e = refl

pub row_there : (name : List ℕ) (key row : List Value) (ts : List Table) → is_row (row_at name key ts) row ≡ true → IsSome (row_at name key ts)
row_there name key row ts e = row_is_there (row_at name key ts) row e

-- ---- a row put in

pub insert_unfit_stops : (place : ℕ) (m : Map) (name : List ℕ) (row key : List Value) (p : Progress) → table_code m p.store.tables (Insert name row) ≡ None
    → IsKey name p.store.tables row key → fits_table name row p.store.tables ≡ false
    → change_carried place m (Insert name row) p ≡ stopped_at place 1062 name key
insert_unfit_stops place m name row key p takes own unfit =
    let t = table_there m (Insert name row) p.store.tables takes in
    rows_refuse place m (Insert name row) p 1062 row key t.0 t.1 takes own (insert_unfit name row p.store.tables t.0 t.1 unfit)

pub insert_taken_stops : (place : ℕ) (m : Map) (name : List ℕ) (row key : List Value) (p : Progress) (which : ℕ) → table_code m p.store.tables (Insert name row) ≡ None
    → IsKey name p.store.tables row key → fits_table name row p.store.tables ≡ true → insertion name row p.store.tables ≡ Err (key_taken which)
    → change_carried place m (Insert name row) p ≡ stopped_at place 1062 name key
insert_taken_stops place m name row key p which takes own fits taken =
    let t = table_there m (Insert name row) p.store.tables takes in
    rows_refuse place m (Insert name row) p 1062 row key t.0 t.1 takes own
    (insert_taken name row p.store.tables t.0 t.1 fits (not_ok (insertion name row p.store.tables) which taken))

pub insert_made : (place : ℕ) (m : Map) (name : List ℕ) (row : List Value) (ts after : List Table) (cs moved : List Counter) (ch noted : List Change)
    → table_code m ts (Insert name row) ≡ None → carried_out (insertion name row ts) ts ≡ Some after → counters_moved ts (Insert name row) cs ≡ moved
    → noted ≡ ch ++ changes_of (insertion name row ts)
    → change_carried place m (Insert name row) (progress ts cs ch) ≡ gone_to (progress after moved noted)
insert_made place m name row ts after cs moved ch noted takes out counters is =
    let t = table_there m (Insert name row) ts takes in
    let step = inserted name row ts after out in
    let app = carried (insertion name row ts) (Insert name row) ts after step out in
    made place m (Insert name row) ts after cs moved ch noted
    (refused_by_rows m (Insert name row) ts t.0 t.1 takes ∙ not_refused (Insert name row) ts after t.0 t.1 app)
    app counters (is ∙ ap (λ (s : Result Change Obstacle). ch ++ changes_of s) step)

-- ---- a row replaced

pub update_absent_stops : (place : ℕ) (m : Map) (name : List ℕ) (before row key : List Value) (p : Progress) → AreKept p.store.tables
    → table_code m p.store.tables (Update name before row) ≡ None → IsKey name p.store.tables before key → is_row (row_at name key p.store.tables) before ≡ false
    → change_carried place m (Update name before row) p ≡ stopped_at place 1032 name key
update_absent_stops place m name before row key p all takes own absent =
    let t = table_there m (Update name before row) p.store.tables takes in
    rows_refuse place m (Update name before row) p 1032 before key t.0 t.1 takes own
    (update_absent name before row p.store.tables t.0 all t.1
    (ap (λ (k : List Value). is_row (row_at name k p.store.tables) before) (sym (own t.0 t.1)) ∙ absent))

pub update_unfit_stops : (place : ℕ) (m : Map) (name : List ℕ) (key before row put : List Value) (p : Progress) → AreKept p.store.tables
    → table_code m p.store.tables (Update name before row) ≡ None → row_at name key p.store.tables ≡ Some before
    → IsKey name p.store.tables row put → fits_table name row p.store.tables ≡ false
    → change_carried place m (Update name before row) p ≡ stopped_at place 1062 name put
update_unfit_stops place m name key before row put p all takes at own unfit =
    let t = table_there m (Update name before row) p.store.tables takes in
    rows_refuse place m (Update name before row) p 1062 row put t.0 t.1 takes own (update_unfit name key before row p.store.tables t.0 all t.1 at unfit)

pub update_taken_stops : (place : ℕ) (m : Map) (name : List ℕ) (key before row put : List Value) (p : Progress) (which : ℕ) → AreKept p.store.tables
    → table_code m p.store.tables (Update name before row) ≡ None → row_at name key p.store.tables ≡ Some before
    → IsKey name p.store.tables row put → fits_table name row p.store.tables ≡ true → replacement name key row p.store.tables ≡ Err (key_taken which)
    → change_carried place m (Update name before row) p ≡ stopped_at place 1062 name put
update_taken_stops place m name key before row put p which all takes at own fits taken =
    let t = table_there m (Update name before row) p.store.tables takes in
    rows_refuse place m (Update name before row) p 1062 row put t.0 t.1 takes own
    (update_taken name key before row p.store.tables t.0 all t.1 at fits (not_ok (replacement name key row p.store.tables) which taken))

pub update_made : (place : ℕ) (m : Map) (name : List ℕ) (key before row : List Value) (ts after : List Table) (cs cs' : List Counter) (ch noted : List Change)
    → table_code m ts (Update name before row) ≡ None → row_at name key ts ≡ Some before → carried_out (replacement name key row ts) ts ≡ Some after → cs' ≡ cs
    → noted ≡ ch ++ changes_of (replacement name key row ts)
    → change_carried place m (Update name before row) (progress ts cs ch) ≡ gone_to (progress after cs' noted)
update_made place m name key before row ts after cs cs' ch noted takes at out counters is =
    let t = table_there m (Update name before row) ts takes in
    let step = replaced name key row before ts after at out in
    let app = carried (replacement name key row ts) (Update name before row) ts after step out in
    made place m (Update name before row) ts after cs cs' ch noted
    (refused_by_rows m (Update name before row) ts t.0 t.1 takes ∙ not_refused (Update name before row) ts after t.0 t.1 app)
    app (sym counters) (is ∙ ap (λ (s : Result Change Obstacle). ch ++ changes_of s) step)

-- ---- a row taken out

pub delete_absent_stops : (place : ℕ) (m : Map) (name : List ℕ) (row key : List Value) (p : Progress) → AreKept p.store.tables
    → table_code m p.store.tables (Delete name row) ≡ None → IsKey name p.store.tables row key → is_row (row_at name key p.store.tables) row ≡ false
    → change_carried place m (Delete name row) p ≡ stopped_at place 1032 name key
delete_absent_stops place m name row key p all takes own absent =
    let t = table_there m (Delete name row) p.store.tables takes in
    rows_refuse place m (Delete name row) p 1032 row key t.0 t.1 takes own
    (delete_absent name row p.store.tables t.0 all t.1
    (ap (λ (k : List Value). is_row (row_at name k p.store.tables) row) (sym (own t.0 t.1)) ∙ absent))

pub delete_made : (place : ℕ) (m : Map) (name : List ℕ) (key row : List Value) (ts after : List Table) (cs cs' : List Counter) (ch noted : List Change)
    → table_code m ts (Delete name row) ≡ None → row_at name key ts ≡ Some row → carried_out (deletion name key ts) ts ≡ Some after → cs' ≡ cs
    → noted ≡ ch ++ changes_of (deletion name key ts)
    → change_carried place m (Delete name row) (progress ts cs ch) ≡ gone_to (progress after cs' noted)
delete_made place m name key row ts after cs cs' ch noted takes at out counters is =
    let t = table_there m (Delete name row) ts takes in
    let step = deletion_by_row name key ts (Some row) at in
    let app = carried (deletion name key ts) (Delete name row) ts after step out in
    made place m (Delete name row) ts after cs cs' ch noted
    (refused_by_rows m (Delete name row) ts t.0 t.1 takes ∙ not_refused (Delete name row) ts after t.0 t.1 app)
    app (sym counters) (is ∙ ap (λ (s : Result Change Obstacle). ch ++ changes_of s) step)
