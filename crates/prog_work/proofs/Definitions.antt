-- What CREATE, DROP and TRUNCATE leave of what holds.
use Rattle.std.proofs.Common.{◌≡◌, ℕ, Bool, true, false, not, ◌||◌, cond, List, [], ◌∷◌, ◌++◌, Option, Some, None, refl, sym, ap, subst, ◌∙◌}
use Rattle.std.specs.Prelude.{find, is_some}
use Rattle.std.specs.Option.{option_map}
use Rattle.std.specs.List.{list_any, cons_option}
use Rattle.std.proofs.lemmas.List.{map-append, append-nil}
use Rattle.std.proofs.lemmas.List.Elements.{filter_map-append}
use Rattle.std.proofs.lemmas.Bool.{and_parts}
use Rattle.val_types.specs.declared.definitions.TableDef.{TableDef}
use Rattle.val_types.specs.declared.change.Change.{Change}
use Rattle.val_types.specs.Lookup.{remove_first}
use Rattle.auto_inc.specs.declared.counters.Counter.{Counter}
use Rattle.auto_inc.specs.Counting.{counts_for, value_for, counters_beside, tables_of}
use Rattle.table_rules.specs.Tables.{Table}
use Rattle.table_rules.specs.Stored.{has_name, table_named, tables_beside, tables_cleared}
use Rattle.table_rules.specs.Stores.{Store, definitions_of, names_differ}
use Rattle.table_rules.proofs.Places.{name_is, name_self}
use Rattle.table_rules.proofs.Leading.{none_taken_back}
use Rattle.sql_tree.specs.Statement.{Statement, Program, Trigger, create_table, create_function, create_procedure, create_trigger, drop_table, drop_function, drop_procedure, drop_trigger, truncate, insert_into, replace_into, update_rows, delete_rows, select, evaluate, set_all, call_procedure, begin, commit, rollback, savepoint, rollback_to, release_savepoint, block, if_steps, while_steps, return_value}
use Rattle.sql_tree.specs.declared.statements.CreateTable.{CreateTable}
use Rattle.sql_reach.specs.catalog_rules.Names.{same_name}
use Rattle.sql_reach.specs.catalog_rules.Objects.{table, function, procedure, reaction, table_in}
use Rattle.sql_reach.specs.catalog_rules.Objects as rules
use Rattle.sql_reach.specs.catalog_rules.Creating.{ddl_refusal, goes_with_table, is_function_named, is_procedure_named, is_trigger_named, objects_but, catalog_after}
use Rattle.sql_reach.specs.catalog_rules.Bases.{definitions_in, definition_if, table_without_rows}
use Rattle.catalog.specs.catalog_objects.declared.object.Object.{Object}
use Rattle.catalog.specs.catalog_objects.Keys.{objects_of}
use Rattle.sql_reach.specs.Defining.{counters_with}
use Rattle.prog_work.specs.Contents.{counted_name, counted_names}
use Rattle.prog_work.specs.Together.{AreTogether, is_drop_of_program}
use Rattle.prog_work.proofs.Holding.{both_apart}

-- ---- names

abbrev named : List ℕ → TableDef → Bool
named name d = same_name name d.name

or_false : (a b : Bool) → a ≡ false → b ≡ false → (a || b) ≡ false
or_false true b p q = p
or_false false b p q = q

or_parts : (a b : Bool) → (a || b) ≡ false → (a ≡ false) × (b ≡ false)
or_parts true b e = cc
or_parts false b e = (refl, e)

free_step : (b any : Bool) (d : TableDef) (rest : Option TableDef) → elim (cond b (Some d) None) as (λ _. Option TableDef) [ None ↦ rest | Some e ↦ Some e ] ≡ None
    → (rest ≡ None → any ≡ false) → (b || any) ≡ false
free_step true any d rest e later = cc
free_step false any d rest e later = later e

-- no table of a catalog has a name
pub is_free : (name : List ℕ) (os : List rules.Object) → table_in os name ≡ None → list_any (named name) (definitions_in os) ≡ false
is_free name [] e = refl
is_free name (table d ∷ os) e = free_step (named name d) (list_any (named name) (definitions_in os)) d (table_in os name) e (is_free name os)
is_free name (function p ∷ os) e = is_free name os e
is_free name (procedure p ∷ os) e = is_free name os e
is_free name (reaction t ∷ os) e = is_free name os e

found_none : {X : Type 0} (b : Bool) (x : X) (rest : Option X) → b ≡ false → rest ≡ None → cond b (Some x) rest ≡ None
found_none true x rest e later = cc
found_none false x rest e later = later

none_there : (name : List ℕ) (ts : List Table) → list_any (named name) (definitions_of ts) ≡ false → table_named name ts ≡ None
none_there name [] e = refl
none_there name (t ∷ ts) e =
    let parts = or_parts (named name t.definition) (list_any (named name) (definitions_of ts)) e in
    found_none (has_name name t) t (table_named name ts) parts.0 (none_there name ts parts.1)

counted_step : (name own : List ℕ) (auto : Option ℕ) (rest : List (List ℕ)) → same_name name own ≡ false → list_any (same_name name) rest ≡ false
    → list_any (same_name name) (cons_option (option_map (λ (place : ℕ). own) auto) rest) ≡ false
counted_step name own None rest e later = later
counted_step name own (Some place) rest e later = or_false (same_name name own) (list_any (same_name name) rest) e later

none_counted : (name : List ℕ) (ds : List TableDef) → list_any (named name) ds ≡ false → list_any (same_name name) (counted_names ds) ≡ false
none_counted name [] e = refl
none_counted name (d ∷ ds) e =
    let parts = or_parts (named name d) (list_any (named name) ds) e in
    counted_step name d.name d.auto (counted_names ds) parts.0 (none_counted name ds parts.1)

no_counter : (name : List ℕ) (cs : List Counter) → list_any (same_name name) (tables_of cs) ≡ false → find (counts_for name) cs ≡ None
no_counter name [] e = refl
no_counter name (c ∷ cs) e =
    let parts = or_parts (same_name name c.table) (list_any (same_name name) (tables_of cs)) e in
    found_none (counts_for name c) c (find (counts_for name) cs) parts.0 (no_counter name cs parts.1)

-- ---- a catalog's table made

passed : (b : Bool) (code : ℕ) (rest : Option ℕ) → cond b (Some code) rest ≡ None → b ≡ false
passed true code rest e = cc
passed false code rest e = refl

nothing_in : (o : Option TableDef) → is_some o ≡ false → o ≡ None
nothing_in None e = refl
nothing_in (Some d) e = cc

pub not_there_yet : (os : List rules.Object) (t : CreateTable) → ddl_refusal os (create_table t) ≡ None → table_in os t.name ≡ None
unfolding ddl_refusal
not_there_yet os t e = nothing_in (table_in os t.name) (passed (is_some (table_in os t.name)) 1050 _ e)

module _ (objects : List Object) (store : Store) (counters : List Counter) (h : AreTogether objects store [] counters) where
  pub no_table_yet : (name : List ℕ) → table_in (objects_of objects) name ≡ None → table_named name store.tables ≡ None
  no_table_yet name e = none_there name store.tables (ap (list_any (named name)) h.theirs ∙ is_free name (objects_of objects) e)

  pub no_counter_yet : (name : List ℕ) → table_in (objects_of objects) name ≡ None → value_for name counters ≡ None
  no_counter_yet name e =
      ap (option_map (λ (c : Counter). c.value)) (no_counter name counters (ap (list_any (same_name name)) h.counted ∙ none_counted name (definitions_in (objects_of objects)) (is_free name (objects_of objects) e)))

counters_named : (d : TableDef) (auto : Option ℕ) (cs : List Counter)
    → tables_of (elim auto as (λ _. List Counter) [ None ↦ cs | Some place ↦ cs ++ record { table = d.name; value = 1 } ∷ [] ])
    ≡ tables_of cs ++ cons_option (option_map (λ (place : ℕ). d.name) auto) []
counters_named d None cs = sym (append-nil (tables_of cs))
counters_named d (Some place) cs = map-append (λ (c : Counter). c.table) cs (record { table = d.name; value = 1 } ∷ [])

pub together_made : (objects now : List Object) (store new : Store) (counters after : List Counter) (d : TableDef) → AreTogether objects store [] counters
    → objects_of now ≡ objects_of objects ++ table d ∷ [] → new.tables ≡ store.tables ++ table_without_rows d ∷ [] → new.committed ≡ store.committed ++ table_without_rows d ∷ []
    → after ≡ counters_with d counters → AreTogether now new [] after
together_made objects now store new counters after d h os ts committed cs =
    let definitions : definitions_in (objects_of now) ≡ definitions_in (objects_of objects) ++ d ∷ [] =
    ap definitions_in os ∙ filter_map-append definition_if (objects_of objects) (table d ∷ []) in
    record {
      reversible = none_taken_back new;
      apart = both_apart (λ (tables : List Table). tables ++ table_without_rows d ∷ []) store new h.apart ts committed;
      theirs = ap definitions_of ts ∙ map-append (λ (t : Table). t.definition) store.tables (table_without_rows d ∷ [])
          ∙ ap (λ (ds : List TableDef). ds ++ d ∷ []) h.theirs ∙ sym definitions;
      counted = ap tables_of cs ∙ counters_named d d.auto counters ∙ ap (λ (ns : List (List ℕ)). ns ++ counted_names (d ∷ [])) h.counted
          ∙ sym (filter_map-append counted_name (definitions_in (objects_of objects)) (d ∷ [])) ∙ ap counted_names (sym definitions);
    }

-- ---- counters that are added and taken out again

kept_step : (b : Bool) (c : Counter) (cs rest : List Counter) (o : Option Counter) → cond b (Some c) o ≡ None → (o ≡ None → rest ≡ cs) → cond b cs (c ∷ rest) ≡ c ∷ cs
kept_step true c cs rest o e later = cc
kept_step false c cs rest o e later = ap (λ (more : List Counter). c ∷ more) (later e)

kept_beside : (test : Counter → Bool) (cs : List Counter) → find test cs ≡ None → remove_first test cs ≡ cs
kept_beside test [] e = refl
kept_beside test (c ∷ cs) e = kept_step (test c) c cs (remove_first test cs) (find test cs) e (kept_beside test cs)

out_step : (b : Bool) (c last : Counter) (cs rest : List Counter) (o : Option Counter) → cond b (Some c) o ≡ None → (o ≡ None → rest ≡ cs) → cond b (cs ++ last ∷ []) (c ∷ rest) ≡ c ∷ cs
out_step true c last cs rest o e later = cc
out_step false c last cs rest o e later = ap (λ (more : List Counter). c ∷ more) (later e)

last_out : (test : Counter → Bool) (last : Counter) (cs : List Counter) → find test cs ≡ None → test last ≡ true → remove_first test (cs ++ last ∷ []) ≡ cs
last_out test last [] e is = rw is refl
last_out test last (c ∷ cs) e is = out_step (test c) c last cs (remove_first test (cs ++ last ∷ [])) (find test cs) e (λ none. last_out test last cs none is)

none_found : (o : Option Counter) → option_map (λ (c : Counter). c.value) o ≡ None → o ≡ None
none_found None e = refl
none_found (Some c) e = cc

pub counter_out : (name : List ℕ) (cs : List Counter) → value_for name cs ≡ None → counters_beside name cs ≡ cs
counter_out name cs e = kept_beside (counts_for name) cs (none_found (find (counts_for name) cs) e)

pub added_counter_out : (name : List ℕ) (value : ℕ) (cs : List Counter) → value_for name cs ≡ None → counters_beside name (cs ++ record { table = name; value = value } ∷ []) ≡ cs
added_counter_out name value cs e = last_out (counts_for name) (record { table = name; value = value }) cs (none_found (find (counts_for name) cs) e) (name_self name)

-- ---- a table that was made is found

found_it : (b : Bool) (d : TableDef) → b ≡ true → elim (cond b (Some d) None) as (λ _. Option TableDef) [ None ↦ None | Some e ↦ Some e ] ≡ Some d
found_it true d e = refl
found_it false d e = cc

behind_step : (b : Bool) (d : TableDef) (rest more target : Option TableDef) → elim (cond b (Some d) None) as (λ _. Option TableDef) [ None ↦ rest | Some e ↦ Some e ] ≡ None
    → (rest ≡ None → more ≡ target) → elim (cond b (Some d) None) as (λ _. Option TableDef) [ None ↦ more | Some e ↦ Some e ] ≡ target
behind_step true d rest more target e later = cc
behind_step false d rest more target e later = later e

pub found_made : (os : List rules.Object) (d : TableDef) → table_in os d.name ≡ None → table_in (os ++ table d ∷ []) d.name ≡ Some d
found_made [] d e = found_it (same_name d.name d.name) d (name_self d.name)
found_made (table o ∷ os) d e = behind_step (same_name d.name o.name) o (table_in os d.name) (table_in (os ++ table d ∷ []) d.name) (Some d) e (found_made os d)
found_made (function p ∷ os) d e = found_made os d e
found_made (procedure p ∷ os) d e = found_made os d e
found_made (reaction t ∷ os) d e = found_made os d e

-- ---- a table dropped

abbrev beside : List ℕ → List TableDef → List TableDef
beside name ds = remove_first (named name) ds

tables_step : (b : Bool) (t : Table) (ts rest : List Table) (ds : List TableDef) → definitions_of rest ≡ ds → definitions_of (cond b ts (t ∷ rest)) ≡ cond b (definitions_of ts) (t.definition ∷ ds)
tables_step true t ts rest ds e = refl
tables_step false t ts rest ds e = ap (λ (more : List TableDef). t.definition ∷ more) e

tables_beside_are : (name : List ℕ) (ts : List Table) → definitions_of (tables_beside name ts) ≡ beside name (definitions_of ts)
tables_beside_are name [] = refl
tables_beside_are name (t ∷ ts) = tables_step (has_name name t) t ts (tables_beside name ts) (beside name (definitions_of ts)) (tables_beside_are name ts)

counters_step : (b : Bool) (c : Counter) (cs rest : List Counter) (ns : List (List ℕ)) → tables_of rest ≡ ns → tables_of (cond b cs (c ∷ rest)) ≡ cond b (tables_of cs) (c.table ∷ ns)
counters_step true c cs rest ns e = refl
counters_step false c cs rest ns e = ap (λ (more : List (List ℕ)). c.table ∷ more) e

counters_beside_are : (name : List ℕ) (cs : List Counter) → tables_of (counters_beside name cs) ≡ remove_first (same_name name) (tables_of cs)
counters_beside_are name [] = refl
counters_beside_are name (c ∷ cs) = counters_step (counts_for name c) c cs (counters_beside name cs) (remove_first (same_name name) (tables_of cs)) (counters_beside_are name cs)

-- where names differ, what is not named is not among the rest
not_among : (name own : List ℕ) (ds : List TableDef) → same_name name own ≡ true → list_any (λ (other : TableDef). same_name own other.name) ds ≡ false → list_any (named name) ds ≡ false
not_among name own ds same e = subst (λ (n : List ℕ). list_any (named n) ds ≡ false) (sym (name_is name own same)) e

not_is : (b : Bool) → not b ≡ true → b ≡ false
not_is true e = cc
not_is false e = refl

whole_beside : (name : List ℕ) (ds : List TableDef) → list_any (named name) ds ≡ false → beside name ds ≡ ds
whole_beside name [] e = refl
whole_beside name (d ∷ ds) e =
    let parts = or_parts (named name d) (list_any (named name) ds) e in
    rw (parts.0) (ap (λ (rest : List TableDef). d ∷ rest) (whole_beside name ds parts.1))

objects_step : (name : List ℕ) (b : Bool) (d : TableDef) (rest : List rules.Object) (ds : List TableDef) → (b ≡ true → definitions_in rest ≡ ds) → (b ≡ false → definitions_in rest ≡ beside name ds)
    → definitions_in (cond (not b) (table d ∷ rest) rest) ≡ cond b ds (d ∷ beside name ds)
objects_step name true d rest ds there later = there refl
objects_step name false d rest ds there later = ap (λ (more : List TableDef). d ∷ more) (later refl)

-- a trigger is no table, whether it goes or stays
trigger_step : (b : Bool) (t : Trigger) (rest : List rules.Object) → definitions_in (cond (not b) (reaction t ∷ rest) rest) ≡ definitions_in rest
trigger_step true t rest = refl
trigger_step false t rest = refl

objects_beside_are : (name : List ℕ) (os : List rules.Object) → names_differ (definitions_in os) ≡ true
    → definitions_in (objects_but (goes_with_table name) os) ≡ beside name (definitions_in os)
objects_beside_are name [] differ = refl
objects_beside_are name (table d ∷ os) differ =
    let parts = and_parts (not (list_any (λ (other : TableDef). same_name d.name other.name) (definitions_in os))) (names_differ (definitions_in os)) differ in
    let rest = objects_beside_are name os parts.1 in
    objects_step name (named name d) d (objects_but (goes_with_table name) os) (definitions_in os)
    (λ same. rest ∙ whole_beside name (definitions_in os) (not_among name d.name (definitions_in os) same (not_is _ parts.0)))
    (λ other. rest)
objects_beside_are name (function p ∷ os) differ = objects_beside_are name os differ
objects_beside_are name (procedure p ∷ os) differ = objects_beside_are name os differ
objects_beside_are name (reaction t ∷ os) differ = trigger_step (same_name name (rules.trigger_table t)) t (objects_but (goes_with_table name) os) ∙ objects_beside_are name os differ

whole_names : (name : List ℕ) (ns : List (List ℕ)) → list_any (same_name name) ns ≡ false → remove_first (same_name name) ns ≡ ns
whole_names name [] e = refl
whole_names name (n ∷ ns) e =
    let parts = or_parts (same_name name n) (list_any (same_name name) ns) e in
    rw (parts.0) (ap (λ (rest : List (List ℕ)). n ∷ rest) (whole_names name ns parts.1))

counted_out : (name own : List ℕ) (auto : Option ℕ) (b : Bool) (d : TableDef) (ds : List TableDef) → same_name name own ≡ b → counted_name d ≡ option_map (λ (place : ℕ). own) auto
    → (b ≡ true → list_any (same_name name) (counted_names ds) ≡ false) → remove_first (same_name name) (counted_names ds) ≡ counted_names (beside name ds)
    → remove_first (same_name name) (cons_option (option_map (λ (place : ℕ). own) auto) (counted_names ds)) ≡ counted_names (cond b ds (d ∷ beside name ds))
counted_out name own None true d ds is counts none later = whole_names name (counted_names ds) (none refl)
counted_out name own None false d ds is counts none later = later ∙ sym (ap (λ (o : Option (List ℕ)). cons_option o (counted_names (beside name ds))) counts)
counted_out name own (Some place) true d ds is counts none later = rw is refl
counted_out name own (Some place) false d ds is counts none later =
    rw is (ap (λ (rest : List (List ℕ)). own ∷ rest) later) ∙ sym (ap (λ (o : Option (List ℕ)). cons_option o (counted_names (beside name ds))) counts)

counted_beside_are : (name : List ℕ) (ds : List TableDef) → names_differ ds ≡ true → remove_first (same_name name) (counted_names ds) ≡ counted_names (beside name ds)
counted_beside_are name [] differ = refl
counted_beside_are name (d ∷ ds) differ =
    let parts = and_parts (not (list_any (λ (other : TableDef). same_name d.name other.name) ds)) (names_differ ds) differ in
    counted_out name d.name d.auto (named name d) d ds refl refl
    (λ same. none_counted name ds (not_among name d.name ds same (not_is _ parts.0))) (counted_beside_are name ds parts.1)

pub together_dropped : (objects now : List Object) (store new : Store) (counters after : List Counter) (name : List ℕ) → AreTogether objects store [] counters
    → names_differ (definitions_of store.tables) ≡ true → objects_of now ≡ objects_but (goes_with_table name) (objects_of objects) → new.tables ≡ tables_beside name store.tables
    → new.committed ≡ tables_beside name store.committed → after ≡ counters_beside name counters → AreTogether now new [] after
together_dropped objects now store new counters after name h differ os ts committed cs =
    let differ' : names_differ (definitions_in (objects_of objects)) ≡ true = ap names_differ (sym h.theirs) ∙ differ in
    let definitions : definitions_in (objects_of now) ≡ beside name (definitions_in (objects_of objects)) =
    ap definitions_in os ∙ objects_beside_are name (objects_of objects) differ' in
    record {
      reversible = none_taken_back new;
      apart = both_apart (tables_beside name) store new h.apart ts committed;
      theirs = ap definitions_of ts ∙ tables_beside_are name store.tables ∙ ap (beside name) h.theirs ∙ sym definitions;
      counted = ap tables_of cs ∙ counters_beside_are name counters ∙ ap (remove_first (same_name name)) h.counted
          ∙ counted_beside_are name (definitions_in (objects_of objects)) differ' ∙ ap counted_names (sym definitions);
    }

-- ---- a table emptied

cleared_step : (b : Bool) (t : Table) (ts rest : List Table) → definitions_of rest ≡ definitions_of ts → definitions_of (cond b (record t { rows = [] } ∷ ts) (t ∷ rest)) ≡ t.definition ∷ definitions_of ts
cleared_step true t ts rest e = refl
cleared_step false t ts rest e = ap (λ (more : List TableDef). t.definition ∷ more) e

cleared_are : (name : List ℕ) (ts : List Table) → definitions_of (tables_cleared name ts) ≡ definitions_of ts
cleared_are name [] = refl
cleared_are name (t ∷ ts) = cleared_step (has_name name t) t ts (tables_cleared name ts) (cleared_are name ts)

pub together_cleared : (objects : List Object) (store new : Store) (counters after : List Counter) (name : List ℕ) → AreTogether objects store [] counters
    → new.tables ≡ tables_cleared name store.tables → new.committed ≡ tables_cleared name store.committed → tables_of after ≡ tables_of counters → AreTogether objects new [] after
together_cleared objects store new counters after name h ts committed cs = record {
  reversible = none_taken_back new;
  apart = both_apart (tables_cleared name) store new h.apart ts committed;
  theirs = ap definitions_of ts ∙ cleared_are name store.tables ∙ h.theirs;
  counted = cs ∙ h.counted;
}

-- ---- programs made and dropped

-- a program is no table
function_step : (b : Bool) (p : Program) (rest : List rules.Object) → definitions_in (cond (not b) (function p ∷ rest) rest) ≡ definitions_in rest
function_step true p rest = refl
function_step false p rest = refl

procedure_step : (b : Bool) (p : Program) (rest : List rules.Object) → definitions_in (cond (not b) (procedure p ∷ rest) rest) ≡ definitions_in rest
procedure_step true p rest = refl
procedure_step false p rest = refl

abbrev next : TableDef → List TableDef → List TableDef
next d ds = d ∷ ds

functions_out : (name : List ℕ) (os : List rules.Object) → definitions_in (objects_but (is_function_named name) os) ≡ definitions_in os
functions_out name [] = refl
functions_out name (table d ∷ os) = ap (next d) (functions_out name os)
functions_out name (function p ∷ os) = function_step (same_name name (rules.name_of p)) p (objects_but (is_function_named name) os) ∙ functions_out name os
functions_out name (procedure p ∷ os) = functions_out name os
functions_out name (reaction t ∷ os) = functions_out name os

procedures_out : (name : List ℕ) (os : List rules.Object) → definitions_in (objects_but (is_procedure_named name) os) ≡ definitions_in os
procedures_out name [] = refl
procedures_out name (table d ∷ os) = ap (next d) (procedures_out name os)
procedures_out name (function p ∷ os) = procedures_out name os
procedures_out name (procedure p ∷ os) = procedure_step (same_name name (rules.name_of p)) p (objects_but (is_procedure_named name) os) ∙ procedures_out name os
procedures_out name (reaction t ∷ os) = procedures_out name os

triggers_out : (name : List ℕ) (os : List rules.Object) → definitions_in (objects_but (is_trigger_named name) os) ≡ definitions_in os
triggers_out name [] = refl
triggers_out name (table d ∷ os) = ap (next d) (triggers_out name os)
triggers_out name (function p ∷ os) = triggers_out name os
triggers_out name (procedure p ∷ os) = triggers_out name os
triggers_out name (reaction t ∷ os) = trigger_step (same_name name (rules.trigger_name t)) t (objects_but (is_trigger_named name) os) ∙ triggers_out name os

-- whether a statement makes or drops a program
abbrev pub is_of_program : Statement → Bool
is_of_program (create_function p) = true
is_of_program (create_procedure p) = true
is_of_program (create_trigger t) = true
is_of_program (drop_function name) = true
is_of_program (drop_procedure name) = true
is_of_program (drop_trigger name) = true
is_of_program s = false

pub drop_is_of_program : (s : Statement) → is_drop_of_program s ≡ true → is_of_program s ≡ true
drop_is_of_program (drop_function name) e = refl
drop_is_of_program (drop_procedure name) e = refl
drop_is_of_program (drop_trigger name) e = refl
drop_is_of_program s e = cc

program_made : (o : rules.Object) (os : List rules.Object) → definitions_in (o ∷ []) ≡ [] → definitions_in (os ++ o ∷ []) ≡ definitions_in os
program_made o os none = filter_map-append definition_if os (o ∷ []) ∙ ap (λ (ds : List TableDef). definitions_in os ++ ds) none ∙ append-nil (definitions_in os)

-- the tables of the catalog stay
pub tables_stay : (s : Statement) (os : List rules.Object) → is_of_program s ≡ true → definitions_in (catalog_after s os) ≡ definitions_in os
tables_stay (create_function p) os of = program_made (function p) os refl
tables_stay (create_procedure p) os of = program_made (procedure p) os refl
tables_stay (create_trigger t) os of = program_made (reaction t) os refl
tables_stay (drop_function name) os of = functions_out name os
tables_stay (drop_procedure name) os of = procedures_out name os
tables_stay (drop_trigger name) os of = triggers_out name os
tables_stay (create_table t) os of = cc
tables_stay (drop_table name) os of = cc
tables_stay (truncate name) os of = cc
tables_stay (insert_into ignore t cs from us) os of = cc
tables_stay (replace_into t cs from) os of = cc
tables_stay (update_rows t ss w o l) os of = cc
tables_stay (delete_rows t w o l) os of = cc
tables_stay (select q) os of = cc
tables_stay (evaluate ts) os of = cc
tables_stay (set_all as') os of = cc
tables_stay (call_procedure n ts) os of = cc
tables_stay begin os of = cc
tables_stay commit os of = cc
tables_stay rollback os of = cc
tables_stay (savepoint n) os of = cc
tables_stay (rollback_to n) os of = cc
tables_stay (release_savepoint n) os of = cc
tables_stay (block ds ss) os of = cc
tables_stay (if_steps bs o) os of = cc
tables_stay (while_steps c ss) os of = cc
tables_stay (return_value e) os of = cc

pub together_programmed : (objects now : List Object) (store : Store) (changes : List Change) (counters : List Counter) (s : Statement) → AreTogether objects store changes counters
    → is_of_program s ≡ true → objects_of now ≡ catalog_after s (objects_of objects) → AreTogether now store changes counters
together_programmed objects now store changes counters s h of os =
    let same : definitions_in (objects_of now) ≡ definitions_in (objects_of objects) = ap definitions_in os ∙ tables_stay s (objects_of objects) of in
    record {
      reversible = h.reversible;
      apart = h.apart;
      theirs = h.theirs ∙ sym same;
      counted = h.counted ∙ ap counted_names (sym same);
    }
