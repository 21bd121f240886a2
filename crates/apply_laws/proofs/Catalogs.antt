-- What CREATE, DROP and TRUNCATE leave of the tables of a catalog.
use Rattle.std.proofs.Common.{◌≡◌, ℕ, Bool, true, false, not, ◌||◌, cond, List, [], ◌∷◌, ◌++◌, Option, Some, None, refl, sym, ap, subst, ◌∙◌}
use Rattle.std.specs.Prelude.{nat_eq, is_some}
use Rattle.std.specs.List.{list_any}
use Rattle.std.specs.Cmp.Lexicographic.{pointwise}
use Rattle.std.proofs.lemmas.List.{map-append, append-nil}
use Rattle.std.proofs.lemmas.List.Elements.{filter_map-append}
use Rattle.std.proofs.lemmas.Bool.{and_parts, and_from, or_parts, true≢false}
use Rattle.val_types.specs.declared.definitions.TableDef.{TableDef}
use Rattle.val_types.specs.Lookup.{remove_first}
use Rattle.table_rules.specs.Tables.{Table}
use Rattle.table_rules.specs.Changes.{AreKept}
use Rattle.table_rules.specs.Stored.{has_name, tables_beside, tables_cleared}
use Rattle.table_rules.specs.Stores.{definitions_of, names_differ}
use Rattle.table_rules.proofs.Places.{name_is, name_self}
use Rattle.table_rules.proofs.Taking.{is_kept}
use Rattle.sql_tree.specs.Statement.{Program, Trigger, create_table}
use Rattle.sql_tree.specs.declared.statements.CreateTable.{CreateTable}
use Rattle.statement_names.specs.catalog_rules.Names.{same_name}
use Rattle.statement_names.specs.catalog_rules.Objects.{Object, table, function, procedure, reaction, table_in, name_of, trigger_name, trigger_table}
use Rattle.statement_names.specs.catalog_rules.Creating.{ddl_refusal, goes_with_table, is_function_named, is_procedure_named, is_trigger_named, objects_but}
use Rattle.statement_names.specs.catalog_rules.Bases.{definitions_in, definition_if, table_without_rows}

-- ---- names

name_turned_by : (a b : List ℕ) (x y : Bool) → pointwise nat_eq a b ≡ x → pointwise nat_eq b a ≡ y → x ≡ y
name_turned_by a b true true e f = refl
name_turned_by a b false false e f = refl
name_turned_by a b true false e f =
    let self : pointwise nat_eq b a ≡ true = ap (λ (n : List ℕ). pointwise nat_eq b n) (name_is a b e) ∙ name_self b in
    absurd (true≢false (sym self ∙ f))
name_turned_by a b false true e f =
    let self : pointwise nat_eq a b ≡ true = ap (λ (n : List ℕ). pointwise nat_eq a n) (name_is b a f) ∙ name_self a in
    absurd (true≢false (sym self ∙ e))

-- names are the same either way round
pub name_turned : (a b : List ℕ) → pointwise nat_eq a b ≡ pointwise nat_eq b a
name_turned a b = name_turned_by a b (pointwise nat_eq a b) (pointwise nat_eq b a) refl refl

-- whether a definition has a name
abbrev pub named : List ℕ → TableDef → Bool
named name d = same_name name d.name

-- ---- a table that is not there yet

free_step : (b any : Bool) (d : TableDef) (rest : Option TableDef) → elim (cond b (Some d) None) as (λ _. Option TableDef) [ None ↦ rest | Some e ↦ Some e ] ≡ None
    → (rest ≡ None → any ≡ false) → (b || any) ≡ false
free_step true any d rest e later = cc
free_step false any d rest e later = later e

is_free : (name : List ℕ) (os : List Object) → table_in os name ≡ None → list_any (named name) (definitions_in os) ≡ false
is_free name [] e = refl
is_free name (table d ∷ os) e = free_step (named name d) (list_any (named name) (definitions_in os)) d (table_in os name) e (is_free name os)
is_free name (function p ∷ os) e = is_free name os e
is_free name (procedure p ∷ os) e = is_free name os e
is_free name (reaction t ∷ os) e = is_free name os e

passed : (b : Bool) (code : ℕ) (rest : Option ℕ) → cond b (Some code) rest ≡ None → b ≡ false
passed true code rest e = cc
passed false code rest e = refl

nothing_in : (o : Option TableDef) → is_some o ≡ false → o ≡ None
nothing_in None e = refl
nothing_in (Some d) e = cc

not_there_yet : (os : List Object) (t : CreateTable) → ddl_refusal os (create_table t) ≡ None → table_in os t.name ≡ None
unfolding ddl_refusal
not_there_yet os t e = nothing_in (table_in os t.name) (passed (is_some (table_in os t.name)) 1050 _ e)

pub created_free : (os : List Object) (t : CreateTable) → ddl_refusal os (create_table t) ≡ None → list_any (named t.name) (definitions_in os) ≡ false
created_free os t e = is_free t.name os (not_there_yet os t e)

-- ---- a table more

any_more : (test : TableDef → Bool) (ds : List TableDef) (d : TableDef) → list_any test ds ≡ false → test d ≡ false → list_any test (ds ++ d ∷ []) ≡ false
any_more test [] d e f = rw f refl
any_more test (x ∷ xs) d e f =
    let parts = or_parts (test x) (list_any test xs) e in
    rw (parts.0) (any_more test xs d parts.1 f)

not_from : (b : Bool) → b ≡ false → not b ≡ true
not_from true e = cc
not_from false e = refl

not_is : (b : Bool) → not b ≡ true → b ≡ false
not_is true e = cc
not_is false e = refl

pub names_more : (ds : List TableDef) (d : TableDef) → names_differ ds ≡ true → list_any (named d.name) ds ≡ false → names_differ (ds ++ d ∷ []) ≡ true
names_more [] d e f = refl
names_more (x ∷ xs) d e f =
    let parts = and_parts (not (list_any (λ (other : TableDef). pointwise nat_eq x.name other.name) xs)) (names_differ xs) e in
    let free = or_parts (named d.name x) (list_any (named d.name) xs) f in
    let others = any_more (λ (other : TableDef). pointwise nat_eq x.name other.name) xs d (not_is _ parts.0) (name_turned x.name d.name ∙ free.0) in
    and_from (not (list_any (λ (other : TableDef). pointwise nat_eq x.name other.name) (xs ++ d ∷ []))) (names_differ (xs ++ d ∷ [])) (not_from _ others)
    (names_more xs d parts.1 free.1)

pub definitions_more : (ts : List Table) (os : List Object) (d : TableDef) → definitions_of ts ≡ definitions_in os
    → definitions_of (ts ++ table_without_rows d ∷ []) ≡ definitions_in (os ++ table d ∷ [])
definitions_more ts os d e =
    map-append (λ (t : Table). t.definition) ts (table_without_rows d ∷ []) ∙ ap (λ (ds : List TableDef). ds ++ d ∷ []) e
    ∙ sym (filter_map-append definition_if os (table d ∷ []))

pub definitions_behind : (ts : List Table) (d : TableDef) → definitions_of (ts ++ table_without_rows d ∷ []) ≡ definitions_of ts ++ d ∷ []
definitions_behind ts d = map-append (λ (t : Table). t.definition) ts (table_without_rows d ∷ [])

pub kept_more : (ts : List Table) (d : TableDef) → AreKept ts → AreKept (ts ++ table_without_rows d ∷ [])
kept_more [] d all = (is_kept d [] tt, tt)
kept_more (t ∷ ts) d all = (all.0, kept_more ts d all.1)

-- ---- a table dropped

-- definitions without that of a name
abbrev pub beside : List ℕ → List TableDef → List TableDef
beside name ds = remove_first (named name) ds

tables_step : (b : Bool) (t : Table) (ts rest : List Table) (ds : List TableDef) → definitions_of rest ≡ ds → definitions_of (cond b ts (t ∷ rest)) ≡ cond b (definitions_of ts) (t.definition ∷ ds)
tables_step true t ts rest ds e = refl
tables_step false t ts rest ds e = ap (λ (more : List TableDef). t.definition ∷ more) e

pub tables_beside_are : (name : List ℕ) (ts : List Table) → definitions_of (tables_beside name ts) ≡ beside name (definitions_of ts)
tables_beside_are name [] = refl
tables_beside_are name (t ∷ ts) = tables_step (has_name name t) t ts (tables_beside name ts) (beside name (definitions_of ts)) (tables_beside_are name ts)

-- where names differ, what is not named is not among the rest
not_among : (name own : List ℕ) (ds : List TableDef) → same_name name own ≡ true → list_any (λ (other : TableDef). same_name own other.name) ds ≡ false → list_any (named name) ds ≡ false
not_among name own ds same e = subst (λ (n : List ℕ). list_any (named n) ds ≡ false) (sym (name_is name own same)) e

whole_beside : (name : List ℕ) (ds : List TableDef) → list_any (named name) ds ≡ false → beside name ds ≡ ds
whole_beside name [] e = refl
whole_beside name (d ∷ ds) e =
    let parts = or_parts (named name d) (list_any (named name) ds) e in
    rw (parts.0) (ap (λ (rest : List TableDef). d ∷ rest) (whole_beside name ds parts.1))

objects_step : (name : List ℕ) (b : Bool) (d : TableDef) (rest : List Object) (ds : List TableDef) → (b ≡ true → definitions_in rest ≡ ds) → (b ≡ false → definitions_in rest ≡ beside name ds)
    → definitions_in (cond (not b) (table d ∷ rest) rest) ≡ cond b ds (d ∷ beside name ds)
objects_step name true d rest ds there later = there refl
objects_step name false d rest ds there later = ap (λ (more : List TableDef). d ∷ more) (later refl)

-- a trigger is no table, whether it goes or stays
trigger_step : (b : Bool) (t : Trigger) (rest : List Object) → definitions_in (cond (not b) (reaction t ∷ rest) rest) ≡ definitions_in rest
trigger_step true t rest = refl
trigger_step false t rest = refl

pub objects_beside_are : (name : List ℕ) (os : List Object) → names_differ (definitions_in os) ≡ true
    → definitions_in (objects_but (goes_with_table name) os) ≡ beside name (definitions_in os)
objects_beside_are name [] differ = refl
objects_beside_are name (table d ∷ os) differ =
    let parts = and_parts (not (list_any (λ (other : TableDef). same_name d.name other.name) (definitions_in os))) (names_differ (definitions_in os)) differ in
    let rest = objects_beside_are name os parts.1 in
    objects_step name (named name d) d (objects_but (goes_with_table name) os) (definitions_in os)
    (λ same. rest ∙ whole_beside name (definitions_in os) (not_among name d.name (definitions_in os) same (not_is _ parts.0)))
    (λ other. rest)
objects_beside_are name (function p ∷ os) differ = objects_beside_are name os differ
objects_beside_are name (procedure p ∷ os) differ = objects_beside_are name os differ
objects_beside_are name (reaction t ∷ os) differ = trigger_step (same_name name (trigger_table t)) t (objects_but (goes_with_table name) os) ∙ objects_beside_are name os differ

any_fewer : (test gone : TableDef → Bool) (ds : List TableDef) → list_any test ds ≡ false → list_any test (remove_first gone ds) ≡ false
any_fewer test gone [] e = refl
any_fewer test gone (d ∷ ds) e =
    let parts = or_parts (test d) (list_any test ds) e in by (gone d) parts.0 parts.1 (any_fewer test gone ds parts.1)
  where
    by : (b : Bool) → test d ≡ false → list_any test ds ≡ false → list_any test (remove_first gone ds) ≡ false → list_any test (cond b ds (d ∷ remove_first gone ds)) ≡ false
    by true own all fewer = all
    by false own all fewer = rw own fewer

pub names_fewer : (name : List ℕ) (ds : List TableDef) → names_differ ds ≡ true → names_differ (beside name ds) ≡ true
names_fewer name [] e = refl
names_fewer name (d ∷ ds) e =
    let parts = and_parts (not (list_any (λ (other : TableDef). pointwise nat_eq d.name other.name) ds)) (names_differ ds) e in
    let others = any_fewer (λ (other : TableDef). pointwise nat_eq d.name other.name) (named name) ds (not_is _ parts.0) in
    by (named name d) parts.1 (and_from _ (names_differ (beside name ds)) (not_from _ others) (names_fewer name ds parts.1))
  where
    by : (b : Bool) → names_differ ds ≡ true → names_differ (d ∷ beside name ds) ≡ true → names_differ (cond b ds (d ∷ beside name ds)) ≡ true
    by true all fewer = all
    by false all fewer = fewer

pub kept_fewer : (name : List ℕ) (ts : List Table) → AreKept ts → AreKept (tables_beside name ts)
kept_fewer name [] all = tt
kept_fewer name (t ∷ ts) all = by (has_name name t) all.1 (all.0, kept_fewer name ts all.1)
  where
    by : (b : Bool) → AreKept ts → AreKept (t ∷ tables_beside name ts) → AreKept (cond b ts (t ∷ tables_beside name ts))
    by true rest fewer = rest
    by false rest fewer = fewer

-- ---- a table emptied

cleared_step : (b : Bool) (t : Table) (ts rest : List Table) → definitions_of rest ≡ definitions_of ts → definitions_of (cond b (record t { rows = [] } ∷ ts) (t ∷ rest)) ≡ t.definition ∷ definitions_of ts
cleared_step true t ts rest e = refl
cleared_step false t ts rest e = ap (λ (more : List TableDef). t.definition ∷ more) e

pub cleared_are : (name : List ℕ) (ts : List Table) → definitions_of (tables_cleared name ts) ≡ definitions_of ts
cleared_are name [] = refl
cleared_are name (t ∷ ts) = cleared_step (has_name name t) t ts (tables_cleared name ts) (cleared_are name ts)

pub kept_cleared : (name : List ℕ) (ts : List Table) → AreKept ts → AreKept (tables_cleared name ts)
kept_cleared name [] all = tt
kept_cleared name (t ∷ ts) all = by (has_name name t) (is_kept t.definition [] tt, all.1) (all.0, kept_cleared name ts all.1)
  where
    by : (b : Bool) → AreKept (record t { rows = [] } ∷ ts) → AreKept (t ∷ tables_cleared name ts) → AreKept (cond b (record t { rows = [] } ∷ ts) (t ∷ tables_cleared name ts))
    by true here later = here
    by false here later = later

-- ---- programs made and dropped

-- a program is no table
function_step : (b : Bool) (p : Program) (rest : List Object) → definitions_in (cond (not b) (function p ∷ rest) rest) ≡ definitions_in rest
function_step true p rest = refl
function_step false p rest = refl

procedure_step : (b : Bool) (p : Program) (rest : List Object) → definitions_in (cond (not b) (procedure p ∷ rest) rest) ≡ definitions_in rest
procedure_step true p rest = refl
procedure_step false p rest = refl

abbrev next : TableDef → List TableDef → List TableDef
next d ds = d ∷ ds

pub functions_out : (name : List ℕ) (os : List Object) → definitions_in (objects_but (is_function_named name) os) ≡ definitions_in os
functions_out name [] = refl
functions_out name (table d ∷ os) = ap (next d) (functions_out name os)
functions_out name (function p ∷ os) = function_step (same_name name (name_of p)) p (objects_but (is_function_named name) os) ∙ functions_out name os
functions_out name (procedure p ∷ os) = functions_out name os
functions_out name (reaction t ∷ os) = functions_out name os

pub procedures_out : (name : List ℕ) (os : List Object) → definitions_in (objects_but (is_procedure_named name) os) ≡ definitions_in os
procedures_out name [] = refl
procedures_out name (table d ∷ os) = ap (next d) (procedures_out name os)
procedures_out name (function p ∷ os) = procedures_out name os
procedures_out name (procedure p ∷ os) = procedure_step (same_name name (name_of p)) p (objects_but (is_procedure_named name) os) ∙ procedures_out name os
procedures_out name (reaction t ∷ os) = procedures_out name os

pub triggers_out : (name : List ℕ) (os : List Object) → definitions_in (objects_but (is_trigger_named name) os) ≡ definitions_in os
triggers_out name [] = refl
triggers_out name (table d ∷ os) = ap (next d) (triggers_out name os)
triggers_out name (function p ∷ os) = triggers_out name os
triggers_out name (procedure p ∷ os) = triggers_out name os
triggers_out name (reaction t ∷ os) = trigger_step (same_name name (trigger_name t)) t (objects_but (is_trigger_named name) os) ∙ triggers_out name os

pub program_made : (o : Object) (os : List Object) → definitions_in (o ∷ []) ≡ [] → definitions_in (os ++ o ∷ []) ≡ definitions_in os
program_made o os none = filter_map-append definition_if os (o ∷ []) ∙ ap (λ (ds : List TableDef). definitions_in os ++ ds) none ∙ append-nil (definitions_in os)
