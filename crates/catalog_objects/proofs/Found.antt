-- What is found by keys is what the definitions of catalogs find by a walk.
use Rattle.std.proofs.Common.{◌≡◌, ℕ, Bool, true, false, ◌&&◌, List, [], ◌∷◌, Option, Some, None, cond, refl, sym, ap, ◌∙◌, Ordering, Less, Equal, Greater}
use Rattle.std.specs.Option.{option_map}
use Rattle.std.specs.Ordering.{is_eq, ordering_then, nat_cmp}
use Rattle.std.specs.Cmp.Lexicographic.{slice_cmp}
use Rattle.std.proofs.lemmas.Map.Text.{is_eq-slice_cmp}
use Rattle.sql_tree.specs.StatementView.{view_program, view_trigger}
use Rattle.sql_tree.specs.declared.statements.Routine.{Routine}
use Rattle.sql_tree.specs.declared.statements.TriggerDef.{TriggerDef}
use Rattle.sql_tree.specs.declared.statements.Time.{Time}
use Rattle.sql_tree.specs.declared.statements.Time.TheVariants as times
use Rattle.sql_tree.specs.declared.statements.Cause.{Cause}
use Rattle.sql_tree.specs.declared.statements.Cause.TheVariants as causes
use Rattle.val_types.specs.declared.definitions.TableDef.{TableDef}
use Rattle.catalog_rules.specs.Names.{same_name}
use Rattle.catalog_objects.proofs.Parts.{program_named, trigger_seen}
use Rattle.catalog_objects.proofs.Parts.{trigger_named as named}
use Rattle.catalog_rules.specs.Objects.{waits_for, table_in, function_in, procedure_in, trigger_in, trigger_for, same_time, same_event}
use Rattle.catalog_objects.specs.declared.object.Object.{Object}
use Rattle.catalog_objects.specs.declared.object.Object.TheVariants as kinds
use Rattle.catalog_objects.specs.Keys.{objects_of, time_number, cause_number, triggers_in}
use Rattle.sql_tree.specs.Statement.{Program, Trigger}
use Rattle.catalog_objects.specs.Lookups.{object_of, waiting_for, table_if, routine_if, trigger_if_some}

-- a name is the same as another where neither stands before the other
pub same_tied : (a b : List ℕ) → is_eq (slice_cmp nat_cmp a b) ≡ same_name a b
same_tied a b = is_eq-slice_cmp a b

table_step : (b c : Bool) (definition : TableDef) (o : Option Object) (more : Option TableDef) → b ≡ c → table_if o ≡ more
    → table_if (cond b (Some (kinds.Table definition)) o) ≡ elim (cond c (Some definition) None) as (λ _. Option TableDef) [ None ↦ more | Some d ↦ Some d ]
table_step true true definition o more e later = refl
table_step true false definition o more e later = cc
table_step false true definition o more e later = cc
table_step false false definition o more e later = later

pub table_found : (objects : List Object) (name : List ℕ) → table_if (object_of objects 0 name) ≡ table_in (objects_of objects) name
table_found [] name = refl
table_found (kinds.Table d ∷ os) name = table_step _ _ d (object_of os 0 name) (table_in (objects_of os) name) (same_tied name d.name) (table_found os name)
table_found (kinds.Function p ∷ os) name = table_found os name
table_found (kinds.Procedure p ∷ os) name = table_found os name
table_found (kinds.Trigger t ∷ os) name = table_found os name

routine_step : (b c : Bool) (routine : Routine) (found o : Option Object) (more : Option Program) → b ≡ c → routine_if found ≡ Some routine → option_map view_program (routine_if o) ≡ more
    → option_map view_program (routine_if (cond b found o)) ≡ elim (cond c (Some (view_program routine)) None) as (λ _. Option Program) [ None ↦ more | Some p ↦ Some p ]
routine_step true true routine found o more e is later = rw is refl
routine_step true false routine found o more e is later = cc
routine_step false true routine found o more e is later = cc
routine_step false false routine found o more e is later = later

pub function_found : (objects : List Object) (name : List ℕ) → option_map view_program (routine_if (object_of objects 1 name)) ≡ function_in (objects_of objects) name
function_found [] name = refl
function_found (kinds.Table d ∷ os) name = function_found os name
function_found (kinds.Function p ∷ os) name = routine_step _ _ p (Some (kinds.Function p)) (object_of os 1 name) (function_in (objects_of os) name) (same_tied name p.name ∙ ap (same_name name) (sym (program_named p))) refl (function_found os name)
function_found (kinds.Procedure p ∷ os) name = function_found os name
function_found (kinds.Trigger t ∷ os) name = function_found os name

pub procedure_found : (objects : List Object) (name : List ℕ) → option_map view_program (routine_if (object_of objects 2 name)) ≡ procedure_in (objects_of objects) name
procedure_found [] name = refl
procedure_found (kinds.Table d ∷ os) name = procedure_found os name
procedure_found (kinds.Function p ∷ os) name = procedure_found os name
procedure_found (kinds.Procedure p ∷ os) name = routine_step _ _ p (Some (kinds.Procedure p)) (object_of os 2 name) (procedure_in (objects_of os) name) (same_tied name p.name ∙ ap (same_name name) (sym (program_named p))) refl (procedure_found os name)
procedure_found (kinds.Trigger t ∷ os) name = procedure_found os name

trigger_step : (b c : Bool) (found t : TriggerDef) (o : Option TriggerDef) (more : Option Trigger) → b ≡ c → found ≡ t → option_map view_trigger o ≡ more
    → option_map view_trigger (cond b (Some found) o) ≡ elim (cond c (Some (view_trigger t)) None) as (λ _. Option Trigger) [ None ↦ more | Some p ↦ Some p ]
trigger_step true true found t o more e is later = ap (λ (x : TriggerDef). Some (view_trigger x)) is
trigger_step true false found t o more e is later = cc
trigger_step false true found t o more e is later = cc
trigger_step false false found t o more e is later = later

pub trigger_named : (objects : List Object) (name : List ℕ) → option_map view_trigger (trigger_if_some (object_of objects 3 name)) ≡ trigger_in (objects_of objects) name
trigger_named [] name = refl
trigger_named (kinds.Table d ∷ os) name = trigger_named os name
trigger_named (kinds.Function p ∷ os) name = trigger_named os name
trigger_named (kinds.Procedure p ∷ os) name = trigger_named os name
trigger_named (kinds.Trigger t ∷ os) name = named_step _ _ t (object_of os 3 name) (trigger_in (objects_of os) name) (same_tied name t.name ∙ ap (same_name name) (sym (named t))) (trigger_named os name)
  where
    named_step : (b c : Bool) (t : TriggerDef) (o : Option Object) (more : Option Trigger) → b ≡ c → option_map view_trigger (trigger_if_some o) ≡ more
        → option_map view_trigger (trigger_if_some (cond b (Some (kinds.Trigger t)) o)) ≡ elim (cond c (Some (view_trigger t)) None) as (λ _. Option Trigger) [ None ↦ more | Some p ↦ Some p ]
    named_step true true t o more e later = refl
    named_step true false t o more e later = cc
    named_step false true t o more e later = cc
    named_step false false t o more e later = later

times_tied : (a b : Time) → is_eq (nat_cmp (time_number a) (time_number b)) ≡ same_time a b
times_tied times.Before times.Before = refl
times_tied times.Before times.After = refl
times_tied times.After times.Before = refl
times_tied times.After times.After = refl

events_tied : (a b : Cause) → is_eq (nat_cmp (cause_number a) (cause_number b)) ≡ same_event a b
events_tied causes.Insert causes.Insert = refl
events_tied causes.Insert causes.Update = refl
events_tied causes.Insert causes.Delete = refl
events_tied causes.Update causes.Insert = refl
events_tied causes.Update causes.Update = refl
events_tied causes.Update causes.Delete = refl
events_tied causes.Delete causes.Insert = refl
events_tied causes.Delete causes.Update = refl
events_tied causes.Delete causes.Delete = refl

all_tied : (o p : Ordering) → is_eq (ordering_then o p) ≡ (is_eq o && is_eq p)
all_tied Less p = refl
all_tied Equal p = refl
all_tied Greater p = refl

both_same : (a b c d e f : Bool) → a ≡ d → b ≡ e → c ≡ f → ((a && b) && c) ≡ (d && e && f)
both_same true true c d e f p q r = rw (sym p, sym q) r
both_same true false c d e f p q r = rw (sym p, sym q) refl
both_same false b c d e f p q r = rw (sym p) refl

pub waits_tied : (table own : List ℕ) (time own_time : Time) (event own_event : Cause)
    → is_eq (ordering_then (ordering_then (slice_cmp nat_cmp table own) (nat_cmp (time_number time) (time_number own_time))) (nat_cmp (cause_number event) (cause_number own_event)))
    ≡ (same_name table own && same_time time own_time && same_event event own_event)
waits_tied table own time own_time event own_event =
    let former : is_eq (ordering_then (slice_cmp nat_cmp table own) (nat_cmp (time_number time) (time_number own_time))) ≡ (is_eq (slice_cmp nat_cmp table own) && is_eq (nat_cmp (time_number time) (time_number own_time))) =
    all_tied _ _ in
    all_tied _ _
    ∙ ap (λ (b : Bool). b && is_eq (nat_cmp (cause_number event) (cause_number own_event))) former
    ∙ both_same _ _ _ _ _ _ (same_tied table own) (times_tied time own_time) (events_tied event own_event)

pub waiting_found : (objects : List Object) (table : List ℕ) (time : Time) (event : Cause)
    → option_map view_trigger (waiting_for (triggers_in objects) table time event) ≡ trigger_for (objects_of objects) table time event
waiting_found [] table time event = refl
waiting_found (kinds.Table d ∷ os) table time event = waiting_found os table time event
waiting_found (kinds.Function p ∷ os) table time event = waiting_found os table time event
waiting_found (kinds.Procedure p ∷ os) table time event = waiting_found os table time event
waiting_found (kinds.Trigger t ∷ os) table time event =
    trigger_step _ _ t t (waiting_for (triggers_in os) table time event) (trigger_for (objects_of os) table time event)
    (waits_tied table t.table time t.time event t.event ∙ ap (waits_for table time event) (sym (trigger_seen t))) refl (waiting_found os table time event)
