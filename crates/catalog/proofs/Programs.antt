-- What a CREATE FUNCTION, PROCEDURE or TRIGGER that nothing refuses may rest on.
use Rattle.std.proofs.Common.{◌≡◌, ℕ, List, [], ◌∷◌, Option, Some, None, refl, sym, ap, ◌∙◌}
use Rattle.std.specs.Option.{option_map}
use Rattle.sql_tree.specs.Statement.{Trigger, trigger, create_function, create_procedure, create_trigger}
use Rattle.sql_tree.specs.StatementView.{view, view_program, view_trigger}
use Rattle.sql_tree.specs.declared.statements.Routine.{Routine}
use Rattle.sql_tree.specs.declared.statements.TriggerDef.{TriggerDef}
use Rattle.catalog_show_create.specs.catalog_rules.Names.{same_name}
use Rattle.catalog_show_create.specs.catalog_rules.Objects as rules
use Rattle.catalog_show_create.specs.catalog_rules.Creating.{first_refusal, trigger_checks, ddl_refusal}
use Rattle.catalog_show_create.specs.catalog_objects.declared.object.Object.{Object}
use Rattle.catalog_show_create.specs.catalog_objects.declared.object.Object.TheVariants as kinds
use Rattle.catalog_show_create.specs.catalog_objects.Keys.{objects_of}
use Rattle.catalog_show_create.specs.catalog_objects.Lookups.{object_of, is_free, is_event_free}
use Rattle.catalog_show_create.proofs.of_catalog_objects.Found.{same_tied, waiting_found}
use Rattle.catalog_show_create.proofs.of_catalog_objects.Parts.{program_named, trigger_named, trigger_seen}
use Rattle.catalog_create_program.proofs.RefusedFirst.{ddl_is}
use Rattle.catalog.proofs.Added.{free_step, passed, behind, no_some, neither}

-- ---- names that are free

function_free : (objects : List Object) (name : List ℕ) → rules.function_in (objects_of objects) name ≡ None → object_of objects 1 name ≡ None
function_free [] name none = refl
function_free (kinds.Table d ∷ os) name none = function_free os name none
function_free (kinds.Function p ∷ os) name none =
    free_step _ _ (kinds.Function p) (object_of os 1 name) (view_program p) (rules.function_in (objects_of os) name)
    (same_tied name p.name ∙ ap (same_name name) (sym (program_named p))) none (function_free os name)
function_free (kinds.Procedure p ∷ os) name none = function_free os name none
function_free (kinds.Trigger t ∷ os) name none = function_free os name none

procedure_free : (objects : List Object) (name : List ℕ) → rules.procedure_in (objects_of objects) name ≡ None → object_of objects 2 name ≡ None
procedure_free [] name none = refl
procedure_free (kinds.Table d ∷ os) name none = procedure_free os name none
procedure_free (kinds.Function p ∷ os) name none = procedure_free os name none
procedure_free (kinds.Procedure p ∷ os) name none =
    free_step _ _ (kinds.Procedure p) (object_of os 2 name) (view_program p) (rules.procedure_in (objects_of os) name)
    (same_tied name p.name ∙ ap (same_name name) (sym (program_named p))) none (procedure_free os name)
procedure_free (kinds.Trigger t ∷ os) name none = procedure_free os name none

trigger_free : (objects : List Object) (name : List ℕ) → rules.trigger_in (objects_of objects) name ≡ None → object_of objects 3 name ≡ None
trigger_free [] name none = refl
trigger_free (kinds.Table d ∷ os) name none = trigger_free os name none
trigger_free (kinds.Function p ∷ os) name none = trigger_free os name none
trigger_free (kinds.Procedure p ∷ os) name none = trigger_free os name none
trigger_free (kinds.Trigger t ∷ os) name none =
    free_step _ _ (kinds.Trigger t) (object_of os 3 name) (view_trigger t) (rules.trigger_in (objects_of os) name)
    (same_tied name t.name ∙ ap (same_name name) (sym (trigger_named t))) none (trigger_free os name)

none_found : (o : Option TriggerDef) (found : Option Trigger) → option_map view_trigger o ≡ found → found ≡ None → o ≡ None
none_found o found e none = inside o (e ∙ none)
  where
    inside : (o : Option TriggerDef) → option_map view_trigger o ≡ None → o ≡ None
    inside None is = refl
    inside (Some t) is = cc

-- ---- programs that nothing refuses

pub new_function : (objects : List Object) (p : Routine) → ddl_refusal (objects_of objects) (create_function (view_program p)) ≡ None → is_free (kinds.Function p) objects
new_function objects p none =
    function_free objects p.name
    (ap (rules.function_in (objects_of objects)) (sym (program_named p)) ∙ no_some _ (passed _ _ _ (ddl_is (objects_of objects) (create_function (view_program p)) ∙ none)).0)

pub new_procedure : (objects : List Object) (p : Routine) → ddl_refusal (objects_of objects) (create_procedure (view_program p)) ≡ None → is_free (kinds.Procedure p) objects
new_procedure objects p none =
    procedure_free objects p.name
    (ap (rules.procedure_in (objects_of objects)) (sym (program_named p)) ∙ no_some _ (passed _ _ _ (ddl_is (objects_of objects) (create_procedure (view_program p)) ∙ none)).0)

module _ (objects : List Object) (t : TriggerDef) (none : ddl_refusal (objects_of objects) (create_trigger (view_trigger t)) ≡ None) where
  let_through : first_refusal (trigger_checks (objects_of objects) (trigger t.name t.time t.event t.table (view t.body))) ≡ None
  let_through =
      ap (λ (x : Trigger). first_refusal (trigger_checks (objects_of objects) x)) (sym (trigger_seen t))
      ∙ ddl_is (objects_of objects) (create_trigger (view_trigger t)) ∙ none

  pub new_trigger : is_free (kinds.Trigger t) objects
  new_trigger = trigger_free objects t.name (no_some _ (passed _ _ _ (behind 1 (trigger_checks (objects_of objects) (trigger t.name t.time t.event t.table (view t.body))) let_through)).0)

  pub new_event : is_event_free (kinds.Trigger t) objects
  new_event =
      none_found _ _ (waiting_found objects t.table t.time t.event)
      (no_some _ (neither _ _ (passed _ _ _ (behind 3 (trigger_checks (objects_of objects) (trigger t.name t.time t.event t.table (view t.body))) let_through)).0).1)
