-- What a catalog finds by its keys.
use Rattle.std.specs.Prelude.{◌≡◌, ℕ, Bool, true, false, not, List, Option, Some, None}
use Rattle.sql_tree.specs.declared.statements.Routine.{Routine}
use Rattle.sql_tree.specs.declared.statements.TriggerDef.{TriggerDef}
use Rattle.sql_tree.specs.declared.statements.Time.{Time}
use Rattle.sql_tree.specs.declared.statements.Cause.{Cause}
use Rattle.val_types.specs.declared.definitions.TableDef.{TableDef}
use Rattle.sql_tree.specs.Statement.{Statement, drop_table, drop_function, drop_procedure, drop_trigger}
use Rattle.catalog_rules.specs.Creating.{goes_with_table, is_function_named, is_procedure_named, is_trigger_named}
use Rattle.catalog_objects.specs.declared.object.Object.{Object}
use Rattle.catalog_objects.specs.declared.object.Object.TheVariants.{Table, Function, Procedure, Trigger}
use Rattle.catalog_objects.specs.Keys.{seen, key_of, key_order, event_of, event_order, time_number, cause_number, trigger_if, triggers_in}
use Rattle.catalog_objects.specs.Rising.{find_by, has_key, put, IsIndexed}

-- the object of a kind and name, and the trigger for an event
abbrev pub object_of : List Object → ℕ → List ℕ → Option Object
object_of objects kind name = find_by (has_key key_order key_of (record { kind = kind; name = name })) objects

abbrev pub waiting_for : List TriggerDef → List ℕ → Time → Cause → Option TriggerDef
waiting_for triggers table time event =
    find_by (has_key event_order event_of (record { table = table; time = time_number time; event = cause_number event })) triggers

-- an object, where it is a table, and so on
abbrev pub table_if : Option Object → Option TableDef
table_if None = None
table_if (Some (Table definition)) = Some definition
table_if (Some (Function routine)) = None
table_if (Some (Procedure routine)) = None
table_if (Some (Trigger trigger)) = None

abbrev pub routine_if : Option Object → Option Routine
routine_if None = None
routine_if (Some (Table definition)) = None
routine_if (Some (Function routine)) = Some routine
routine_if (Some (Procedure routine)) = Some routine
routine_if (Some (Trigger trigger)) = None

abbrev pub trigger_if_some : Option Object → Option TriggerDef
trigger_if_some None = None
trigger_if_some (Some o) = trigger_if o

-- names differ, and so does what triggers wait for; both are found by their order
pub record AreFound (objects named : List Object) (waiting : List TriggerDef) : Type 0 where
  pub names : IsIndexed key_order key_of objects named
  pub events : IsIndexed event_order event_of (triggers_in objects) waiting

-- whether a DROP takes an object out; no other statement does
abbrev pub goes_with : Statement → Object → Bool
goes_with (drop_table name) o = goes_with_table name (seen o)
goes_with (drop_function name) o = is_function_named name (seen o)
goes_with (drop_procedure name) o = is_procedure_named name (seen o)
goes_with (drop_trigger name) o = is_trigger_named name (seen o)
goes_with s o = false

-- whether a statement is a DROP
abbrev pub is_drop : Statement → Bool
is_drop (drop_table name) = true
is_drop (drop_function name) = true
is_drop (drop_procedure name) = true
is_drop (drop_trigger name) = true
is_drop s = false

abbrev pub stays_with : Statement → Object → Bool
stays_with s o = not (goes_with s o)

-- the same of a trigger
abbrev pub trigger_stays : Statement → TriggerDef → Bool
trigger_stays s t = stays_with s (Trigger t)

-- the triggers in their order with one more, where there is one
abbrev pub waiting_with : Option TriggerDef → List TriggerDef → List TriggerDef
waiting_with None waiting = waiting
waiting_with (Some trigger) waiting = put event_order event_of trigger waiting

-- whether an object has a kind and name, and a trigger an event, that no other has
abbrev pub is_free : Object → List Object → Type 0
is_free o objects = find_by (has_key key_order key_of (key_of o)) objects ≡ None

abbrev pub is_event_free : Object → List Object → Type 0
is_event_free (Table definition) objects = Unit {0}
is_event_free (Function routine) objects = Unit {0}
is_event_free (Procedure routine) objects = Unit {0}
is_event_free (Trigger trigger) objects = find_by (has_key event_order event_of (event_of trigger)) (triggers_in objects) ≡ None
