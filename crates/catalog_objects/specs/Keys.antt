-- What a catalog holds, as the definitions of catalogs speak of it, and the keys by which it is found.
use Rattle.std.specs.Prelude.{ℕ, List, map, filter_map, Option, Some, None}
use Rattle.std.specs.declared.cmp.Ordering.{Ordering}
use Rattle.std.specs.Ordering.{ordering_then, nat_cmp}
use Rattle.std.specs.Cmp.Lexicographic.{slice_cmp}
use Rattle.sql_tree.specs.StatementView.{view_program, view_trigger}
use Rattle.sql_tree.specs.declared.statements.TriggerDef.{TriggerDef}
use Rattle.sql_tree.specs.declared.statements.Time.{Time}
use Rattle.sql_tree.specs.declared.statements.Time.TheVariants as times
use Rattle.sql_tree.specs.declared.statements.Cause.{Cause}
use Rattle.sql_tree.specs.declared.statements.Cause.TheVariants as causes
use Rattle.catalog_rules.specs.Objects.{table, function, procedure, reaction}
use Rattle.catalog_rules.specs.Objects as rules
use Rattle.catalog_objects.specs.declared.object.Object.{Object}
use Rattle.catalog_objects.specs.declared.object.Object.TheVariants.{Table, Function, Procedure, Trigger}

-- an object as definitions speak of it
abbrev pub seen : Object → rules.Object
seen (Table definition) = table definition
seen (Function routine) = function (view_program routine)
seen (Procedure routine) = procedure (view_program routine)
seen (Trigger trigger) = reaction (view_trigger trigger)

-- the catalog that some objects are
abbrev pub objects_of : List Object → List rules.Object
objects_of objects = map seen objects

-- ---- by kind and name

-- a kind and a name
pub record Key : Type 0 where
  pub kind : ℕ
  pub name : List ℕ

abbrev pub key_of : Object → Key
key_of (Table definition) = record { kind = 0; name = definition.name }
key_of (Function routine) = record { kind = 1; name = routine.name }
key_of (Procedure routine) = record { kind = 2; name = routine.name }
key_of (Trigger trigger) = record { kind = 3; name = trigger.name }

-- by kinds, then by names
abbrev pub key_order : Key → Key → Ordering
key_order a b = ordering_then (nat_cmp a.kind b.kind) (slice_cmp nat_cmp a.name b.name)

-- ---- triggers by what they wait for

-- an event of a table, before or after it
pub record Event : Type 0 where
  pub table : List ℕ
  pub time : ℕ
  pub event : ℕ

abbrev pub time_number : Time → ℕ
time_number times.Before = 0
time_number times.After = 1

abbrev pub cause_number : Cause → ℕ
cause_number causes.Insert = 0
cause_number causes.Update = 1
cause_number causes.Delete = 2

-- what a trigger waits for
abbrev pub event_of : TriggerDef → Event
event_of trigger = record { table = trigger.table; time = time_number trigger.time; event = cause_number trigger.event }

-- by tables, then by times, then by events
abbrev pub event_order : Event → Event → Ordering
event_order a b = ordering_then (ordering_then (slice_cmp nat_cmp a.table b.table) (nat_cmp a.time b.time)) (nat_cmp a.event b.event)

abbrev pub trigger_if : Object → Option TriggerDef
trigger_if (Table definition) = None
trigger_if (Function routine) = None
trigger_if (Procedure routine) = None
trigger_if (Trigger trigger) = Some trigger

-- the triggers among some objects
abbrev pub triggers_in : List Object → List TriggerDef
triggers_in objects = filter_map trigger_if objects
