-- What an event of a row leaves to be stored, by a closure.
use Rattle.std.specs.Prelude.{List, Option, Some, None, Result}
use Rattle.std.specs.Option.{option_copied}
use Rattle.std.specs.Borrow.{Bor, MutBor}
use Rattle.val_types.specs.declared.value.Value.{Value}
use Rattle.val_types.specs.declared.refusal.SqlRefusal.{SqlRefusal}
use Rattle.val_types.specs.declared.definitions.TableDef.{TableDef}
use Rattle.sql_tree.specs.declared.statements.Time.{Time}
use Rattle.sql_tree.specs.declared.statements.Cause.{Cause}
use Rattle.sql_evaluation.specs.exec_state.declared.stage.Stage.{Stage}
use Rattle.sql_evaluation.specs.exec_state.declared.running.Running.{Running as UnderWay}
use Rattle.sql_evaluation.specs.exec_state.Stage.{EndsAsBy, LeadsOn, scene_of}
use Rattle.sql_evaluation.specs.declared.world.Around.{Around}
use Rattle.sql_evaluation.specs.Seen.{running_of, world_of}

-- the row that is left, None where it is left as it was given
abbrev pub left_of : Option (List Value) → Option (List Value) → Option (List Value)
left_of given None = given
left_of given (Some row) = Some row

-- what an event by a closure leaves
abbrev pub Fires : (MutBor Stage → Bor UnderWay → Time → Cause → Bor TableDef → Option (Bor (List Value)) → Option (Bor (List Value)) → Result (Option (List Value)) SqlRefusal → MutBor Stage → Type 0) → Around → Type 0
Fires post a =
    (s : MutBor Stage) (g : Bor UnderWay) (time : Time) (event : Cause) (d : Bor TableDef) (new old : Option (Bor (List Value))) (r : Result (Option (List Value)) SqlRefusal) (s' : MutBor Stage) → post s g time event d new old r s'
    → EndsAsBy (left_of (option_copied new)) r (scene_of s'.now) ((world_of a).below.fire (running_of g.now) time event d.now (option_copied new) (option_copied old) (scene_of s.now))

-- and that it leads on
abbrev pub FiresLead : (MutBor Stage → Bor UnderWay → Time → Cause → Bor TableDef → Option (Bor (List Value)) → Option (Bor (List Value)) → Result (Option (List Value)) SqlRefusal → MutBor Stage → Type 0) → Type 0
FiresLead post =
    (s : MutBor Stage) (g : Bor UnderWay) (time : Time) (event : Cause) (d : Bor TableDef) (new old : Option (Bor (List Value))) (r : Result (Option (List Value)) SqlRefusal) (s' : MutBor Stage) → post s g time event d new old r s'
    → LeadsOn s.now s'.now
