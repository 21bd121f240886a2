-- What is asked of the closures by which statements call stored functions and fire triggers, for programs one level further down.
use Rattle.std.specs.Prelude.{ℕ, List, Option, Result}
use Rattle.std.specs.Option.{option_copied}
use Rattle.std.specs.Borrow.{Bor, MutBor}
use Rattle.val_types.specs.declared.value.Value.{Value}
use Rattle.val_types.specs.declared.refusal.SqlRefusal.{SqlRefusal}
use Rattle.val_types.specs.declared.definitions.TableDef.{TableDef}
use Rattle.sql_tree.specs.declared.statements.Time.{Time}
use Rattle.sql_tree.specs.declared.statements.Cause.{Cause}
use Rattle.changed_rows.specs.sql_meaning.Frames.{Below}
use Rattle.exec_state.specs.declared.stage.Stage.{Stage}
use Rattle.exec_state.specs.declared.running.Running.{Running as UnderWay}
use Rattle.exec_state.specs.Stage.{EndsAs, EndsAsBy, scene_of}
use Rattle.changed_rows.specs.sql_evaluation.Seen.{running_of}
use Rattle.changed_rows.specs.Firing.{left_of}

-- what a call by a closure gives
abbrev pub CallsBelow : (MutBor Stage → Bor UnderWay → Bor (List ℕ) → List Value → Result Value SqlRefusal → MutBor Stage → Type 0) → Below → Type 0
CallsBelow post below =
    (s : MutBor Stage) (g : Bor UnderWay) (n : Bor (List ℕ)) (vs : List Value) (r : Result Value SqlRefusal) (s' : MutBor Stage) → post s g n vs r s'
    → EndsAs r (scene_of s'.now) (below.call (running_of g.now) n.now vs (scene_of s.now))

-- what an event by a closure leaves
abbrev pub FiresBelow : (MutBor Stage → Bor UnderWay → Time → Cause → Bor TableDef → Option (Bor (List Value)) → Option (Bor (List Value)) → Result (Option (List Value)) SqlRefusal → MutBor Stage → Type 0) → Below → Type 0
FiresBelow post below =
    (s : MutBor Stage) (g : Bor UnderWay) (time : Time) (event : Cause) (d : Bor TableDef) (new old : Option (Bor (List Value))) (r : Result (Option (List Value)) SqlRefusal) (s' : MutBor Stage) → post s g time event d new old r s'
    → EndsAsBy (left_of (option_copied new)) r (scene_of s'.now) (below.fire (running_of g.now) time event d.now (option_copied new) (option_copied old) (scene_of s.now))
