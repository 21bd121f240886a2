use Rattle.std.proofs.Common.{drop}
use Rattle.std.specs.List.{AllByRecursion}
use Rattle.store_model.specs.Bodies.{IsChange}
use Rattle.store_bodies.proofs.forms.are_changes.Given as goal

-- those that are left are wanting
abbrev pub invariant-loop-change : goal.invariant-loop-change
invariant-loop-change l = AllByRecursion IsChange (drop l.change-index l.changes) → AllByRecursion IsChange l.changes
