use Rattle.std.proofs.Common.{length}
use Rattle.std.specs.List.{AllByRecursion}
use Rattle.store_model.specs.Bodies.{IsChange}
use Rattle.test_stores.proofs.forms.is_each_change.Given as goal

abbrev pub invariant-loop-left : goal.invariant-loop-left
invariant-loop-left l = AllByRecursion IsChange l.left → AllByRecursion IsChange l.changes

abbrev pub decreases-loop-left : goal.decreases-loop-left
decreases-loop-left l = length l.left
