use Rattle.std.proofs.Common.{length}
use Rattle.std.specs.List.{AllByRecursion}
use Rattle.store_model.specs.Bodies.{IsValue}
use Rattle.test_stores.proofs.forms.are_values.Given as goal

abbrev pub invariant-loop-left : goal.invariant-loop-left
invariant-loop-left l = AllByRecursion IsValue l.left → AllByRecursion IsValue l.values

abbrev pub decreases-loop-left : goal.decreases-loop-left
decreases-loop-left l = length l.left
