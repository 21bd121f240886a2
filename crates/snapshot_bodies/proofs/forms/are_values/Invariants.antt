use Rattle.std.proofs.Common.{drop}
use Rattle.std.specs.List.{AllByRecursion}
use Rattle.store_model.specs.Bodies.{IsValue}
use Rattle.snapshot_bodies.proofs.forms.are_values.Given as goal

-- those that are left are wanting
abbrev pub invariant-loop-value : goal.invariant-loop-value
invariant-loop-value l = AllByRecursion IsValue (drop l.value-index l.values) → AllByRecursion IsValue l.values
