use Rattle.std.proofs.Common.{◌≡◌, List, map, take}
use Rattle.val_types.specs.declared.value.Value.{Value}
use Rattle.sql_evaluation.proofs.sorting.rows_of.Given as goal

abbrev pub invariant-loop-one : goal.invariant-loop-one
invariant-loop-one l = l.rows ≡ map (λ (r : List Value × List Value). r.1) (take l.one-index l.keyed)
