use Rattle.std.proofs.Common.{◌≡◌, map, take}
use Rattle.sql_tree.specs.StatementView.{view_set}
use Rattle.name_const_names.specs.name_const_length.Closed.{closed_set}
use Rattle.name_const.proofs.statements.close_sets.Given as goal

abbrev pub invariant-loop-set : goal.invariant-loop-set
invariant-loop-set l = map view_set l.copy ≡ map (λ x. closed_set l.locals (view_set x)) (take l.set-index l.set-items)
