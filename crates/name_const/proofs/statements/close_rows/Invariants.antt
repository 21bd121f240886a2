use Rattle.std.proofs.Common.{◌≡◌, map, take}
use Rattle.sql_tree.specs.View.{view_trees}
use Rattle.name_const_names.specs.name_const_length.Closed.{closed_trees}
use Rattle.name_const.proofs.statements.close_rows.Given as goal

abbrev pub invariant-loop-row : goal.invariant-loop-row
invariant-loop-row l = map view_trees l.copy ≡ map (λ x. closed_trees l.locals (view_trees x)) (take l.row-index l.row-items)
