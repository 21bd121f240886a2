use Rattle.std.proofs.Common.{◌≡◌, ◌-◌, ◌^◌, ◌<◌, min, max, drop}
use Rattle.sql_tree.specs.Depth.{depth_of_sets}
use Rattle.sql_tree.specs.StatementView.{view_sets}
use Rattle.sql_tree.proofs.statement_depth.sets_depth.Given as goal

abbrev pub invariant-loop-set : goal.invariant-loop-set
invariant-loop-set l =
    (l.most < 2 ^ 32) × (min (max l.most (depth_of_sets (view_sets (drop l.set-index l.set-items)))) (2 ^ 32 - 1) ≡ min (depth_of_sets (view_sets l.sets)) (2 ^ 32 - 1))
