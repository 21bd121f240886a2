use Rattle.std.proofs.Common.{◌≡◌, ◌-◌, ◌^◌, ◌<◌, min, max, drop}
use Rattle.sql_tree.specs.Depth.{depth_of_rows}
use Rattle.sql_tree.specs.StatementView.{view_rows}
use Rattle.sql_tree.proofs.statement_depth.rows_depth.Given as goal

abbrev pub invariant-loop-row : goal.invariant-loop-row
invariant-loop-row l =
    (l.most < 2 ^ 32) × (min (max l.most (depth_of_rows (view_rows (drop l.row-index l.row-items)))) (2 ^ 32 - 1) ≡ min (depth_of_rows (view_rows l.rows)) (2 ^ 32 - 1))
