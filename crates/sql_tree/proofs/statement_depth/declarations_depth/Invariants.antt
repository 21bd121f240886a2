use Rattle.std.proofs.Common.{◌≡◌, ◌-◌, ◌^◌, ◌<◌, min, max, drop}
use Rattle.sql_tree.specs.Depth.{depth_of_declarations}
use Rattle.sql_tree.specs.StatementView.{view_declarations}
use Rattle.sql_tree.proofs.statement_depth.declarations_depth.Given as goal

abbrev pub invariant-loop-declaration : goal.invariant-loop-declaration
invariant-loop-declaration l =
    (l.most < 2 ^ 32) × (min (max l.most (depth_of_declarations (view_declarations (drop l.declaration-index l.declaration-items)))) (2 ^ 32 - 1) ≡ min (depth_of_declarations (view_declarations l.declarations)) (2 ^ 32 - 1))
