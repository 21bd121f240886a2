use Rattle.std.proofs.Common.{◌≡◌, ◌≤◌, min, drop}
use Rattle.sql_tree.specs.StatementView.{view_declarations}
use Rattle.catalog_create_program.specs.BodyRanks.{declared_rank}
use Rattle.catalog_create_program.proofs.bodies.declared.Given as goal

abbrev pub invariant-loop-declaration : goal.invariant-loop-declaration
invariant-loop-declaration l =
    (l.rank ≤ 3) × (min l.rank (declared_rank (view_declarations (drop l.declaration-index l.declaration-items))) ≡ declared_rank (view_declarations l.list))
