use Rattle.std.proofs.Common.{◌≡◌, ◌≤◌, min, drop}
use Rattle.sql_tree.specs.StatementView.{view_declarations}
use Rattle.catalog_objects.specs.catalog_rules.Ranks.{declared_rank}
use Rattle.catalog_checks.specs.Asking.{asked_of}
use Rattle.catalog_checks.proofs.statements.declared.Given as goal

abbrev pub invariant-loop-declaration : goal.invariant-loop-declaration
invariant-loop-declaration l = (l.rank ≤ 10) × (min l.rank (declared_rank (asked_of l.checks) (view_declarations (drop l.declaration-index l.declaration-items))) ≡ declared_rank (asked_of l.checks) (view_declarations l.list))
