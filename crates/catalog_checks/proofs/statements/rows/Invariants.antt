use Rattle.std.proofs.Common.{◌≡◌, ◌≤◌, min, drop}
use Rattle.sql_tree.specs.StatementView.{view_rows}
use Rattle.catalog_objects.specs.catalog_rules.Ranks.{rows_rank}
use Rattle.catalog_checks.specs.Asking.{asked_of}
use Rattle.catalog_checks.proofs.statements.rows.Given as goal

abbrev pub invariant-loop-row : goal.invariant-loop-row
invariant-loop-row l = (l.rank ≤ 10) × (min l.rank (rows_rank (asked_of l.checks) (view_rows (drop l.row-index l.row-items))) ≡ rows_rank (asked_of l.checks) (view_rows l.rows))
