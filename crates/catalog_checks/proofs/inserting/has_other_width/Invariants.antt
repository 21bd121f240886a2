use Rattle.std.proofs.Common.{◌≡◌, drop, not}
use Rattle.std.specs.Prelude.{◌==◌}
use Rattle.std.specs.List.{list_any}
use Rattle.sql_tree.specs.StatementView.{view_rows}
use Rattle.catalog_objects.specs.catalog_rules.Nodes.{count_of_trees}
use Rattle.catalog_checks.proofs.inserting.has_other_width.Given as goal

abbrev pub invariant-loop-row : goal.invariant-loop-row
invariant-loop-row l = list_any (λ ts. not (count_of_trees ts == l.count)) (view_rows (drop l.row-index l.row-items)) ≡ list_any (λ ts. not (count_of_trees ts == l.count)) (view_rows l.rows)
