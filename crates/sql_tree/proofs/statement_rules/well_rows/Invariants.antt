use Rattle.std.proofs.Common.{◌≡◌, drop}
use Rattle.std.specs.List.{list_all}
use Rattle.sql_tree.specs.Well.{is_well_row}
use Rattle.sql_tree.specs.StatementView.{view_rows}
use Rattle.sql_tree.proofs.statement_rules.well_rows.Given as goal

abbrev pub invariant-loop-row : goal.invariant-loop-row
invariant-loop-row l = list_all is_well_row (view_rows (drop l.row-index l.row-items)) ≡ list_all is_well_row (view_rows l.rows)
