use Rattle.std.proofs.Common.{◌≡◌, drop}
use Rattle.apply_model.specs.Rows.{takes_row}
use Rattle.row_apply.proofs.columns.takes_row.Given as goal

abbrev pub invariant-loop-column : goal.invariant-loop-column
invariant-loop-column l = takes_row (drop l.column-index l.columns) l.values ≡ takes_row l.columns l.row
