use Rattle.std.proofs.Common.{◌≡◌, ◌++◌, drop, map}
use Rattle.std.specs.List.{enumerate_from}
use Rattle.sql_evaluation.specs.sql_meaning.Changing.{left_out_row, left_out_value}
use Rattle.changed_rows.proofs.columns.left_out_row.Given as goal

abbrev pub invariant-loop-place : goal.invariant-loop-place
invariant-loop-place l = l.row ++ map (left_out_value l.definition) (enumerate_from l.place (drop l.place l.column-items)) ≡ left_out_row l.definition
