use Rattle.std.proofs.Common.{◌≡◌, take}
use Rattle.sql_evaluation.specs.Seen.{column_at}
use Rattle.sql_evaluation.proofs.aggregates.column_of.Given as goal

abbrev pub invariant-loop-row : goal.invariant-loop-row
invariant-loop-row l = l.column ≡ column_at (take l.row-index l.row-items) l.place
