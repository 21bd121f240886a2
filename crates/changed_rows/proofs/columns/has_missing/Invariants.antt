use Rattle.std.proofs.Common.{◌≡◌, drop}
use Rattle.std.specs.List.{list_any, enumerate_from}
use Rattle.sql_evaluation.specs.sql_meaning.Changing.{has_missing, is_missing}
use Rattle.changed_rows.proofs.columns.has_missing.Given as goal

abbrev pub invariant-loop-place : goal.invariant-loop-place
invariant-loop-place l = list_any (is_missing l.row l.asked) (enumerate_from l.place (drop l.place l.column-items)) ≡ has_missing l.definition l.row l.asked
