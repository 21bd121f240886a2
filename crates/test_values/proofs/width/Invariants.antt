use Rattle.std.proofs.Common.{◌≡◌, ◌+◌, drop}
use Rattle.test_values.specs.Rows.{widths}
use Rattle.test_values.proofs.width.Given as goal

abbrev pub invariant-loop-row : goal.invariant-loop-row
invariant-loop-row l = l.all + widths (drop l.row-index l.row-items) ≡ widths l.rows
