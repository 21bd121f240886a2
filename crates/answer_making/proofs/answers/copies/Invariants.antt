use Rattle.std.proofs.Common.{◌≡◌, ◌++◌, drop}
use Rattle.answer_making.proofs.answers.copies.Given as goal

abbrev pub invariant-loop-row : goal.invariant-loop-row
invariant-loop-row l = l.copies ++ drop l.row-index l.rows ≡ l.rows
