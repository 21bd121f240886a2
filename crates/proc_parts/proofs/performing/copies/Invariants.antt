use Rattle.std.proofs.Common.{◌≡◌, take}
use Rattle.proc_parts.proofs.performing.copies.Given as goal

abbrev pub invariant-loop-row : goal.invariant-loop-row
invariant-loop-row l = l.list ≡ take l.row-index l.rows
