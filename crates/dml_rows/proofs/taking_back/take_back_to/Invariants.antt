use Rattle.std.proofs.Common.{length}
use Rattle.dml_rows.proofs.Noting.{TakenSoFar}
use Rattle.dml_rows.proofs.taking_back.take_back_to.Given as goal

abbrev pub invariant-loop-undo : goal.invariant-loop-undo
invariant-loop-undo l = TakenSoFar l.mark l.fn.tables l.fn.undo l.tables l.undo

abbrev pub decreases-loop-undo : goal.decreases-loop-undo
decreases-loop-undo l = length l.undo
