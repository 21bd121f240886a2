use Rattle.std.proofs.Common.{◌≡◌, length, reverse}
use Rattle.event_codec.specs.Event.{map_of}
use Rattle.apply_model.specs.Groups.{carry_changes}
use Rattle.row_apply.specs.Ends.{Stays, progress_in}
use Rattle.stmt_apply.proofs.transaction.carry_changes.Given as goal

abbrev pub invariant-loop-change : goal.invariant-loop-change
invariant-loop-change l = record {
  same : carry_changes l.pos (map_of l.map) (reverse l.left) (progress_in l.work) ≡ carry_changes l.pos (map_of l.map) l.fn.changes (progress_in l.fn.work);
  stays : Stays l.fn.work l.work;
}

abbrev pub decreases-loop-change : goal.decreases-loop-change
decreases-loop-change l = length l.left
