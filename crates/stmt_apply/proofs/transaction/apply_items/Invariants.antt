use Rattle.std.proofs.Common.{length}
use Rattle.log_groups.specs.Views.{parts}
use Rattle.row_apply.specs.Ends.{Stays}
use Rattle.stmt_apply.specs.Applying.{applier_in}
use Rattle.stmt_apply.proofs.Going.{Reached}
use Rattle.stmt_apply.proofs.transaction.apply_items.Given as goal

abbrev pub invariant-loop-part : goal.invariant-loop-part
invariant-loop-part l = record {
  reached : Reached (applier_in l.identity l.draw l.fn.work) (parts l.items) l.fn.work (parts l.walk) l.work l.under_way;
  stays : Stays l.fn.work l.work;
}

abbrev pub decreases-loop-part : goal.decreases-loop-part
decreases-loop-part l = length (parts l.walk)
