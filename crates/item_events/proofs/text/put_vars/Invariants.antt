use Rattle.std.proofs.Common.{drop}
use Rattle.row_events.specs.log_model.Items.{at_time}
use Rattle.row_events.specs.Writing.{GoesOn}
use Rattle.item_events.specs.Parts.{variables}
use Rattle.item_events.proofs.text.put_vars.Given as goal

abbrev pub invariant-loop-place : goal.invariant-loop-place
invariant-loop-place l = GoesOn (at_time l.fn.h.stamp (variables l.vars)) (at_time l.fn.h.stamp (variables (drop l.place l.vars))) l.fn.h l.here l.fn.out l.out
