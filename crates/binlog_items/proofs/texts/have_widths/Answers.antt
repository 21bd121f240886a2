use Rattle.binlog_items.proofs.Forms.{none_behind, values_on}
use Rattle.binlog_items.proofs.texts.have_widths.Goals as goal
use Rattle.binlog_items.proofs.texts.have_widths.Goals.{in-Some, in-None}

pub loop-place-preserved : goal.loop-place-preserved
loop-place-preserved c =
    elim c.match-at.branch [
      | in-Some w ↦ (λ more. c.loop-place.invariant (values_on c.args.vars.now c.loop-place.place _ w.in-Some.ensures w.has_width.ensures more))
      | in-None w ↦ (λ more. c.loop-place.invariant (none_behind c.args.vars.now c.loop-place.place w.in-None.ensures))
    ]
