use Rattle.std.proofs.Common.{arith}
use Rattle.item_events.proofs.Texting.{no_var}
use Rattle.item_events.proofs.Measuring.{vars_more}
use Rattle.item_events.proofs.sizes.vars_size.Goals as goal
use Rattle.item_events.proofs.sizes.vars_size.Goals.{in-Some, in-None}

pub loop-place-preserved : goal.loop-place-preserved
loop-place-preserved c =
    elim c.match-at.branch [
      | in-Some w ↦
          rw w.size-is (record {
            same =
                vars_more c.args.vars.now c.loop-place.place (w.in-Some.name.now, w.in-Some.value.now) c.loop-place.size w.var_size.result w.saturating_add-size.result _ w.in-Some.ensures
                w.var_size.ensures w.saturating_add-size.ensures c.loop-place.invariant.same;
            fits = omega (arith, w.saturating_add-size.ensures);
          })
      | in-None w ↦ absurd (no_var c.args.vars.now c.loop-place.place w.in-None.ensures (omega (arith, c.len-place-end.ensures)))
    ]
