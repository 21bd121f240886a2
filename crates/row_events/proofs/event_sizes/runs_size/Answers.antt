use Rattle.std.proofs.Common.{arith}
use Rattle.row_events.proofs.Summing.{runs_more, runs_done}
use Rattle.row_events.proofs.event_sizes.runs_size.Goals as goal

pub loop-left-preserved : goal.loop-left-preserved
loop-left-preserved c = record {
  same =
      runs_more c.args.defs.now c.loop-left.left.now c.first-item.result c.run_of-run.result.more.now c.run_of-run.result.rest.now c.run_of-run.result.size c.run_size.result c.loop-left.size
      c.saturating_add-size.result _ c.in-len1-up.len_at_least c.first-item.is c.run_of-run.ensures c.run_size.ensures c.saturating_add-size.ensures c.loop-left.invariant.same;
  fits = omega (arith, c.saturating_add-size.ensures);
}

pub returns : goal.returns
returns c = λ names stamp. runs_done c.args.defs.now names c.loop-left.left.now c.args.changes.now stamp c.loop-left.size c.in_default.len_below c.loop-left.invariant.fits c.loop-left.invariant.same
