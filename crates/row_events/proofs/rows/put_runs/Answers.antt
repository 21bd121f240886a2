use Rattle.row_events.proofs.Cutting.{run_can, run_goes, left_carried}
use Rattle.row_events.proofs.rows.put_runs.Goals as goal

pub put_run-requires-clause-event : goal.put_run-requires-clause-event
put_run-requires-clause-event c =
    run_can c.args.defs.now c.args.names.now c.args.changes.now c.loop-left.left.now c.first-item.result c.run_of-run.result.more.now c.run_of-run.result.rest.now c.run_of-run.result.size
    c.args.h c.loop-left.here c.args.out.now c.loop-left.out c.in-len1-up.len_at_least c.first-item.is c.run_of-run.ensures c.loop-left.invariant.goes

pub loop-left-preserved : goal.loop-left-preserved
loop-left-preserved c = record {
  rows =
      (left_carried c.args.defs.now c.loop-left.left.now c.first-item.result c.run_of-run.result.more.now c.run_of-run.result.rest.now c.run_of-run.result.size
      c.in-len1-up.len_at_least c.first-item.is c.run_of-run.ensures c.loop-left.invariant.rows).1;
  goes =
      run_goes c.args.defs.now c.args.names.now c.args.changes.now c.loop-left.left.now c.first-item.result c.run_of-run.result.more.now c.run_of-run.result.rest.now c.run_of-run.result.size
      c.args.h c.loop-left.here c.in_ok-here.here c.args.out.now c.loop-left.out c.put_run.new.out c.in-len1-up.len_at_least c.first-item.is c.run_of-run.ensures c.loop-left.invariant.goes c.in_ok-here.ensures.ok;
}
