use Rattle.row_events.proofs.Summing.{run_sized}
use Rattle.std.proofs.Common.{arith}
use Rattle.row_events.proofs.event_sizes.run_size.Goals as goal

pub returns : goal.returns
returns c = λ names.
    run_sized c.args.defs.now names c.args.first.now c.args.run.now.more.now c.args.run.now.rest.now c.slice_of.result.now c.table.result.now c.encoded_size.result c.present_size.result
    c.args.run.now.size c.saturating_add.result c.table.ensures c.slice_of.ensures c.encoded_size.ensures.exact c.present_size.ensures.exact c.requires c.saturating_add.ensures
