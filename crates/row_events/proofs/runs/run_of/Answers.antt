use Rattle.row_events.proofs.Cutting.{run_of_is}
use Rattle.row_events.proofs.runs.run_of.Goals as goal

pub slice_bounds-result-count : goal.slice_bounds-result-count
slice_bounds-result-count c =
    (run_of_is c.args.defs.now c.args.first.now c.args.all.now c.run_from-size.result.1.now c.slice_of-columns.result.now c.table.result.now c.change_size.result c.run_from-size.result.0
    c.table.ensures c.slice_of-columns.ensures c.change_size.ensures c.run_from-size.ensures).1

pub returns : goal.returns
returns c =
    (run_of_is c.args.defs.now c.args.first.now c.args.all.now c.run_from-size.result.1.now c.slice_of-columns.result.now c.table.result.now c.change_size.result c.run_from-size.result.0
    c.table.ensures c.slice_of-columns.ensures c.change_size.ensures c.run_from-size.ensures).0
