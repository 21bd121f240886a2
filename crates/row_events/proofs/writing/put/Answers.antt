use Rattle.row_events.proofs.GoingOn.{wrote_one}
use Rattle.std.proofs.Common.{arith}
use Rattle.row_events.proofs.writing.put.Goals as goal

pub overflow_add-result : goal.overflow_add-result
overflow_add-result c =
    let all = wrote_one c.args.event.now c.args.h c.args.out.now c.write_event.new.out c.len-start.result c.len.result c.requires c.in_ok-write_event.ensures.ok c.len-start.ensures c.len.ensures in
    omega (arith, all.1)

pub returns-clause-ok : goal.returns-clause-ok
returns-clause-ok c =
    (wrote_one c.args.event.now c.args.h c.args.out.now c.write_event.new.out c.len-start.result c.len.result c.requires c.in_ok-write_event.ensures.ok c.len-start.ensures c.len.ensures).0
