use Rattle.binlog_items.proofs.Naming.{put_next}
use Rattle.binlog_items.proofs.tables.names_in.Goals as goal

pub loop-change-preserved : goal.loop-change-preserved
loop-change-preserved c name =
    put_next c.loop-change.names c.put.new.self c.args.changes.now c.loop-change.change-index c.change-item.result c.table.result.now name c.loop-change-test.true c.change-item.is c.table.ensures c.in_ok-put.ensures
    (c.loop-change.invariant name)
