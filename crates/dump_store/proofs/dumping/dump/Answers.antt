use Rattle.store_open.specs.Opened.{held_with}
use Rattle.dump_store.proofs.Ending.{write_ends}
use Rattle.dump_store.proofs.dumping.dump.Goals as goal

pub returns-in-Ok-write_base-clause-run : goal.returns-in-Ok-write_base-clause-run
returns-in-Ok-write_base-clause-run g c = record {
  held = held_with c.in-Ok.opened.work c.in-Ok.opened.store;
  held_is = c.in-Ok.ensures.held;
  wrote = c.in-Ok-write_base.ensures.ok;
}

pub returns-in-Ok-clause-run : goal.returns-in-Ok-clause-run
returns-in-Ok-clause-run g c =
    write_ends (g.D.Disk.told c.args.d.now) _ c.args.node _ (held_with c.in-Ok.opened.work c.in-Ok.opened.store) c.in-Ok.ensures.held c.in-Err.status _ _ c.in-Err.ensures.stop c.in-Err.ensures.err
