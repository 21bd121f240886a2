use Rattle.std.proofs.Common.{◌-◌, arith, sym}
use Rattle.row_events.proofs.Naming.{has_not, has_that}
use Rattle.row_events.proofs.tables.have_table.Goals as goal

pub returns-then-eq : goal.returns-then-eq
returns-then-eq c =
    has_that c.args.changes.now (c.loop-left.left - 1) c.loop-left.left c.index-changes-left.result c.args.name.now _ (omega arith) (omega (arith, c.loop-left.invariant.within))
    (sym c.index-changes-left.is) (rw (← c.table.ensures, ← c.eq.ensures) c.if-eq.true) c.loop-left.invariant.same

pub loop-left-preserved : goal.loop-left-preserved
loop-left-preserved c = record {
  within = omega (arith, c.loop-left.invariant.within);
  same =
      has_not c.args.changes.now (c.loop-left.left - 1) c.loop-left.left c.index-changes-left.result c.args.name.now _ (omega arith) (omega (arith, c.loop-left.invariant.within))
      (sym c.index-changes-left.is) (rw (← c.table.ensures, ← c.eq.ensures) c.if-eq.false) c.loop-left.invariant.same;
}
