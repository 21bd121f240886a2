use Rattle.std.proofs.lemmas.Result.{err_from_is_err_and}
use Rattle.disk_model.proofs.Quiet.{quiet_trans}
use Rattle.store_open.proofs.Beginning.{begun_greater, both_durable, first_damage, zeroth_damage}
use Rattle.store_open.proofs.snapshots.begin.Goals as goal

pub returns-in_err-zeroth-clause-damaged : goal.returns-in_err-zeroth-clause-damaged
returns-in_err-zeroth-clause-damaged g c =
    let p = err_from_is_err_and c.from_residual.result c.from_residual.ensures.1 in
    rw (p.1, p.2) (zeroth_damage c.args.kind (g.D.Disk.told c.args.d.now) c.in_err-zeroth.field-0.0 c.in_err-zeroth.ensures.damaged)

pub returns-in_err-first-clause-damaged : goal.returns-in_err-first-clause-damaged
returns-in_err-first-clause-damaged g c =
    let p = err_from_is_err_and c.from_residual-in_err-first.result c.from_residual-in_err-first.ensures.1 in
    rw (p.1, p.2) (first_damage c.args.kind (g.D.Disk.told c.args.d.now) (g.D.Disk.told c.snapshot.new.d) _ c.in_err-first.field-0.0 c.snapshot.ensures.quiet c.in_ok-zeroth.ensures.found c.in_err-first.ensures.damaged)

pub returns-in_err-first-clause-quiet : goal.returns-in_err-first-clause-quiet
returns-in_err-first-clause-quiet g c = quiet_trans _ _ _ c.snapshot.ensures.quiet c.snapshot-2.ensures.quiet

pub returns-clause-begins : goal.returns-clause-begins
returns-clause-begins g c =
    begun_greater c.args.kind _ _ _ _ c.greater_of.result c.snapshot.ensures.quiet c.in_ok-zeroth.ensures.found c.in_ok-first.ensures.found c.greater_of.ensures.held c.greater_of.ensures.begun.node

pub returns-clause-durable : goal.returns-clause-durable
returns-clause-durable g c = both_durable _ _ c.snapshot-2.ensures.quiet c.in_ok-zeroth.ensures.durable c.in_ok-first.ensures.durable

pub returns-clause-quiet : goal.returns-clause-quiet
returns-clause-quiet g c = quiet_trans _ _ _ c.snapshot.ensures.quiet c.snapshot-2.ensures.quiet
