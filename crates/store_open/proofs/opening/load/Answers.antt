use Rattle.std.proofs.Common.{subst, sym, ◌∙◌}
use Rattle.std.proofs.lemmas.Result.{err_from_is_err_and}
use Rattle.disk_model.proofs.Quiet.{quiet_trans}
use Rattle.gate_journal.specs.declared.journal.Journal.{Journal}
use Rattle.gate_journal.specs.Journal.{IsFound}
use Rattle.store_open.proofs.Beginning.{begins_still, damage_back, held_back, told_on}
use Rattle.store_open.proofs.Standing.{active, counters_started, file_durable, held_told, holds, node_is, none_open, settled}
use Rattle.store_open.proofs.opening.load.Goals as goal

pub load_from-requires-clause-begins : goal.load_from-requires-clause-begins
load_from-requires-clause-begins g c = begins_still _ _ c.in_ok-begun.begun c.begin.ensures.quiet c.in_ok-begun.ensures.begins

pub returns-in_err-begun-clause-damaged : goal.returns-in_err-begun-clause-damaged
returns-in_err-begun-clause-damaged g c =
    let p = err_from_is_err_and c.from_residual.result c.from_residual.ensures.1 in
    rw (p.1, p.2) (told_on (g.D.Disk.told c.args.d.now) c.args.node c.in_err-begun.field-0.0 c.in_err-begun.ensures.damaged)

pub returns-in_err-stored-clause-damaged : goal.returns-in_err-stored-clause-damaged
returns-in_err-stored-clause-damaged g c =
    let p = err_from_is_err_and c.from_residual-in_err-stored.result c.from_residual-in_err-stored.ensures.1 in
    rw (p.1, p.2) (damage_back (g.D.Disk.told c.args.d.now) (g.D.Disk.told c.begin.new.d) c.args.node c.in_ok-begun.begun.node c.in_err-stored.field-0.0 c.begin.ensures.quiet c.in_ok-begun.ensures.begun.node c.in_err-stored.ensures.damaged)

pub returns-in_err-stored-clause-quiet : goal.returns-in_err-stored-clause-quiet
returns-in_err-stored-clause-quiet g c = quiet_trans _ _ _ c.begin.ensures.quiet c.load_from.ensures.quiet

pub returns-in_err-started-clause-quiet : goal.returns-in_err-started-clause-quiet
returns-in_err-started-clause-quiet g c = quiet_trans _ _ _ c.begin.ensures.quiet c.load_from.ensures.quiet

pub returns-clause-held : goal.returns-clause-held
returns-clause-held g c =
    held_told _ _ c.in_ok-stored.stored c.in_ok-started.field-0 c.in_ok-started.ensures (held_back _ _ _ _ _ c.begin.ensures.quiet c.in_ok-begun.ensures.begun.node c.in_ok-stored.ensures.held)

pub returns-clause-active : goal.returns-clause-active
returns-clause-active g c =
    active _ c.args.node c.in_ok-begun.begun c.in_ok-stored.stored c.in_ok-started.field-0 c.in_ok-begun.ensures.begun.node c.in_ok-begun.ensures.begins
    c.in_ok-stored.ensures.goes.generation c.in_ok-started.ensures

pub returns-clause-counters : goal.returns-clause-counters
returns-clause-counters g c = counters_started c.in_ok-stored.stored c.in_ok-started.field-0 c.in_ok-started.ensures

pub returns-clause-none : goal.returns-clause-none
returns-clause-none g c = none_open c.in_ok-stored.stored c.in_ok-started.field-0 c.in_ok-started.ensures c.in_ok-stored.ensures.goes.changes

pub returns-clause-node : goal.returns-clause-node
returns-clause-node g c = c.in_ok-started.ensures.node ∙ c.in_ok-stored.ensures.goes.node ∙ c.in_ok-begun.ensures.begun.node

pub returns-clause-found : goal.returns-clause-found
returns-clause-found g c = subst (λ (j : Journal). IsFound (g.D.Disk.told c.load_from.new.d) j) (sym c.in_ok-started.ensures.journal) c.in_ok-stored.ensures.journal

pub returns-clause-durable : goal.returns-clause-durable
returns-clause-durable g c =
    file_durable (g.D.Disk.told c.args.d.now) (g.D.Disk.told c.load_from.new.d) c.args.node c.in_ok-begun.begun c.in_ok-stored.stored c.in_ok-started.field-0 (quiet_trans _ _ _ c.begin.ensures.quiet c.load_from.ensures.quiet) c.in_ok-begun.ensures.begun c.in_ok-begun.ensures.begins c.in_ok-stored.ensures.goes c.in_ok-stored.ensures.file
    c.in_ok-started.ensures (held_back _ _ _ _ _ c.begin.ensures.quiet c.in_ok-begun.ensures.begun.node c.in_ok-stored.ensures.held) c.in_ok-stored.ensures.durable

pub returns-clause-settled : goal.returns-clause-settled
returns-clause-settled g c =
    settled (g.D.Disk.told c.args.d.now) (g.D.Disk.told c.load_from.new.d) c.args.node c.in_ok-begun.begun c.in_ok-stored.stored c.in_ok-started.field-0 (quiet_trans _ _ _ c.begin.ensures.quiet c.load_from.ensures.quiet) c.in_ok-begun.ensures.begun c.in_ok-begun.ensures.begins c.in_ok-stored.ensures.goes c.in_ok-stored.ensures.file
    c.in_ok-started.ensures (held_back _ _ _ _ _ c.begin.ensures.quiet c.in_ok-begun.ensures.begun.node c.in_ok-stored.ensures.held) _ c.load_from.ensures.quiet c.in_ok-begun.ensures.durable
    c.in_ok-stored.ensures.durable c.in_ok-stored.ensures.settled

pub returns-clause-holds : goal.returns-clause-holds
returns-clause-holds g c =
    holds (g.D.Disk.told c.args.d.now) (g.D.Disk.told c.load_from.new.d) c.args.node c.in_ok-begun.begun c.in_ok-stored.stored c.in_ok-started.field-0 (quiet_trans _ _ _ c.begin.ensures.quiet c.load_from.ensures.quiet) c.in_ok-begun.ensures.begun c.in_ok-begun.ensures.begins c.in_ok-stored.ensures.goes c.in_ok-stored.ensures.file
    c.in_ok-started.ensures (held_back _ _ _ _ _ c.begin.ensures.quiet c.in_ok-begun.ensures.begun.node c.in_ok-stored.ensures.held)

pub returns-clause-quiet : goal.returns-clause-quiet
returns-clause-quiet g c = quiet_trans _ _ _ c.begin.ensures.quiet c.load_from.ensures.quiet
