use Rattle.std.proofs.Common.{ℕ, subst}
use Rattle.std.proofs.lemmas.Result.{err_from_is_err_and}
use Rattle.disk_model.specs.Story.{seen}
use Rattle.disk_model.specs.Moments.{Only}
use Rattle.disk_model.proofs.Quiet.{quiet_trans}
use Rattle.store_load.proofs.Telling.{found_still, gate_damage, logs_damage, only_still, store_read}
use Rattle.store_load.proofs.loading.load_from.Goals as goal

pub returns-in_err-stored-clause-quiet : goal.returns-in_err-stored-clause-quiet
returns-in_err-stored-clause-quiet g c = quiet_trans _ _ _ c.settle.ensures.quiet c.load_journal.ensures.quiet

pub returns-in_err-stored-clause-damaged : goal.returns-in_err-stored-clause-damaged
returns-in_err-stored-clause-damaged g c =
    let p = err_from_is_err_and c.from_residual-in_err-stored.result c.from_residual-in_err-stored.ensures.1 in
    rw (p.1, p.2) (gate_damage _ _ _ c.args.begun c.journal_file-file.ensures c.settle.ensures.quiet c.requires.begins c.in_err-stored.field-0.0 c.in_err-stored.ensures.damaged)

pub returns-in_err-look_at_logs-clause-quiet : goal.returns-in_err-look_at_logs-clause-quiet
returns-in_err-look_at_logs-clause-quiet g c = quiet_trans _ _ _ (quiet_trans _ _ _ c.settle.ensures.quiet c.load_journal.ensures.quiet) c.look_at_logs.ensures.quiet

pub returns-in_err-look_at_logs-clause-damaged : goal.returns-in_err-look_at_logs-clause-damaged
returns-in_err-look_at_logs-clause-damaged g c =
    let p = err_from_is_err_and c.from_residual-in_err-look_at_logs.result c.from_residual-in_err-look_at_logs.ensures.1 in
    rw (p.1, p.2) (logs_damage _ _ _ c.args.begun c.journal_file-file.ensures c.settle.ensures.quiet c.requires.begins _ c.in_ok-stored.stored c.load_journal.ensures.quiet c.in_ok-stored.ensures.held c.in_err-look_at_logs.field-0.0 c.in_err-look_at_logs.ensures.short)

pub returns-clause-held : goal.returns-clause-held
returns-clause-held g c =
    store_read _ _ _ c.args.begun c.journal_file-file.ensures c.settle.ensures.quiet c.requires.begins _ c.in_ok-stored.stored c.load_journal.ensures.quiet c.in_ok-stored.ensures.held c.in_ok-look_at_logs.ensures.long

pub returns-clause-journal : goal.returns-clause-journal
returns-clause-journal g c = found_still _ _ _ c.look_at_logs.ensures.quiet c.in_ok-stored.ensures.journal

pub returns-clause-quiet : goal.returns-clause-quiet
returns-clause-quiet g c = quiet_trans _ _ _ (quiet_trans _ _ _ c.settle.ensures.quiet c.load_journal.ensures.quiet) c.look_at_logs.ensures.quiet

pub returns-clause-durable : goal.returns-clause-durable
returns-clause-durable g c =
    subst (λ (f : ℕ). Only (g.D.Disk.told c.look_at_logs.new.d) f (seen (g.D.Disk.told c.look_at_logs.new.d) f)) c.journal_file-file.ensures
    (only_still _ _ _ (quiet_trans _ _ _ c.load_journal.ensures.quiet c.look_at_logs.ensures.quiet) c.in_ok-settle.ensures.durable)
