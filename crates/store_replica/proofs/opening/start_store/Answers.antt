use Rattle.std.proofs.Common.{ℕ, ap, subst, sym}
use Rattle.disk_model.proofs.Moments.{on_trans}
use Rattle.commit_store.specs.declared.store.Store.{Store}
use Rattle.store_model.specs.declared.record.Kind.TheVariants.{Replica}
use Rattle.store_open.specs.Opened.{IsActive}
use Rattle.store_replica.proofs.Standings.{stays_runs}
use Rattle.store_replica.proofs.Starting.{looked, started_on, started_stays, started_told}
use Rattle.store_replica.proofs.opening.start_store.Goals as goal

pub returns-in_err-work-clause-runs : goal.returns-in_err-work-clause-runs
returns-in_err-work-clause-runs g c held marks opens = stays_runs _ _ held marks (looked _ _ held c.requires.durable opens c.load.ensures.quiet)

pub returns-in_err-start-clause-runs : goal.returns-in_err-start-clause-runs
returns-in_err-start-clause-runs g c held marks opens =
    stays_runs _ _ held marks
    (started_stays _ _ c.in_ok-work.field-0.work c.in_ok-work.field-0.store c.requires.durable c.load.ensures.quiet c.in_ok-work.ensures.node c.in_ok-work.ensures.held
    (c.in_ok-work.ensures.holds c.requires.durable) _ c.start.ensures.works c.start.ensures.images held opens)

pub returns-clause-runs : goal.returns-clause-runs
returns-clause-runs g c held marks opens =
    stays_runs _ _ held marks
    (started_stays _ _ c.in_ok-work.field-0.work c.in_ok-work.field-0.store c.requires.durable c.load.ensures.quiet c.in_ok-work.ensures.node c.in_ok-work.ensures.held
    (c.in_ok-work.ensures.holds c.requires.durable) _ c.start.ensures.works c.start.ensures.images held opens)

pub returns-clause-on : goal.returns-clause-on
returns-clause-on g c =
    started_on _ _ c.in_ok-work.field-0.work c.in_ok-work.field-0.store c.requires.durable c.load.ensures.quiet c.in_ok-work.ensures.node c.in_ok-work.ensures.held
    (c.in_ok-work.ensures.holds c.requires.durable) _ c.start.ensures.works c.start.ensures.images c.start.new.self c.start.ensures.rest c.in_ok-start.ensures.keeps c.number_fits.ensures

pub returns-clause-told : goal.returns-clause-told
returns-clause-told g c =
    started_told _ _ c.in_ok-work.field-0.work c.in_ok-work.field-0.store c.requires.durable c.load.ensures.quiet c.in_ok-work.ensures.node c.in_ok-work.ensures.held
    (c.in_ok-work.ensures.holds c.requires.durable) _ c.start.ensures.works c.start.ensures.images c.start.new.self c.start.ensures.rest

pub returns-in_err-work-clause-goes : goal.returns-in_err-work-clause-goes
returns-in_err-work-clause-goes g c = c.load.ensures.quiet.on

pub returns-in_err-start-clause-goes : goal.returns-in_err-start-clause-goes
returns-in_err-start-clause-goes g c = on_trans _ _ _ c.load.ensures.quiet.on c.start.ensures.works.on

pub returns-clause-goes : goal.returns-clause-goes
returns-clause-goes g c = on_trans _ _ _ c.load.ensures.quiet.on c.start.ensures.works.on

pub returns-clause-active : goal.returns-clause-active
returns-clause-active g c =
    subst (λ (n : ℕ). IsActive (g.D.Disk.told c.args.d.now) Replica n) (sym (ap (λ (st : Store). st.generation) c.start.ensures.rest)) c.in_ok-work.ensures.active
