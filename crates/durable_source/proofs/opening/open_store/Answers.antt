use Rattle.std.proofs.Common.{ℕ, ap, subst, sym}
use Rattle.commit_store.specs.declared.store.Store.{Store}
use Rattle.store_model.specs.declared.record.Kind.TheVariants.{Source}
use Rattle.store_open.specs.Opened.{IsActive}
use Rattle.durable_source.proofs.Starting.{looked, ready, started_runs, stays_runs}
use Rattle.durable_source.proofs.opening.open_store.Goals as goal

pub returns-in_err-work-clause-runs : goal.returns-in_err-work-clause-runs
returns-in_err-work-clause-runs g c from marks opens = stays_runs _ _ from marks (looked _ _ from c.requires.settled opens c.load.ensures.quiet)

pub returns-then-not-is_within-clause-runs : goal.returns-then-not-is_within-clause-runs
returns-then-not-is_within-clause-runs g c from marks opens = stays_runs _ _ from marks (looked _ _ from c.requires.settled opens c.load.ensures.quiet)

pub returns-in_err-start-clause-runs : goal.returns-in_err-start-clause-runs
returns-in_err-start-clause-runs g c from marks opens =
    started_runs _ _ c.in_ok-work.field-0.work c.in_ok-work.field-0.store c.requires.settled c.load.ensures.quiet c.in_ok-work.ensures.node c.in_ok-work.ensures.held
    (c.in_ok-work.ensures.holds (λ f kept. c.requires.settled f)) _ c.start.ensures.works c.start.ensures.images from marks opens

pub returns-clause-ready : goal.returns-clause-ready
returns-clause-ready g c =
    ready _ _ c.in_ok-work.field-0.work c.in_ok-work.field-0.store c.requires.settled c.load.ensures.quiet c.in_ok-work.ensures.node c.in_ok-work.ensures.held
    (c.in_ok-work.ensures.holds (λ f kept. c.requires.settled f)) _ c.start.ensures.works c.start.ensures.images c.start.new.self c.start.ensures.rest c.in_ok-start.ensures.keeps
    c.if-not-is_within.ensures.logs c.if-not-is_within.ensures.number c.in_ok-work.ensures.counters c.in_ok-work.ensures.none

pub returns-clause-runs : goal.returns-clause-runs
returns-clause-runs g c from marks opens =
    started_runs _ _ c.in_ok-work.field-0.work c.in_ok-work.field-0.store c.requires.settled c.load.ensures.quiet c.in_ok-work.ensures.node c.in_ok-work.ensures.held
    (c.in_ok-work.ensures.holds (λ f kept. c.requires.settled f)) _ c.start.ensures.works c.start.ensures.images from marks opens

pub returns-clause-active : goal.returns-clause-active
returns-clause-active g c =
    subst (λ (n : ℕ). IsActive (g.D.Disk.told c.args.d.now) Source n) (sym (ap (λ (st : Store). st.generation) c.start.ensures.rest)) c.in_ok-work.ensures.active
