use Rattle.std.proofs.Common.{ℕ, subst, sym}
use Rattle.store_model.specs.declared.record.Kind.TheVariants.{Source}
use Rattle.store_open.specs.Opened.{IsActive}
use Rattle.session_model.specs.Openings.{opening_entries}
use Rattle.store_model.specs.Entries.{writer_at}
use Rattle.durable_source.proofs.Opened.{begun_runs, held_there, none_yet, numbered, stands_some, stands_told}
use Rattle.durable_source.proofs.source.DurableSource.open.Goals as goal

pub returns-in_err-work-clause-runs : goal.returns-in_err-work-clause-runs
returns-in_err-work-clause-runs g c from marks opens =
    none_yet _ _ from (opening_entries c.args.identity c.args.draw.now (writer_at from.held)) marks (c.open_store.ensures.runs from marks opens)

pub returns-in_err-begin_log-clause-runs : goal.returns-in_err-begin_log-clause-runs
returns-in_err-begin_log-clause-runs g c from marks opens =
    begun_runs _ _ _ c.in_ok-work.field-0 c.in_ok-work.ensures.ready c.args.identity c.args.draw.now c.begin_log.ensures.run from marks opens (c.open_store.ensures.runs from marks opens)

pub writer_of-at-requires : goal.writer_of-at-requires
writer_of-at-requires g c =
    numbered _ _ _ c.in_ok-work.field-0 c.in_ok-work.ensures.ready c.args.identity c.args.draw.now c.begin_log.new.store c.in_ok-begin_log.ensures.on

pub returns-in_err-node-clause-runs : goal.returns-in_err-node-clause-runs
returns-in_err-node-clause-runs g c from marks opens =
    begun_runs _ _ _ c.in_ok-work.field-0 c.in_ok-work.ensures.ready c.args.identity c.args.draw.now c.begin_log.ensures.run from marks opens (c.open_store.ensures.runs from marks opens)

pub returns-clause-stands : goal.returns-clause-stands
returns-clause-stands g c from opens =
    stands_told _ _ _ c.in_ok-work.field-0 c.in_ok-work.ensures.ready c.args.identity c.args.draw.now
    (record { alloc = c.args.alloc; node = c.in_ok-node.node; store = c.begin_log.new.store }) c.writer_of-at.result c.in_ok-begin_log.ensures.on c.writer_of-at.ensures
    c.in_ok-node.ensures.state c.in_ok-node.ensures.waiting from opens

pub returns-clause-some : goal.returns-clause-some
returns-clause-some g c =
    stands_some _ _ _ c.in_ok-work.field-0 c.in_ok-work.ensures.ready c.args.identity c.args.draw.now
    (record { alloc = c.args.alloc; node = c.in_ok-node.node; store = c.begin_log.new.store }) c.writer_of-at.result c.in_ok-begin_log.ensures.on c.writer_of-at.ensures
    c.in_ok-node.ensures.state c.in_ok-node.ensures.waiting

pub returns-clause-held : goal.returns-clause-held
returns-clause-held g c = held_there _ _ c.in_ok-work.field-0 c.in_ok-work.ensures.ready

pub returns-clause-runs : goal.returns-clause-runs
returns-clause-runs g c from marks opens =
    begun_runs _ _ _ c.in_ok-work.field-0 c.in_ok-work.ensures.ready c.args.identity c.args.draw.now c.begin_log.ensures.run from marks opens (c.open_store.ensures.runs from marks opens)

pub returns-clause-active : goal.returns-clause-active
returns-clause-active g c = subst (λ (n : ℕ). IsActive (g.D.Disk.told c.args.d.now) Source n) (sym c.begin_log.ensures.generation) c.in_ok-work.ensures.active
