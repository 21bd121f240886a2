use Rattle.std.proofs.Common.{refl, ap}
use Rattle.commit_store.specs.declared.store.Store.{Store}
use Rattle.durable_source.proofs.Snapshotting.{can_checkpoint, some_still, stands_still, still_runs}
use Rattle.durable_source.proofs.source.DurableSource.checkpoint.Goals as goal

pub checkpoint_source-requires : goal.checkpoint_source-requires
checkpoint_source-requires g c = (c.requires.1.1.0.now, c.requires.1.1.0.on)

pub returns-clause-stands : goal.returns-clause-stands
returns-clause-stands g c from m stands holds =
    stands_still _ c.args.self.now from m stands holds c.checkpoint_source.result _ (record c.args.self.now { store = c.checkpoint_source.new.store }) refl
    (c.checkpoint_source.ensures.on stands.now
    (can_checkpoint _ c.args.self.now from m stands holds c.tables-tables.result.now c.objects-objects.result.now c.tables-tables.ensures.committed c.tables-tables.ensures.theirs
    c.tables-tables.ensures.whole c.objects-objects.ensures))

pub returns-clause-runs : goal.returns-clause-runs
returns-clause-runs g c from m stands marks holds =
    still_runs _ c.args.self.now from m stands holds _ marks
    (c.checkpoint_source.ensures.stays stands.now
    (can_checkpoint _ c.args.self.now from m stands holds c.tables-tables.result.now c.objects-objects.result.now c.tables-tables.ensures.committed c.tables-tables.ensures.theirs
    c.tables-tables.ensures.whole c.objects-objects.ensures))

pub returns-clause-goes : goal.returns-clause-goes
returns-clause-goes g c =
    let from = c.requires.0 in
    let m = c.requires.1.0 in
    let stands = c.requires.1.1.0 in
    let holds = c.requires.1.1.1 in
    (c.checkpoint_source.ensures.stays stands.now
    (can_checkpoint _ c.args.self.now from m stands holds c.tables-tables.result.now c.objects-objects.result.now c.tables-tables.ensures.committed c.tables-tables.ensures.theirs
    c.tables-tables.ensures.whole c.objects-objects.ensures)).on

pub returns-clause-some : goal.returns-clause-some
returns-clause-some g c =
    let from = c.requires.0 in
    let m = c.requires.1.0 in
    let stands = c.requires.1.1.0 in
    let holds = c.requires.1.1.1 in
    some_still c.checkpoint_source.result _ (record c.args.self.now { store = c.checkpoint_source.new.store }) from m holds
    (stands_still _ c.args.self.now from m stands holds c.checkpoint_source.result _ (record c.args.self.now { store = c.checkpoint_source.new.store }) refl
    (c.checkpoint_source.ensures.on stands.now
    (can_checkpoint _ c.args.self.now from m stands holds c.tables-tables.result.now c.objects-objects.result.now c.tables-tables.ensures.committed c.tables-tables.ensures.theirs
    c.tables-tables.ensures.whole c.objects-objects.ensures)))

pub returns-clause-last : goal.returns-clause-last
returns-clause-last g c last =
    let same = c.checkpoint_source.ensures.last last in
    (same.0, same.1, ap (λ (store : Store). record c.args.self.now { store = store }) same.2)
