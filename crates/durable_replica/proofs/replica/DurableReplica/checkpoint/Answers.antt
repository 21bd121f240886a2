use Rattle.std.proofs.Common.{refl, ap}
use Rattle.commit_store.specs.declared.store.Store.{Store}
use Rattle.replica_node.specs.Kept.{held_of, replica_of}
use Rattle.durable_replica.proofs.Snapshotting.{can_checkpoint, on_still, still_runs}
use Rattle.durable_replica.proofs.replica.DurableReplica.checkpoint.Goals as goal

pub checkpoint_replica-requires : goal.checkpoint_replica-requires
checkpoint_replica-requires g c = (held_of (replica_of c.args.self.now.node), c.requires.on)

pub returns-clause-on : goal.returns-clause-on
returns-clause-on g c =
    let can = can_checkpoint _ c.args.self.now c.requires c.tables-tables.result.now c.objects-objects.result.now c.tables-tables.ensures.committed c.tables-tables.ensures.theirs
    c.tables-tables.ensures.whole c.objects-objects.ensures in
    let held = held_of (replica_of c.args.self.now.node) in
    on_still _ c.args.self.now c.requires c.checkpoint_replica.result _ (record c.args.self.now { store = c.checkpoint_replica.new.store }) refl refl
    (c.checkpoint_replica.ensures.goes held can) (c.checkpoint_replica.ensures.fetched held can) (c.checkpoint_replica.ensures.on held can)

pub returns-clause-runs : goal.returns-clause-runs
returns-clause-runs g c marks =
    let can = can_checkpoint _ c.args.self.now c.requires c.tables-tables.result.now c.objects-objects.result.now c.tables-tables.ensures.committed c.tables-tables.ensures.theirs
    c.tables-tables.ensures.whole c.objects-objects.ensures in
    let held = held_of (replica_of c.args.self.now.node) in
    still_runs _ c.args.self.now c.requires _ marks (c.checkpoint_replica.ensures.goes held can) (c.checkpoint_replica.ensures.images held can)

pub returns-clause-goes : goal.returns-clause-goes
returns-clause-goes g c =
    let can = can_checkpoint _ c.args.self.now c.requires c.tables-tables.result.now c.objects-objects.result.now c.tables-tables.ensures.committed c.tables-tables.ensures.theirs
    c.tables-tables.ensures.whole c.objects-objects.ensures in
    c.checkpoint_replica.ensures.goes (held_of (replica_of c.args.self.now.node)) can

pub returns-clause-last : goal.returns-clause-last
returns-clause-last g c last =
    let same = c.checkpoint_replica.ensures.last last in
    (same.0, same.1, ap (λ (store : Store). record c.args.self.now { store = store }) same.2)
