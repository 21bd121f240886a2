use Rattle.std.proofs.Common.{ap}
use Rattle.checkpoint.specs.commit_store.declared.store.Store.{Store}
use Rattle.test_checkpoints.proofs.Staying.{started_stays}
use Rattle.test_checkpoints.proofs.opening.started.Goals as goal

pub returns-clause-durable : goal.returns-clause-durable
returns-clause-durable g c =
    started_stays _ _ _ _ c.args.node (ap (λ (k : Store). k.node) c.start.ensures.rest) c.in_ok-opened.ensures.node (c.in_ok-start.ensures.keeps _ (c.in_ok-opened.ensures.holds c.requires))
