use Rattle.std.proofs.Common.{refl, subst}
use Rattle.replica_node.specs.Kept.{Kept}
use Rattle.replica_node.specs.Records.{MovesOn}
use Rattle.replica_node.specs.Steps.{passed_to}
use Rattle.replica_node.specs.declared.told.Step.TheVariants.{Moved}
use Rattle.replica_node.proofs.Stepping.{moves_on}
use Rattle.replica_node.proofs.replica.ReplicaNode.move_on.Goals as goal

pub returns-clause-moves : goal.returns-clause-moves
returns-clause-moves c =
    let k : Kept = record { identity = c.self.inside.identity; work = c.self.inside.work; number = c.self.inside.number; relay = c.self.inside.relay } in
    let next : Kept = record k { relay = passed_to c.args.behind.now k.relay } in
    let there : MovesOn (Moved c.in_ok-kept.kept) k next c.args.behind.now =
    (refl, moves_on c.steps_lead.ensures c.in_ok-kept.kept c.head_at.result k c.args.behind.now c.in_ok-kept.ensures c.head_at.ensures) in
    rw c.pass.ensures (subst (λ (old : Kept). MovesOn (Moved c.in_ok-kept.kept) old next c.args.behind.now) c.self.view_is there)
