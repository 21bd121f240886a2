use Rattle.std.proofs.Common.{Err, refl}
use Rattle.std.proofs.lemmas.Result.{err_from_is_err_and}
use Rattle.replica_node.specs.Kept.{held_of, replica_of}
use Rattle.durable_replica.specs.declared.replica.DurableReplica.{DurableReplica}
use Rattle.durable_replica.proofs.Fetching.{none_run}
use Rattle.durable_replica.proofs.Opened.{first_of}
use Rattle.durable_replica.proofs.Restarting.{is_durable, not_damaged, opens, same_generation}
use Rattle.durable_replica.proofs.replica.DurableReplica.restart.Goals as goal

pub found-requires : goal.found-requires
found-requires g c = record { durable = is_durable _ c.args.self.now c.requires }

pub returns-in_err-identity-clause-runs : goal.returns-in_err-identity-clause-runs
returns-in_err-identity-clause-runs g c marks = none_run _ c.args.self.now c.requires marks

pub returns-in_err-self-clause-runs : goal.returns-in_err-self-clause-runs
returns-in_err-self-clause-runs g c marks = c.found.ensures.runs _ marks (opens _ c.args.self.now c.requires)

pub returns-in_err-self-clause-whole : goal.returns-in_err-self-clause-whole
returns-in_err-self-clause-whole g c file at =
    let p = err_from_is_err_and c.from_residual-in_err-self.result c.from_residual-in_err-self.ensures.1 in
    rw (p.1, p.2) (not_damaged DurableReplica _ _ (held_of (replica_of c.args.self.now.node)) (Err c.in_err-self.field-0.0) c.in_err-self.field-0.0 file at refl (opens _ c.args.self.now c.requires) c.in_err-self.ensures.damaged)

pub returns-clause-replica : goal.returns-clause-replica
returns-clause-replica g c = first_of _ _ _ (c.in_ok-self.ensures.opens _ (opens _ c.args.self.now c.requires))

pub returns-clause-runs : goal.returns-clause-runs
returns-clause-runs g c marks = c.found.ensures.runs _ marks (opens _ c.args.self.now c.requires)

pub returns-clause-generation : goal.returns-clause-generation
returns-clause-generation g c = same_generation _ c.args.self.now c.requires _ c.in_ok-self.ensures.active
