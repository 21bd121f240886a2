use Rattle.durable_replica.proofs.replica.DurableReplica.open.Goals as goal

pub found-requires : goal.found-requires
found-requires g c = record { durable = λ f kept. c.requires.settled f }
