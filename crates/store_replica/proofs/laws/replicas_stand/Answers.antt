use Rattle.store_replica.proofs.Ends.{no_ends}
use Rattle.store_replica.proofs.Standings.{each_stands, opens_now}
use Rattle.store_replica.proofs.laws.replicas_stand.Goals as goal

pub returns-clause-each : goal.returns-clause-each
returns-clause-each c = each_stands

pub returns-clause-opens : goal.returns-clause-opens
returns-clause-opens c = opens_now

pub returns-clause-own : goal.returns-clause-own
returns-clause-own c = no_ends
