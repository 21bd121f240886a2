use Rattle.durable_replica.proofs.Keeping.{ok_map}
use Rattle.durable_replica.proofs.replica.DurableReplica.apply.Goals as goal

pub returns-clause-replica : goal.returns-clause-replica
returns-clause-replica g c = ok_map c.carry_on.result c.carry_on.ensures.done (λ told done. done.replica)

pub returns-clause-told : goal.returns-clause-told
returns-clause-told g c = ok_map c.carry_on.result c.carry_on.ensures.done (λ told done. done.told)

pub returns-clause-on : goal.returns-clause-on
returns-clause-on g c = ok_map c.carry_on.result c.carry_on.ensures.done (λ told done. record { on = done.kept.on; relay = done.kept.relay })

pub returns-clause-carries : goal.returns-clause-carries
returns-clause-carries g c fits = c.carry_on.ensures.run.carries fits

pub returns-clause-reaches : goal.returns-clause-reaches
returns-clause-reaches g c fits = ok_map c.carry_on.result c.carry_on.ensures.done (λ told done. done.kept.reaches fits)

pub returns-clause-pushed : goal.returns-clause-pushed
returns-clause-pushed g c = c.carry_on.ensures.run.pushed

pub returns-clause-number : goal.returns-clause-number
returns-clause-number g c = ok_map c.carry_on.result c.carry_on.ensures.done (λ told done. done.kept.on.keeps.holds.shows.number)

pub returns-clause-marks : goal.returns-clause-marks
returns-clause-marks g c = ok_map c.carry_on.result c.carry_on.ensures.done (λ told done. done.kept.marks)

pub returns-clause-rest : goal.returns-clause-rest
returns-clause-rest g c = c.carry_on.ensures.run.rest

pub returns-clause-goes : goal.returns-clause-goes
returns-clause-goes g c = c.carry_on.ensures.run.goes

pub returns-clause-generation : goal.returns-clause-generation
returns-clause-generation g c = ok_map c.carry_on.result c.carry_on.ensures.done (λ told done. c.carry_on.ensures.generation)
