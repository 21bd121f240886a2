use Rattle.durable_replica.proofs.Opened.{opened_again, opened_empty, opened_from, opened_held, opened_on}
use Rattle.durable_replica.proofs.replica.DurableReplica.found.Goals as goal

pub returns-clause-on : goal.returns-clause-on
returns-clause-on g c = record {
  on = opened_on _ _ c.in_ok-work.field-0 c.in_ok-work.ensures.ready _ _ _ c.number.ensures c.log.ensures c.pos.ensures _ c.found-node.ensures.replica;
  relay = opened_empty _ _ c.in_ok-work.field-0 c.in_ok-work.ensures.ready _ _ _ c.number.ensures c.log.ensures c.pos.ensures _ c.found-node.ensures.replica;
}

pub returns-clause-opens : goal.returns-clause-opens
returns-clause-opens g c held opens =
    opened_from _ _ c.in_ok-work.field-0 c.in_ok-work.ensures.ready _ _ _ c.number.ensures c.log.ensures c.pos.ensures _ c.found-node.ensures.replica held opens

pub returns-clause-reopened : goal.returns-clause-reopened
returns-clause-reopened g c =
    opened_again _ _ c.in_ok-work.field-0 c.in_ok-work.ensures.ready _ _ _ c.number.ensures c.log.ensures c.pos.ensures _ c.found-node.ensures.replica

pub returns-clause-held : goal.returns-clause-held
returns-clause-held g c =
    opened_held _ _ c.in_ok-work.field-0 c.in_ok-work.ensures.ready _ _ _ c.number.ensures c.log.ensures c.pos.ensures _ c.found-node.ensures.replica

pub returns-clause-active : goal.returns-clause-active
returns-clause-active g c = c.in_ok-work.ensures.ready.active
