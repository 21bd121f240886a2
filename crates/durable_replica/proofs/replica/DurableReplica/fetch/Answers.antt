use Rattle.std.proofs.Common.{arith}
use Rattle.durable_replica.proofs.Fetching.{fetched_end, fetched_on, none_run, relay_end}
use Rattle.durable_replica.proofs.replica.DurableReplica.fetch.Goals as goal

pub returns-in_default-clause-runs : goal.returns-in_default-clause-runs
returns-in_default-clause-runs g c marks = none_run _ c.args.self.now c.requires.on marks

pub put_in_relay-requires : goal.put_in_relay-requires
put_in_relay-requires g c = relay_end _ c.args.self.now c.requires.on

pub returns-in_err-put_in_relay-clause-runs : goal.returns-in_err-put_in_relay-clause-runs
returns-in_err-put_in_relay-clause-runs g c marks = c.put_in_relay.ensures.runs _ marks c.requires.on.on

pub returns-clause-runs : goal.returns-clause-runs
returns-clause-runs g c marks = c.put_in_relay.ensures.runs _ marks c.requires.on.on

pub returns-clause-on : goal.returns-clause-on
returns-clause-on g c = record {
  on = fetched_on _ c.args.self.now c.requires.on _ _ c.args.piece.now c.in-Ok.ensures.ok c.put_in_relay.ensures.stays;
  relay = fetched_end _ c.args.self.now c.requires.on _ _ c.args.piece.now c.as_slice.ensures _ (omega (arith, c.len.ensures)) c.put_in_relay.ensures.goes c.in_ok-put_in_relay.ensures.reads;
}
