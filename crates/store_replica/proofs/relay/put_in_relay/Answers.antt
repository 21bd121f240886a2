use Rattle.store_replica.proofs.Standings.{relay_on, relay_runs}
use Rattle.store_replica.proofs.relay.put_in_relay.Goals as goal

pub returns-clause-stays : goal.returns-clause-stays
returns-clause-stays g c held on = relay_on _ c.args.store.now held on _ c.write_unsynced.ensures.works

pub returns-clause-runs : goal.returns-clause-runs
returns-clause-runs g c held marks on = relay_runs _ c.args.store.now held on _ c.write_unsynced.ensures.works marks
