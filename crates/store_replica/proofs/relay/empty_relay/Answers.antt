use Rattle.store_replica.proofs.Standings.{cut_whole, relay_on, relay_runs}
use Rattle.store_replica.proofs.relay.empty_relay.Goals as goal

pub cut_unsynced-requires : goal.cut_unsynced-requires
cut_unsynced-requires g c = cut_whole _ _

pub returns-clause-stays : goal.returns-clause-stays
returns-clause-stays g c held on = relay_on _ c.args.store.now held on _ c.cut_unsynced.ensures.works

pub returns-clause-runs : goal.returns-clause-runs
returns-clause-runs g c held marks on = relay_runs _ c.args.store.now held on _ c.cut_unsynced.ensures.works marks
