use Rattle.disk_model.proofs.Moments.{on_trans}
use Rattle.store_open.specs.Opened.{held_with}
use Rattle.store_replica.proofs.Starting.{emptied, held_is, opened_runs}
use Rattle.store_replica.proofs.opening.open_store.Goals as goal

pub returns-in_err-empty_relay-clause-runs : goal.returns-in_err-empty_relay-clause-runs
returns-in_err-empty_relay-clause-runs g c held marks opens =
    opened_runs _ _ _ c.in_ok-opened.opened.store (held_with c.in_ok-opened.opened.work c.in_ok-opened.opened.store) held marks (c.start_store.ensures.runs held marks opens) c.empty_relay.ensures.goes
    c.in_ok-opened.ensures.told opens c.in_ok-opened.ensures.on c.empty_relay.ensures.runs

pub returns-in_err-empty_relay-clause-goes : goal.returns-in_err-empty_relay-clause-goes
returns-in_err-empty_relay-clause-goes g c = on_trans _ _ _ c.start_store.ensures.goes c.empty_relay.ensures.goes

pub returns-clause-runs : goal.returns-clause-runs
returns-clause-runs g c held marks opens =
    opened_runs _ _ _ c.in_ok-opened.opened.store (held_with c.in_ok-opened.opened.work c.in_ok-opened.opened.store) held marks (c.start_store.ensures.runs held marks opens) c.empty_relay.ensures.goes
    c.in_ok-opened.ensures.told opens c.in_ok-opened.ensures.on c.empty_relay.ensures.runs

pub returns-clause-goes : goal.returns-clause-goes
returns-clause-goes g c = on_trans _ _ _ c.start_store.ensures.goes c.empty_relay.ensures.goes

pub returns-clause-ready : goal.returns-clause-ready
returns-clause-ready g c = record {
  on = c.empty_relay.ensures.stays (held_with c.in_ok-opened.opened.work c.in_ok-opened.opened.store) c.in_ok-opened.ensures.on;
  counters = c.in_ok-opened.ensures.counters;
  none = c.in_ok-opened.ensures.none;
  told = c.in_ok-opened.ensures.told;
  active = c.in_ok-opened.ensures.active;
  is = λ held opens. held_is _ (held_with c.in_ok-opened.opened.work c.in_ok-opened.opened.store) held c.in_ok-opened.ensures.told opens;
  relay = emptied _ _ c.empty_relay.ensures.goes c.in_ok-empty_relay.ensures.reads;
}
