-- What a replica makes of a log, from the first group or from its place on: group after group, up to the log's end or to where it stops.
use Rattle.std.specs.Prelude.{◌≡◌, ℕ, ◌+◌, List, [], ◌∷◌, Option, Some, None, Result, Ok, Err}
use Rattle.auto_inc.specs.declared.counters.Counter.{Counter}
use Rattle.port_traits.specs.declared.identity.Identity.{Identity}
use Rattle.port_traits.specs.declared.identity.Draw.{Draw}
use Rattle.log_file_model.specs.catalog_rules.Bases.{Base}
use Rattle.session_model.specs.log_model.Groups.{Form, start, next_log, ddl, txn, Group}
use Rattle.session_model.specs.log_model.Log.{LogPlace}
use Rattle.log_file_model.specs.Walk.{Piece, grouped, grouped_from}
use Rattle.apply_model.specs.Stops.{Differs}
use Rattle.apply_model.specs.Groups.{Applied, group_carried}
use Rattle.replica_model.specs.Applying.{one_more}
use Rattle.replica_model.specs.Replica.{Replica, first_replica, log_begin}

-- A replay on its way: base and counters, the replica's number and place behind what was carried out, how many groups that are, and the
-- item that has no effect, if it stopped at one.
pub record Replay : Type 0 where
  pub base : Base
  pub counters : List Counter
  pub number : ℕ
  pub place : LogPlace
  pub count : ℕ
  pub stop : Option Differs

-- where a replica begins one
abbrev pub replay_by : Replica → Replay
replay_by r = record { base = r.base; counters = r.counters; number = r.number; place = r.place; count = 0; stop = None }

abbrev pub first_replay : Replay
first_replay = replay_by first_replica

-- a group that was carried out, or is not
abbrev pub carried : Group → Replay → Result Applied Differs → Replay
carried g r (Ok applied) = record {
  base = applied.base;
  counters = applied.counters;
  number = one_more r.number;
  place = record { log = r.place.log; pos = g.end };
  count = r.count + 1;
  stop = None;
}
carried g r (Err differs) = record r { stop = Some differs }

-- the beginning of a log is passed over, and its end leads to the next one
abbrev pub by_form : Identity → Draw → Group → Replay → Form → Replay
by_form identity draw g r start = r
by_form identity draw g r (next_log next) = record r { place = log_begin next }
by_form identity draw g r (ddl s) = carried g r (group_carried identity draw r.base r.counters g)
by_form identity draw g r (txn opening items number) = carried g r (group_carried identity draw r.base r.counters g)

abbrev pub unless_stopped : (Replay → Replay) → Replay → Option Differs → Replay
unless_stopped more r None = more r
unless_stopped more r (Some differs) = r

-- groups, one after the other, all at one draw
abbrev pub all_replayed : Identity → Draw → List Piece → Replay → Replay
all_replayed identity draw [] r = r
all_replayed identity draw (p ∷ ps) r =
    let s = by_form identity draw p.group r p.group.form in
    unless_stopped (all_replayed identity draw ps) s s.stop

-- those of a whole log, by a replica that has nothing
unfoldable pub replayed : Identity → Draw → List ℕ → Replay
replayed identity draw bytes = all_replayed identity draw (grouped bytes).pieces first_replay

-- those of a log from a replica's place on, by that replica: those before it are not looked at
unfoldable pub replayed_from : Identity → Draw → Replica → List ℕ → Replay
replayed_from identity draw r bytes = all_replayed identity draw (grouped_from r.place.pos bytes).pieces (replay_by r)

-- a replica that has nothing carries out the whole log
abbrev pub AllIsReplayed : Type 0
AllIsReplayed = (identity : Identity) (draw : Draw) (bytes : List ℕ) → replayed_from identity draw first_replica bytes ≡ replayed identity draw bytes
