-- Where the bytes lead that were fetched.
use Rattle.std.specs.Prelude.{◌≡◌, ◌≤◌, ◌<◌, ◌^◌, ℕ, List, ◌++◌, length, drop}
use Rattle.log_groups.specs.log_model.Events.{Place as Part}
use Rattle.log_groups.specs.log_model.Log.{LogPlace}
use Rattle.replica_model.specs.Replica.{past_groups}
use Rattle.relay_log.specs.declared.place.Place.{Place}
use Rattle.relay_log.specs.declared.place.Walk.{Walk}

abbrev pub place_seen : Place → LogPlace
place_seen p = record { log = p.log; pos = p.pos }

-- where some bytes of logs end that stand from a place on
abbrev pub past_all : LogPlace → List ℕ → LogPlace
past_all place bytes = past_groups (length bytes) place bytes

-- so many of the bytes from a place on are whole groups that lead to another place, whatever is fetched behind them
abbrev pub Reaches : LogPlace → List ℕ → ℕ → LogPlace → Type 0
Reaches from bytes count there = (more : List ℕ) → past_all from (bytes ++ more) ≡ past_all there (drop count bytes ++ more)

-- What a relay is: the applied place and the bytes behind it.
pub record Fetched : Type 0 where
  pub place : LogPlace
  pub bytes : List ℕ

-- whole groups lie between the applied place and one ahead
pub record IsAhead (f : Fetched) (ahead : Walk) : Type 0 where
  pub within : ahead.passed ≤ length f.bytes
  pub reaches : Reaches f.place f.bytes ahead.passed (place_seen ahead.place)

-- the bytes there
abbrev pub ahead_of : Fetched → Walk → Part
ahead_of f ahead = record { bytes = drop ahead.passed f.bytes; pos = ahead.place.pos }

-- whole groups were walked over so far, and the bytes end within what a position can say
pub record IsKept (f : Fetched) (walked : Walk) : Type 0 where
  pub ahead : IsAhead f walked
  pub fits : (past_all f.place f.bytes).pos < 2 ^ 32
