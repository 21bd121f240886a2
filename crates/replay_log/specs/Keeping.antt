-- A replica that carries out the groups of one log, one after the other.
use Rattle.std.specs.Prelude.{◌≡◌, ◌⊎◌, ℕ, ◌+◌, Bool, false, List, [], length, None}
use Rattle.std.specs.Option.{option_map}
use Rattle.log_reader.specs.log_model.Groups.{start, Group, group, group_at}
use Rattle.durable_replica.specs.replica_node.replica_model.Applying.{Going, differs}
use Rattle.durable_replica.specs.replica_node.replica_model.Replica.{Replica}
use Rattle.durable_replica.specs.replica_node.replica_model.Replaying.{Replay}

-- some bytes are just a group
pub record IsWhole (bytes : List ℕ) (pos : ℕ) (g : Group) : Type 0 where
  pub reads : group_at (record { bytes = bytes; pos = pos }) ≡ group g
  pub whole : g.end ≡ pos + length bytes

-- what a relay has in front of the group at a place: nothing, or the beginning of the log, which leaves the applied place
abbrev pub IsBegun : (at : ℕ) → (relay : List ℕ) → (pos : ℕ) → Type 0
IsBegun at relay pos =
    (at + length relay ≡ pos) × ((relay ≡ []) ⊎ ((g : Group) × IsWhole relay at g × (g.form ≡ start)))

-- a replica has the base, the counters, the number and the place of a replay
pub record Keeps (r : Replica) (s : Replay) : Type 0 where
  pub base : r.base ≡ s.base
  pub counters : r.counters ≡ s.counters
  pub number : r.number ≡ s.number
  pub place : r.place ≡ s.place

-- an APPLY went on as a replay did, from a state to the next one; what is in front of the next group stands where no name of a log
-- was passed
pub record Follows (old new : Replay) (closed : Bool) (pos : ℕ) (a : Going) : Type 0 where
  pub keeps : Keeps a.replica new
  pub count : new.count ≡ old.count + a.count
  pub stop : a.stop ≡ option_map differs new.stop
  pub begun : new.stop ≡ None → closed ≡ false → IsBegun a.replica.place.pos a.replica.relay pos
