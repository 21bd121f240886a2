-- A source's and a replica's stores where a run begins, and where it ends.
--
-- What equals what. The replica's store is behind the source's by some entries (`Behind` of durable_runs): they make the source's base of
-- its own, and are just what the source's log has from its place on. A run that opens both begins so, and in its end the replica's store
-- is behind the source's again, by the entries that it has not carried out.
use Rattle.std.specs.Prelude.{◌≡◌, ◌⊎◌, ◌≤◌, ◌^◌, ℕ, ◌-◌, List, [], ◌∷◌, ◌++◌, length, map}
use Rattle.store_model.specs.Held.{LogEnd, Held, first_read, last_end}
use Rattle.store_model.specs.Entries.{writer_at}
use Rattle.durable_runs.specs.Sources.{Stored}
use Rattle.durable_runs.specs.Behind.{Behind, writer_of}
use Rattle.run_laws.specs.log_entries.declared.entries.Entry.{Entry}
use Rattle.run_laws.specs.log_entry_laws.Entries.{CanLogAll}
use Rattle.run_laws.specs.log_model.Log.{log}
use Rattle.run_laws.specs.apply_laws.Following.{BaseHolds}
use Rattle.run_laws.specs.session_model.Machine.{Whole, kept_entry}
use Rattle.run_laws.specs.session_replays.Again.{EntriesGive}
use Rattle.run_laws.specs.session_replays.Bodies.{BodiesAreWell}
use Rattle.run_laws.specs.session_replays.Sizes.{ProceduresHaveSizes}
use Rattle.run_laws.specs.session_replays.Texts.{EntriesSay}
use Rattle.run_laws.specs.run_model.replica_model.Replica.{replica_from, reopened}
use Rattle.run_laws.specs.run_model.Run.{Both, Starts, bytes_before, number_before, place_before, source_from, log_with}
use Rattle.run_laws.specs.Openings.{IsLogFront}

-- ---- one log

-- A source's store that has one log at the most, of which it has what stands up to its end; of others it has nothing.
pub record HasOneLog (source : Stored) : Type 0 where
  pub one : length source.held.ends ≤ 1
  pub long : length (source.logs 1) ≡ last_end source.held.ends
  pub others : (n : ℕ) → (n ≡ 1 → ⊥) → source.logs n ≡ []

-- a log that is there begins with its head
abbrev pub FrontStands : List LogEnd → (log : List ℕ) → Type 0
FrontStands [] log = Unit {0}
FrontStands (e ∷ ends) log = IsLogFront log

-- ---- where a run may begin

-- What stands in both stores lets a run begin. The replica is behind the source by what it owes: its items give their changes there, say
-- what they are, and can be read again from the log. It stands at the log's first event or behind its head, and counts from 0 there. Where
-- the source has no log nothing is owed. And the source's stored programs are such as it can make.
pub record CanBegin (source : Stored) (replica : Held) (owed : List (Entry Whole)) : Type 0 where
  pub behind : Behind source replica owed
  pub one : HasOneLog source
  pub front : FrontStands source.held.ends (source.logs 1)
  pub place : (replica.place.pos ≡ 4) ⊎ (123 ≤ replica.place.pos)
  pub first : replica.place ≡ first_read → replica.number ≡ 0
  pub none : source.held.ends ≡ [] → owed ≡ []
  pub within : replica.number ≤ 2 ^ 64 - 1
  pub holds : BaseHolds replica.base
  pub give : EntriesGive replica.base owed
  pub say : EntriesSay owed
  pub can : CanLogAll (map kept_entry owed) replica.number (writer_of replica.place source.held.ends)
  pub sizes : ProceduresHaveSizes source.held.base.catalog
  pub bodies : BodiesAreWell source.held.base.catalog

-- ---- what stores stand for

-- both stores stand where a run begins: the source's behind what is owed, with the log up to there, and the replica's as it opens
pub record StandAt (source : Stored) (replica : Held) (from : Starts) : Type 0 where
  pub base : source.held.base ≡ from.base
  pub number : source.held.number ≡ (source_from from).committed
  pub place : writer_at source.held ≡ (source_from from).place
  pub log : source.logs 1 ≡ bytes_before from.read ++ log (map kept_entry from.owed) (number_before from.read) (place_before from.read)
  pub opens : from.replica ≡ replica_from replica.base replica.number replica.place

-- both stores stand for both nodes: the source's for all that it committed, with its log, and the replica's for what it has carried out
pub record StandFor (source : Stored) (replica : Held) (b : Both) : Type 0 where
  pub base : source.held.base ≡ b.machine.state.shared.base
  pub number : source.held.number ≡ b.machine.state.shared.committed
  pub place : writer_at source.held ≡ b.machine.state.shared.place
  pub log : source.logs 1 ≡ log_with b.from b.machine
  pub opens : reopened b.replica ≡ replica_from replica.base replica.number replica.place
