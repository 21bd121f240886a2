-- Where a run may begin, with stores that are not empty, and that it ends where the next one may begin.
--
-- A source and a replica begin behind a log that the replica has read to some place. What it owes stands in the log from there on, and
-- leads from its base to the source's. Behind a run it has read to where it has carried out, and owes what is left.
use Rattle.std.specs.Prelude.{◌≡◌, ◌<◌, ◌^◌, ℕ, List, [], ◌∷◌, ◌++◌, map}
use Rattle.port_traits.specs.declared.identity.Draw.{Draw}
use Rattle.apply_laws.specs.log_entries.declared.entries.Entry.{Entry}
use Rattle.apply_laws.specs.log_entries.declared.entries.Entry.TheVariants.{Transaction, Definition, LogStart}
use Rattle.apply_laws.specs.log_entry_laws.Entries.{CanLogAll}
use Rattle.apply_laws.specs.log_model.Log.{counted_all, head, log}
use Rattle.apply_laws.specs.session_model.Machine.{Machine, Whole, kept_entry}
use Rattle.apply_laws.specs.session_model.Openings.{committed_in}
use Rattle.apply_laws.specs.session_replays.Bodies.{BodiesAreWell}
use Rattle.apply_laws.specs.session_replays.Followed.{EntriesFollow}
use Rattle.apply_laws.specs.session_replays.Sizes.{ProceduresHaveSizes}
use Rattle.run_model.specs.replica_model.Replica.{reopened}
use Rattle.run_model.specs.Run.{Names, Both, Read, nothing, bytes_to, Starts, from_nothing, number_before, place_before, source_from, log_with, both_from, first_both}
use Rattle.run_model.specs.Following.{AreCommitted, Follows, head_bytes, head_entries, place_behind}
use Rattle.run_laws.specs.Laws.{IsBehind, IsSound}

-- ---- where a run may begin

-- behind what was read of a log stand transactions and definitions; where nothing was read, there is no log, or its head stands before them
abbrev pub AreOwed : Read → List (Entry Whole) → Type 0
AreOwed nothing [] = Unit {0}
AreOwed nothing (LogStart stamp server ∷ es) = AreCommitted es
AreOwed nothing (Transaction stamp server items ∷ es) = ⊥
AreOwed nothing (Definition stamp server item ∷ es) = ⊥
AreOwed (bytes_to bytes number) es = AreCommitted es

-- Bytes of a log, from its magic on: they begin with a head, whose stamp a log can say.
pub record IsLogFront (bytes : List ℕ) : Type 0 where
  pub stamp : ℕ
  pub server : ℕ
  pub fits : stamp < 2 ^ 32
  pub more : List ℕ
  pub is : bytes ≡ head stamp server ++ more

-- what was read of a log, if anything was
abbrev pub HasBegun : Read → Type 0
HasBegun nothing = Unit {0}
HasBegun (bytes_to bytes number) = IsLogFront bytes

-- The replica is behind its source by what it owes, which stands in the log behind what it has read, and can be read again from there; it
-- counts as the log does, and has opened; and the source's stored programs are such as it can make.
pub record Begins (from : Starts) : Type 0 where
  pub behind : IsBehind from
  pub begun : HasBegun from.read
  pub number : from.replica.number ≡ number_before from.read
  pub owed : AreOwed from.read from.owed
  pub logs : CanLogAll (map kept_entry from.owed) (number_before from.read) (place_before from.read)
  pub opened : from.replica ≡ reopened from.replica
  pub sizes : ProceduresHaveSizes from.base.catalog
  pub bodies : BodiesAreWell from.base.catalog

-- ---- where it ends

-- how much of its source's log a replica has read that has carried out entries behind what it had read
abbrev pub read_behind : Read → (stamp server : ℕ) → (carried : List (Entry Whole)) → Read
read_behind read stamp server [] = read
read_behind read stamp server (e ∷ es) =
    bytes_to (head_bytes read stamp server ++ log (map kept_entry (e ∷ es)) (number_before read) (place_behind read)) (counted_all (map kept_entry (e ∷ es)) (number_before read))

-- what it owes, of which more comes behind these
abbrev pub owed_behind : Read → (stamp server : ℕ) → (carried more : List (Entry Whole)) → List (Entry Whole)
owed_behind read stamp server [] more = head_entries read stamp server ++ more
owed_behind read stamp server (e ∷ es) more = more

-- where the next run begins: the replica has opened on what it has carried out, and owes what it has not
abbrev pub begins_next : (names : Names) (b : Both) → Follows names b → Starts
begins_next names b f = record {
  read = read_behind b.from.read f.stamp f.server f.carried;
  owed = owed_behind b.from.read f.stamp f.server f.carried f.more;
  base = b.machine.state.shared.base;
  replica = reopened b.replica;
}

-- ---- laws

-- where neither has anything a run may begin, and it begins as one does without stores
pub record BeginWithNothing : Type 0 where
  pub begins : Begins from_nothing
  pub opened : (names : Names) (src : Draw) → both_from names src from_nothing ≡ first_both names src

-- Both nodes open there: the replica follows its source, of which it has carried out nothing yet, and that is sound.
pub record Opens (names : Names) (src : Draw) (from : Starts) : Type 0 where
  pub follows : Follows names (both_from names src from)
  pub none : follows.carried ≡ []
  pub sound : IsSound from (both_from names src from).machine

-- so it is where a run may begin and the source opens at a draw whose moment a log can say
abbrev pub BothOpen : Type 0
BothOpen = (names : Names) (src : Draw) (from : Starts) → src.now < 2 ^ 32 → Begins from → Opens names src from

-- The next run may begin there: its source stands where this run's did, and has the same log.
pub record EndsWell (names : Names) (b : Both) (f : Follows names b) : Type 0 where
  pub begins : Begins (begins_next names b f)
  pub source : source_from (begins_next names b f) ≡ committed_in b.machine
  pub log : (m : Machine) → m.history ≡ [] → log_with (begins_next names b f) m ≡ log_with b.from b.machine

-- so it is behind each run that began where one may begin, where each item that the replica has carried out does the same at every
-- replica, and the source counts within 64 bits
abbrev pub RunsEndWell : Type 0
RunsEndWell =
    (names : Names) (b : Both) (f : Follows names b) → Begins b.from → IsSound b.from b.machine → b.machine.state.shared.committed < 2 ^ 64 → EntriesFollow f.carried
    → EndsWell names b f
