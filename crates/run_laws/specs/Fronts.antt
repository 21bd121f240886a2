-- Some bytes of a source's log, cut anywhere, and what a replica makes of them that is behind the source.
--
-- What equals what. A replica is behind its source where a run may begin (`Begins`), by the entries that it owes. Of the source's log it is
-- given some bytes, from the first on, which reach its place. From there on they are read as the groups of the first of these entries, and
-- then the bytes end, or what follows is a part of a group and is damaged.
use Rattle.std.specs.Prelude.{◌≡◌, ◌≤◌, ℕ, ◌+◌, List, [], ◌∷◌, ◌++◌, length, map, take, Some, None}
use Rattle.port_traits.specs.declared.identity.Identity.{Identity}
use Rattle.port_traits.specs.declared.identity.Draw.{Draw}
use Rattle.apply_laws.specs.log_entries.declared.entries.Entry.{Entry}
use Rattle.apply_laws.specs.log_entries.declared.entries.Entry.TheVariants.{Transaction, Definition, LogStart}
use Rattle.apply_laws.specs.log_entries.Entries.{after}
use Rattle.apply_laws.specs.log_entry_laws.Entries.{start_group}
use Rattle.apply_laws.specs.log_model.Groups.{Group}
use Rattle.apply_laws.specs.log_model.Log.{end_from, log, written_to}
use Rattle.apply_laws.specs.session_model.Machine.{Whole, first_place, kept_entry}
use Rattle.apply_laws.specs.session_model.Holding.{changes_of, define}
use Rattle.apply_laws.specs.session_replays.Followed.{EntriesFollow}
use Rattle.run_model.specs.replica_model.Replaying.{Replay, all_replayed, replay_by, replayed_from}
use Rattle.run_model.specs.log_file_model.Walk.{Ending, ended, damaged, grouped_from}
use Rattle.run_model.specs.Run.{Read, nothing, bytes_to, Starts, bytes_before, number_before, place_before}
use Rattle.run_model.specs.Following.{groups_of, reader_from}
use Rattle.run_laws.specs.Openings.{Begins}
use Rattle.run_laws.specs.Replays.{groups_in}

-- the source's log where both stand: what the replica has read, and what it owes
abbrev pub log_at : Starts → List ℕ
log_at from = bytes_before from.read ++ log (map kept_entry from.owed) (number_before from.read) (place_before from.read)

-- Bytes of it, from the first on, which reach the replica's place.
pub record IsFrontOf (from : Starts) (bytes : List ℕ) : Type 0 where
  pub rest : List ℕ
  pub is : bytes ++ rest ≡ log_at from
  pub reaches : from.replica.place.pos ≤ length bytes

-- the groups that owed entries are read as: where nothing was read of the log, its start is the first
abbrev pub groups_owed : Read → List (Entry Whole) → List Group
groups_owed nothing [] = []
groups_owed nothing (LogStart stamp server ∷ es) = start_group ∷ groups_of (map kept_entry es) 0 first_place
groups_owed nothing (Transaction stamp server items ∷ es) = []
groups_owed nothing (Definition stamp server item ∷ es) = []
groups_owed (bytes_to bytes number) es = groups_of (map kept_entry es) number (record { log = 1; pos = length bytes })

-- where they end in the log
abbrev pub ends_at : Read → List (Entry Whole) → ℕ
ends_at read [] = (reader_from read).pos
ends_at read (e ∷ es) = (written_to (map kept_entry (e ∷ es)) (number_before read) (place_before read)).pos

-- where nothing follows a log ends, and a part of a group is damaged where it begins
abbrev pub cut_at : (pos : ℕ) → (tail : List ℕ) → Ending
cut_at pos [] = ended
cut_at pos (b ∷ bs) = damaged pos

-- From the replica's place on they are the groups of the first of what it owes, behind which the bytes end or are damaged; of a whole log they are
-- those of all of it, and there it ends.
pub record FrontIsRead (from : Starts) (bytes : List ℕ) : Type 0 where
  pub front : List (Entry Whole)
  pub left : List (Entry Whole)
  pub all : from.owed ≡ front ++ left
  pub groups : groups_in (grouped_from from.replica.place.pos bytes).pieces ≡ groups_owed from.read front
  pub tail : List ℕ
  pub size : length bytes ≡ ends_at from.read front + length tail
  pub ending : (grouped_from from.replica.place.pos bytes).ending ≡ cut_at (ends_at from.read front) tail
  pub whole : bytes ≡ log_at from → (left ≡ []) × (tail ≡ [])

-- so it is wherever the log is cut
abbrev pub FrontsAreRead : Type 0
FrontsAreRead = (from : Starts) (bytes : List ℕ) → Begins from → IsFrontOf from bytes → FrontIsRead from bytes

-- ---- what a replica makes of it

-- What a replay has come to that has carried out the first of what was owed: its place is where a reader stands behind them, and where they
-- do the same at every replica, its base is what they make of the replica's.
pub record HasReplayed (from : Starts) (s : Replay) : Type 0 where
  pub front : List (Entry Whole)
  pub left : List (Entry Whole)
  pub all : from.owed ≡ front ++ left
  pub place : s.place ≡ end_from (reader_from from.read) (map kept_entry front) (number_before from.read) (place_before from.read)
  pub base : EntriesFollow front → after changes_of define front from.replica.base ≡ Some s.base

-- what it makes of the first so many groups
abbrev pub replayed_to : Identity → Draw → Starts → (bytes : List ℕ) → ℕ → Replay
replayed_to identity draw from bytes k =
    all_replayed identity draw (take k (grouped_from from.replica.place.pos bytes).pieces) (replay_by from.replica)

-- so it has behind each of the groups, whoever it is and whatever its draw
abbrev pub ReplaysHaveCarried : Type 0
ReplaysHaveCarried =
    (identity : Identity) (draw : Draw) (from : Starts) (bytes : List ℕ) (k : ℕ) → Begins from → IsFrontOf from bytes
    → HasReplayed from (replayed_to identity draw from bytes k)

-- and where all that is owed does the same at every replica, no item stops it
abbrev pub NoReplayStops : Type 0
NoReplayStops =
    (identity : Identity) (draw : Draw) (from : Starts) (bytes : List ℕ) → Begins from → IsFrontOf from bytes → EntriesFollow from.owed
    → (replayed_from identity draw from.replica bytes).stop ≡ None

-- What a replay has come to that has carried out all that was owed: no item stopped it, its place is where a reader stands behind all of it, and
-- its base is the source's: the same objects in the same order, with equal rows.
pub record HasReplayedAll (from : Starts) (s : Replay) : Type 0 where
  pub through : s.stop ≡ None
  pub place : s.place ≡ end_from (reader_from from.read) (map kept_entry from.owed) (number_before from.read) (place_before from.read)
  pub base : s.base ≡ from.base

-- so it has where the whole log was given, and all that is owed does the same at every replica
abbrev pub WholeIsReplayed : Type 0
WholeIsReplayed =
    (identity : Identity) (draw : Draw) (from : Starts) (bytes : List ℕ) → Begins from → IsFrontOf from bytes → bytes ≡ log_at from → EntriesFollow from.owed
    → HasReplayedAll from (replayed_from identity draw from.replica bytes)
