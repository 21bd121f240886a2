-- A replica that follows its source: what equals what.
--
-- A source and a replica, of which each began with nothing or with what it had, where the replica owed some entries. It has carried
-- out the first of these and of those that the source has put out since, each just once and in their order. Its base and its counters
-- are what the definition of an applier makes of their groups, one after the other, each at the draw of the APPLY that carried it out,
-- whatever texts are among them; where it opened again on the way, its counters began anew behind its rows, and its base went on as it
-- was. Where each item of these entries does the same at every replica (it is logged by its rows, or what its
-- statement does follows from its tables and from what it carries), its base is what they make of the one that it began with: the same
-- objects in the same order, with equal rows. Its place is behind the last of them in the source's log, and what it has fetched is what
-- the log has from there on, as far as it has fetched: behind an opening nothing, until it fetches again from its place. Its counters,
-- its draws, its openings and its identity need not be the source's, and the way in which FETCH cut the log is not in this.
use Rattle.std.specs.Prelude.{◌≡◌, ℕ, ◌^◌, ◌+◌, ◌-◌, min, List, [], ◌∷◌, ◌++◌, map, length, drop, Some, Result, Ok}
use Rattle.port_traits.specs.declared.identity.Identity.{Identity}
use Rattle.log_entry_laws.specs.log_entries.declared.entries.Item.{Item}
use Rattle.log_entry_laws.specs.log_entries.declared.entries.Entry.{Entry}
use Rattle.log_entry_laws.specs.log_entries.declared.entries.Entry.TheVariants.{Transaction, Definition, LogStart}
use Rattle.log_entry_laws.specs.log_entries.Entries.{after}
use Rattle.log_entry_laws.specs.log_model.Groups.{Group}
use Rattle.log_entry_laws.specs.log_model.Log.{LogPlace, behind, counted, head, log}
use Rattle.log_entry_laws.specs.Entries.{group_of_entry}
use Rattle.replica_model.specs.apply_model.Stops.{Differs}
use Rattle.replica_model.specs.apply_model.Groups.{Applied, and_then, group_carried}
use Rattle.replica_model.specs.apply_model.sql_reach.Defining.{counters_begun}
use Rattle.session_replays.specs.session_model.Machine.{Whole, first_place, kept_entry}
use Rattle.session_replays.specs.session_model.Holding.{changes_of, define}
use Rattle.session_replays.specs.Followed.{EntriesFollow}
use Rattle.replica_model.specs.Replica.{Replica, log_begin}
use Rattle.run_model.specs.Run.{Both, Names, Read, nothing, bytes_to, ReplicaStep, carried_at, opened_again, carried_in, log_with, number_before}

-- transactions and definitions
abbrev pub AreCommitted : List (Entry Whole) → Type 0
AreCommitted [] = Unit {0}
AreCommitted (Transaction stamp server items ∷ es) = AreCommitted es
AreCommitted (Definition stamp server item ∷ es) = AreCommitted es
AreCommitted (LogStart stamp server ∷ es) = ⊥

-- ---- places in the first log

-- before the first entry that is carried out stands the head of the log, where nothing of it was read
abbrev pub head_entries : Read → (stamp server : ℕ) → List (Entry Whole)
head_entries nothing stamp server = LogStart stamp server ∷ []
head_entries (bytes_to bytes number) stamp server = []

abbrev pub head_bytes : Read → (stamp server : ℕ) → List ℕ
head_bytes nothing stamp server = head stamp server
head_bytes (bytes_to bytes number) stamp server = bytes

-- behind that stands a writer
abbrev pub place_behind : Read → LogPlace
place_behind nothing = first_place
place_behind (bytes_to bytes number) = record { log = 1; pos = length bytes }

-- a reader stands there, or before the head that it has not read
abbrev pub reader_from : Read → LogPlace
reader_from nothing = log_begin 1
reader_from (bytes_to bytes number) = record { log = 1; pos = length bytes }

-- a reader who has carried out entries stands behind their bytes
abbrev pub reader_at : Read → (stamp server : ℕ) → List (Entry Whole) → LogPlace
reader_at read stamp server [] = reader_from read
reader_at read stamp server (e ∷ es) =
    record { log = 1; pos = length (head_bytes read stamp server ++ log (map kept_entry (e ∷ es)) (number_before read) (place_behind read)) }

-- ---- what an applier makes of groups

-- the groups that entries are read as, each at its place
abbrev pub groups_of : List (Entry Item) → (number : ℕ) → LogPlace → List Group
groups_of [] number p = []
groups_of (e ∷ es) number p = group_of_entry e number p ∷ groups_of es (counted e number) (behind e number p)

-- where a replica opens again its counters begin behind its rows
abbrev pub begun_anew : Applied → Applied
begun_anew x = record { base = x.base; counters = counters_begun x.base }

-- what a replica's steps make of groups: carried out one after the other, each at its own draw, with openings before, between and behind
-- them; or where one stops
abbrev pub all_carried : Identity → List Group → List ReplicaStep → Applied → Result Applied Differs
all_carried identity gs [] x = Ok x
all_carried identity gs (opened_again ∷ ss) x = all_carried identity gs ss (begun_anew x)
all_carried identity [] (carried_at d ∷ ss) x = Ok x
all_carried identity (g ∷ gs) (carried_at d ∷ ss) x = and_then (all_carried identity gs ss) (group_carried identity d x.base x.counters g)

-- what a replica has come to
abbrev pub applied_of : Replica → Applied
applied_of r = record { base = r.base; counters = r.counters }

-- ---- a replica behind its source

pub record Follows (names : Names) (b : Both) : Type 0 where
  pub stamp : ℕ
  pub server : ℕ
  pub carried : List (Entry Whole)
  pub more : List (Entry Whole)
  -- what was owed and what the source put out: the head of the log, if nothing of it was read, what the replica has carried out, and
  -- what it has not
  pub history : b.from.owed ++ b.machine.history ≡ head_entries b.from.read stamp server ++ (carried ++ more)
  pub committed : AreCommitted (carried ++ more)
  -- the replica's base and counters are what its steps make of the groups of the first part, each carried out at the draw of its APPLY
  pub steps : carried_in b.steps ≡ length carried
  pub makes : all_carried names.replica (groups_of (map kept_entry carried) (number_before b.from.read) (place_behind b.from.read)) b.steps (applied_of b.from.replica)
      ≡ Ok (applied_of b.replica)
  -- and its base is what the first part makes of the one that it began with, where each item of it does the same at every replica
  pub base : EntriesFollow carried → after changes_of define carried b.from.replica.base ≡ Some b.replica.base
  pub number : b.replica.number ≡ min (b.from.replica.number + length carried) (2 ^ 64 - 1)
  -- it stands behind them in the log, of which it has fetched what follows, up to some place
  pub place : b.replica.place ≡ reader_at b.from.read stamp server carried
  pub rest : List ℕ
  pub relay : b.replica.relay ++ rest ≡ drop b.replica.place.pos (log_with b.from b.machine)
