-- Entries are read again as their groups, and a front of one as nothing whole.
use Rattle.std.specs.Prelude.{◌≡◌, ◌<◌, ◌≤◌, ◌^◌, ℕ, ◌+◌, List, ◌++◌, length}
use Rattle.log_model.specs.log_entries.declared.entries.Item.{Item}
use Rattle.log_model.specs.log_entries.declared.entries.Entry.{Entry}
use Rattle.log_model.specs.Groups.{Group, group, not_whole, group_at}
use Rattle.log_model.specs.Log.{LogPlace, description, entry_bytes, counted_all, written_to}
use Rattle.log_model.specs.Written.{bytes_of}
use Rattle.log_entry_laws.specs.Entries.{start_group, group_of_entry, StaysInLog, CanLog, CanLogAll}

-- ---- groups have bounds

-- the group of an entry has just its bytes
abbrev pub GroupsHaveBounds : Type 0
GroupsHaveBounds = (e : Entry Item) (number : ℕ) (p : LogPlace) → StaysInLog e
    → ((group_of_entry e number p).begin ≡ p.pos) × ((group_of_entry e number p).end ≡ p.pos + length (entry_bytes e number p))

-- ---- whole

-- the first event of a log is read as its start, whatever follows it
abbrev pub StartIsRead : Type 0
StartIsRead = (stamp server : ℕ) (more : List ℕ) → stamp < 2 ^ 32
    → group_at (record { bytes = bytes_of server 4 (description stamp) ++ more; pos = 4 }) ≡ group start_group

-- an entry that is logged is read as its group, whatever follows it
abbrev pub EntryIsRead : Type 0
EntryIsRead = (e : Entry Item) (number : ℕ) (p : LogPlace) (more : List ℕ) → StaysInLog e → CanLog e number p
    → group_at (record { bytes = entry_bytes e number p ++ more; pos = p.pos }) ≡ group (group_of_entry e number p)

-- ---- cut

-- fewer bytes than a header has are not whole, wherever they stand
abbrev pub FewAreCut : Type 0
FewAreCut = (bytes : List ℕ) (pos : ℕ) → length bytes < 19 → group_at (record { bytes = bytes; pos = pos }) ≡ not_whole

-- the first event of a log is not whole where some of its bytes are missing
abbrev pub StartIsCut : Type 0
StartIsCut = (stamp server : ℕ) (front rest : List ℕ) → stamp < 2 ^ 32
    → front ++ rest ≡ bytes_of server 4 (description stamp) → 1 ≤ length rest
    → group_at (record { bytes = front; pos = 4 }) ≡ not_whole

-- nor an entry
abbrev pub EntryIsCut : Type 0
EntryIsCut = (e : Entry Item) (number : ℕ) (p : LogPlace) (front rest : List ℕ) → StaysInLog e → CanLog e number p
    → front ++ rest ≡ entry_bytes e number p → 1 ≤ length rest
    → group_at (record { bytes = front; pos = p.pos }) ≡ not_whole

-- ---- fetched piece by piece

-- `relay` is there and `rest` still to come; together they are some bytes that are read as a group, and `more` behind them.
-- Of these bytes some are missing, and nothing whole is read; or all are there, the group is read, and a front of `more` follows
pub data Fetched (bytes : List ℕ) (pos : ℕ) (read : Group) (relay rest more : List ℕ) : Type 0 where
  partly : group_at (record { bytes = relay; pos = pos }) ≡ not_whole → Fetched bytes pos read relay rest more
  wholly : (relay' : List ℕ) → relay ≡ bytes ++ relay' → relay' ++ rest ≡ more
      → group_at (record { bytes = relay; pos = pos }) ≡ group read → Fetched bytes pos read relay rest more

-- so the first event of a log is fetched
abbrev pub StartRelayIsRead : Type 0
StartRelayIsRead = (stamp server : ℕ) (relay rest more : List ℕ) → stamp < 2 ^ 32
    → relay ++ rest ≡ bytes_of server 4 (description stamp) ++ more
    → Fetched (bytes_of server 4 (description stamp)) 4 start_group relay rest more

-- and so is an entry
abbrev pub RelayIsRead : Type 0
RelayIsRead = (e : Entry Item) (number : ℕ) (p : LogPlace) (relay rest more : List ℕ) → StaysInLog e → CanLog e number p
    → relay ++ rest ≡ entry_bytes e number p ++ more
    → Fetched (entry_bytes e number p) p.pos (group_of_entry e number p) relay rest more

-- ---- one after the other

-- entries can be logged behind others just where they can be behind what those append
abbrev pub EntriesCanLogOn : Type 0
EntriesCanLogOn =
    ((front back : List (Entry Item)) (number : ℕ) (p : LogPlace) → CanLogAll (front ++ back) number p
    → CanLogAll front number p × CanLogAll back (counted_all front number) (written_to front number p))
    × ((front back : List (Entry Item)) (number : ℕ) (p : LogPlace) → CanLogAll front number p
    → CanLogAll back (counted_all front number) (written_to front number p) → CanLogAll (front ++ back) number p)
