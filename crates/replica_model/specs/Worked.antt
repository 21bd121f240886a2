-- A replica that fetched the log of one row, of which worked examples are made: its head, CREATE TABLE t (id INT, v INT, PRIMARY KEY (id))
-- and the row (1, 10) logged as a row; and the replay of the same log with the row logged by its text.
use Rattle.std.specs.Prelude.{ℕ, ◌-◌, List, [], ◌∷◌, codes, drop, pos, slice_set, true}
use Rattle.val_types.specs.declared.change.Change.TheVariants.{Insert}
use Rattle.val_types.specs.declared.value.Value.TheVariants.{Int}
use Rattle.log_file_model.specs.log_entries.declared.entries.Item.{Item}
use Rattle.log_file_model.specs.log_entries.declared.entries.Entry.{Entry}
use Rattle.log_file_model.specs.log_entries.declared.entries.Entry.TheVariants.{Transaction, Definition, LogStart}
use Rattle.session_model.specs.log_model.Log.{log}
use Rattle.session_model.specs.log_model.Worked.{by_rows, creating, nowhere, plainly, table_named}
use Rattle.apply_model.specs.Worked.{no_draw, replica}
use Rattle.replica_model.specs.Replica.{Replica, fetched, first_replica}
use Rattle.replica_model.specs.Applying.{Going, apply}
use Rattle.replica_model.specs.Replaying.{Replay, replayed, replayed_from}

abbrev pub row_item : Item
row_item = by_rows (plainly 1700000002 1) (table_named (codes "t") (codes "v") true ∷ []) (Insert (codes "t") (Int (pos 1) ∷ Int (pos 10) ∷ []) ∷ [])

abbrev pub logged : List (Entry Item)
logged = LogStart 1700000000 1 ∷ Definition 1700000001 1 creating ∷ Transaction 1700000002 1 (row_item ∷ []) ∷ []

-- the bytes behind the magic, from position 4 on
unfoldable pub served : List ℕ
served = drop 4 (log logged 0 nowhere)

-- a replica that fetched bytes from there on
abbrev pub replica_with : List ℕ → Replica
replica_with bytes = fetched bytes first_replica

-- what it makes of them
abbrev pub applied_from : List ℕ → Going
applied_from bytes = apply 10 replica no_draw (replica_with bytes)

-- with another byte at a position of the log
abbrev pub spoiled : (place byte : ℕ) → List ℕ
spoiled place byte = slice_set served (place - 4) byte

-- what a replica that has nothing makes of a log that it is given
abbrev pub first_of : List ℕ → Replay
first_of bytes = replayed replica no_draw bytes

-- the replica behind it, which has fetched nothing
abbrev pub behind_first : List ℕ → Replica
behind_first bytes = record {
  base = (first_of bytes).base;
  counters = (first_of bytes).counters;
  number = (first_of bytes).number;
  place = (first_of bytes).place;
  relay = [];
}

-- what that makes of one more log
abbrev pub second_of : (before bytes : List ℕ) → Replay
second_of before bytes = replayed_from replica no_draw (behind_first before) bytes
