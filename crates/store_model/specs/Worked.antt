-- Stores by hand. A table `t` with the columns `id` and `v` is made, and a row (1, 10) put into it.
use Rattle.std.specs.Prelude.{ℕ, ◌==◌, true, false, if◌then◌else◌, List, [], ◌∷◌, ◌++◌, codes, replicate, None, pos}
use Rattle.val_types.specs.declared.value.Value.{Value}
use Rattle.val_types.specs.declared.value.Value.TheVariants.{Int}
use Rattle.val_types.specs.declared.definitions.ColType.TheVariants as kinds
use Rattle.val_types.specs.declared.definitions.TableDef.{TableDef}
use Rattle.sql_reach.specs.catalog_rules.Bases.{Base}
use Rattle.sql_reach.specs.catalog_rules.Objects.{table}
use Rattle.disk_model.specs.Story.{Image}
use Rattle.store_model.specs.Held.{Held, first_read}

-- ---- files

-- an image with these bytes in the snapshots' files, in the journal of generation 0, and in the first log
abbrev pub image_of : (zeroth first journal log : List ℕ) → Image
image_of zeroth first journal log f =
    if f == 0 then zeroth else if f == 1 then first else if f == 2 then journal else if f == 8 then log else []

-- a journal and so many bytes of a log
abbrev pub with_log : List ℕ → ℕ → Image
with_log journal count = image_of [] [] journal (replicate count 0)

-- 21 bytes: log 1 begins, and ends at 123
abbrev pub log_started : List ℕ
log_started =
    0x15 ∷ 0 ∷ 0 ∷ 0 ∷ 3 ∷ 0 ∷ 0 ∷ 0 ∷ 0 ∷ 0 ∷ 0 ∷ 0 ∷ 0 ∷ 1 ∷ 0 ∷ 0 ∷ 0 ∷ 0x7b ∷ 0 ∷ 0 ∷ 0 ∷ 0 ∷ 0 ∷ 0 ∷ 0 ∷ []

-- the text, of 48 bytes
abbrev pub made_text : List ℕ
made_text = codes "CREATE TABLE t (id INT, v INT, PRIMARY KEY (id))"

-- 69 bytes: transaction 1, or that of another number, is a definition, and a log ends at 206
abbrev pub table_in_log : (log number : ℕ) → List ℕ
table_in_log log number =
    0x45 ∷ 0 ∷ 0 ∷ 0 ∷ 2 ∷ number ∷ 0 ∷ 0 ∷ 0 ∷ 0 ∷ 0 ∷ 0 ∷ 0 ∷ log ∷ 0 ∷ 0 ∷ 0 ∷ 0xce ∷ 0 ∷ 0 ∷ 0 ∷ 0x30 ∷ 0 ∷ 0 ∷ 0 ∷ made_text

abbrev pub table_numbered : ℕ → List ℕ
table_numbered number = table_in_log 1 number

abbrev pub table_made : List ℕ
table_made = table_numbered 1

-- one change: a row is put into `t`, (1, n)
abbrev pub row_put : ℕ → List ℕ
row_put n =
    1 ∷ 0 ∷ 0 ∷ 0 ∷ 1 ∷ 1 ∷ 0x74 ∷ 2
    ∷ 1 ∷ 1 ∷ 0 ∷ 0 ∷ 0 ∷ 0 ∷ 0 ∷ 0 ∷ 0 ∷ 1 ∷ n ∷ 0 ∷ 0 ∷ 0 ∷ 0 ∷ 0 ∷ 0 ∷ 0 ∷ []

-- 43 bytes: transaction 2, or that of another number, puts the row, and log 1 ends at 336
abbrev pub row_numbered : (number n : ℕ) → List ℕ
row_numbered number n =
    0x2b ∷ 0 ∷ 0 ∷ 0 ∷ 1 ∷ number ∷ 0 ∷ 0 ∷ 0 ∷ 0 ∷ 0 ∷ 0 ∷ 0 ∷ 1 ∷ 0 ∷ 0 ∷ 0 ∷ 0x50 ∷ 1 ∷ 0 ∷ 0 ∷ row_put n

abbrev pub row_inserted : ℕ → List ℕ
row_inserted n = row_numbered 2 n

-- a source's journal: the log alone, then the table, then the row
abbrev pub new_source : List ℕ
new_source = 1 ∷ (log_started ++ 0 ∷ [])

abbrev pub source_with_table : List ℕ
source_with_table = 1 ∷ (log_started ++ 1 ∷ (table_made ++ 0 ∷ []))

abbrev pub source_with_row : ℕ → List ℕ
source_with_row n = 1 ∷ (log_started ++ 1 ∷ (table_made ++ 1 ∷ (row_inserted n ++ 0 ∷ [])))

-- log 2 begins behind it, with the table in that log, or in the log before it; log 1 has 40 bytes more
abbrev pub next_log_started : List ℕ
next_log_started =
    0x15 ∷ 0 ∷ 0 ∷ 0 ∷ 3 ∷ 0 ∷ 0 ∷ 0 ∷ 0 ∷ 0 ∷ 0 ∷ 0 ∷ 0 ∷ 2 ∷ 0 ∷ 0 ∷ 0 ∷ 0x7b ∷ 0 ∷ 0 ∷ 0 ∷ 0xa3 ∷ 0 ∷ 0 ∷ 0 ∷ []

abbrev pub source_with_logs : (log : ℕ) → List ℕ
source_with_logs log = 1 ∷ (log_started ++ 1 ∷ (next_log_started ++ 1 ∷ (table_in_log log 1 ++ 0 ∷ [])))

abbrev pub with_two_logs : List ℕ → (first second : ℕ) → Image
with_two_logs journal first second f = if f == 9 then replicate second 0 else with_log journal first f

-- the row's record stands, and its gate is not yet open
abbrev pub source_staged : List ℕ
source_staged = 1 ∷ (log_started ++ 1 ∷ (table_made ++ 0 ∷ (row_inserted 10 ++ 0 ∷ [])))

-- ---- records that cannot be the next

-- log 1 begins, in a body of other bytes than 21, with another end or another old end
abbrev pub log_started_at : (size end first old : ℕ) → List ℕ
log_started_at size end first old =
    size ∷ 0 ∷ 0 ∷ 0 ∷ 3 ∷ 0 ∷ 0 ∷ 0 ∷ 0 ∷ 0 ∷ 0 ∷ 0 ∷ 0 ∷ first ∷ 0 ∷ 0 ∷ 0 ∷ end ∷ 0x9b ∷ 0x8b ∷ 0x44 ∷ old ∷ 0 ∷ 0 ∷ 0 ∷ []

-- a definition whose text is another statement
abbrev pub row_selected : List ℕ
row_selected =
    0x1d ∷ 0 ∷ 0 ∷ 0 ∷ 2 ∷ 1 ∷ 0 ∷ 0 ∷ 0 ∷ 0 ∷ 0 ∷ 0 ∷ 0 ∷ 1 ∷ 0 ∷ 0 ∷ 0 ∷ 0xce ∷ 0 ∷ 0 ∷ 0 ∷ 8 ∷ 0 ∷ 0 ∷ 0 ∷ codes "SELECT 1"

-- ---- the same on a replica

abbrev pub table_carried_out : List ℕ
table_carried_out =
    0x45 ∷ 0 ∷ 0 ∷ 0 ∷ 0x12 ∷ 1 ∷ 0 ∷ 0 ∷ 0 ∷ 0 ∷ 0 ∷ 0 ∷ 0 ∷ 1 ∷ 0 ∷ 0 ∷ 0 ∷ 0xce ∷ 0 ∷ 0 ∷ 0 ∷ 0x30 ∷ 0 ∷ 0 ∷ 0 ∷ made_text

abbrev pub row_carried_out : List ℕ
row_carried_out =
    0x2b ∷ 0 ∷ 0 ∷ 0 ∷ 0x11 ∷ 2 ∷ 0 ∷ 0 ∷ 0 ∷ 0 ∷ 0 ∷ 0 ∷ 0 ∷ 1 ∷ 0 ∷ 0 ∷ 0 ∷ 0x50 ∷ 1 ∷ 0 ∷ 0 ∷ row_put 10

-- 17 bytes: the replica goes on at the first event of log 2
abbrev pub went_on : List ℕ
went_on = 0x11 ∷ 0 ∷ 0 ∷ 0 ∷ 0x13 ∷ 2 ∷ 0 ∷ 0 ∷ 0 ∷ 0 ∷ 0 ∷ 0 ∷ 0 ∷ 2 ∷ 0 ∷ 0 ∷ 0 ∷ 4 ∷ 0 ∷ 0 ∷ 0 ∷ []

abbrev pub replica_with_table : List ℕ
replica_with_table = 1 ∷ (table_carried_out ++ 0 ∷ [])

abbrev pub replica_with_row : List ℕ
replica_with_row = 1 ∷ (table_carried_out ++ 1 ∷ (row_carried_out ++ 0 ∷ []))

abbrev pub replica_behind_log : List ℕ
replica_behind_log = 1 ∷ (table_carried_out ++ 1 ∷ (row_carried_out ++ 1 ∷ (went_on ++ 0 ∷ [])))

-- a snapshot of a source that has nothing but its first log, of a generation: 38 bytes
abbrev pub snapshot_numbered : (generation end : ℕ) → List ℕ
snapshot_numbered generation end =
    1 ∷ 0x1d ∷ 0 ∷ 0 ∷ 0 ∷ 0 ∷ 0 ∷ 0 ∷ 0
    ∷ 1 ∷ generation ∷ 0 ∷ 0 ∷ 0 ∷ 0 ∷ 0 ∷ 0 ∷ 0 ∷ 0 ∷ 0 ∷ 0 ∷ 0 ∷ 0 ∷ 0 ∷ 0 ∷ 0 ∷ 1 ∷ 0 ∷ 0 ∷ 0 ∷ end ∷ 0 ∷ 0 ∷ 0 ∷ 0 ∷ 0 ∷ 0 ∷ 0 ∷ []

abbrev pub new_snapshot : List ℕ
new_snapshot = snapshot_numbered 1 0x7b

-- ---- what they hold

abbrev pub table_t : TableDef
table_t = record {
  name = codes "t";
  columns = record { name = codes "id"; kind = kinds.Int; nullable = false; preset = None }
      ∷ record { name = codes "v"; kind = kinds.Int; nullable = true; preset = None } ∷ [];
  primary = 0 ∷ [];
  uniques = [];
  auto = None;
}

abbrev pub with_rows : List (List Value) → Base
with_rows rows = record { catalog = table table_t ∷ []; tables = record { definition = table_t; rows = rows } ∷ [] }

abbrev pub one_row : ℕ → List (List Value)
one_row n = (Int (pos 1) ∷ Int (pos n) ∷ []) ∷ []

abbrev pub source_at : Base → (number end : ℕ) → Held
source_at base number end = record { base = base; number = number; ends = record { pos = end } ∷ []; place = first_read }

abbrev pub source_with_ends : Base → (number first second : ℕ) → Held
source_with_ends base number first second =
    record { base = base; number = number; ends = record { pos = first } ∷ record { pos = second } ∷ []; place = first_read }

abbrev pub replica_at : Base → (number log at : ℕ) → Held
replica_at base number log at = record { base = base; number = number; ends = []; place = record { log = log; pos = at } }
