-- Runs by hand: one byte is kept; a source begins its first log, makes a table `t` and puts the row (1, 10) into it.
use Rattle.std.specs.Prelude.{◌≡◌, ℕ, ◌+◌, true, List, [], ◌∷◌, ◌++◌, codes, flat_map, length, map, take, Option, Some}
use Rattle.answer_text.specs.declared.report.Mark.{Mark}
use Rattle.disk_model.specs.declared.call.Call.TheVariants.{Write, Sync}
use Rattle.disk_model.specs.Story.{Image, Story}
use Rattle.byte_fields.specs.Field.{number_bytes}
use Rattle.session_model.specs.log_entries.declared.entries.Item.{Item}
use Rattle.session_model.specs.log_entries.declared.entries.Entry.{Entry}
use Rattle.session_model.specs.log_entries.declared.entries.Entry.TheVariants.{LogStart}
use Rattle.session_model.specs.log_model.Log.{log}
use Rattle.session_model.specs.Machine.{Whole, whole, kept_entry, nowhere, opened, Step, step}
use Rattle.session_model.specs.Worked.{root, draw_of}
use Rattle.store_model.specs.declared.record.Record.{Record}
use Rattle.store_model.specs.Bodies.{body_of}
use Rattle.store_model.specs.Worked.{image_of, source_at, with_rows, source_with_table, source_staged}
use Rattle.durable_runs.specs.Marks.{Named}
use Rattle.durable_runs.specs.Runs.{Side}
use Rattle.durable_runs.specs.Sources.{Stored, stored_in}

-- ---- marks

-- three marks: two commits of the source, of six calls each, and then one of the replica; each disk had been looked at before
abbrev pub three_marks : List Mark
three_marks =
    record { command = 1; committed = 1; src_calls = 16; applied = 0; rep_calls = 9 }
    ∷ record { command = 2; committed = 2; src_calls = 22; applied = 0; rep_calls = 9 }
    ∷ record { command = 4; committed = 2; src_calls = 25; applied = 1; rep_calls = 13 }
    ∷ []

-- ---- one byte

-- a side whose store has so many bytes in file 2, and each step one more
abbrev pub counting : Side ℕ ℕ
counting = record { step = λ byte count. Some (count + 1); number = λ count. count; Stands = λ count image. length (image 2) ≡ count }

-- no file and no call; and then a byte written, and synced
abbrev pub no_call : Option Story
no_call = Some (record { first = λ f. []; calls = [] })

abbrev pub byte_kept : Option Story
byte_kept = Some (record { first = λ f. []; calls = Sync 2 true ∷ Write 2 0 (7 ∷ []) true ∷ [] })

-- a mark that names one, behind so many calls
abbrev pub one_behind : ℕ → List Named
one_behind calls = record { number = 1; calls = calls } ∷ []

-- ---- entries

abbrev pub made : Step Whole
made = step whole root (opened root (draw_of 0)).state 1 (codes "CREATE TABLE t (id INT, v INT, PRIMARY KEY (id))") (draw_of 1)

abbrev pub put : Step Whole
put = step whole root made.state 1 (codes "INSERT INTO t VALUES (1, 10)") (draw_of 2)

abbrev pub next_log : List (Entry Whole)
next_log = LogStart 1700000003 1 ∷ []

-- the beginning of the log, the table, the row
abbrev pub three_entries : List (Entry Whole)
three_entries = LogStart 1700000000 1 ∷ (made.committed ++ put.committed)

abbrev pub as_kept : List (Entry Whole) → List (Entry Item)
as_kept es = map kept_entry es

-- ---- files

-- a journal with these records, and a closed gate behind them
abbrev pub journal_with : List Record → List ℕ
journal_with rs = flat_map (λ (r : Record). 1 ∷ (number_bytes 4 (length (body_of r)) ++ body_of r)) rs ++ 0 ∷ []

-- an image with the table, and one in which the row is logged and its record staged behind a closed gate
abbrev pub first_log_of : List (Entry Whole) → List ℕ
first_log_of es = log (as_kept es) 0 nowhere

abbrev pub image_with_table : Image
image_with_table = image_of [] [] source_with_table (first_log_of (take 2 three_entries))

abbrev pub image_staged : Image
image_staged = image_of [] [] source_staged (first_log_of three_entries)

-- what the store has with the table
abbrev pub stored_with_table : Stored
stored_with_table = stored_in (source_at (with_rows []) 1 206) image_with_table
