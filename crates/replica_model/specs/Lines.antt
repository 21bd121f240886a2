-- The lines that show FETCH and APPLY, and the replay of a log.
use Rattle.std.specs.Prelude.{ℕ, List, [], ◌∷◌, ◌++◌, codes, Option, Some, None}
use Rattle.std.specs.Fmt.{decimal}
use Rattle.val_types.specs.Text.{row_text_of}
use Rattle.answer_text.specs.Shown.{line}
use Rattle.answer_text.specs.Statuses.{table_text}
use Rattle.session_model.specs.log_model.Log.{LogPlace}
use Rattle.replica_model.specs.Applying.{Stop, differs, damaged, foreign, Going}
use Rattle.replica_model.specs.Replaying.{Replay}

-- how many bytes were fetched
abbrev pub fetched_line : ℕ → ℕ → List ℕ
fetched_line number count = line number (codes "fetched " ++ decimal count)

-- why no more was carried out: what differs with its place, the error's number, table and key; or a place, and the type of an event
-- that is not known
abbrev pub stop_words : Stop → List ℕ
stop_words (differs d) =
    codes " stopped differs " ++ decimal d.place ++ codes " " ++ decimal d.code ++ codes " " ++ table_text d.table ++ codes " ("
    ++ row_text_of d.key ++ codes ")"
stop_words (damaged pos) = codes " stopped damaged " ++ decimal pos
stop_words (foreign pos kind) = codes " stopped foreign " ++ decimal pos ++ codes " " ++ decimal kind

abbrev pub stop_if : Option Stop → List ℕ
stop_if None = codes ""
stop_if (Some stop) = stop_words stop

-- how many groups were carried out, and the log and the position behind them
abbrev pub applied_words : (count : ℕ) → LogPlace → List ℕ
applied_words count place = codes "applied " ++ decimal count ++ codes " " ++ decimal place.log ++ codes ":" ++ decimal place.pos

abbrev pub applied_line : ℕ → (count : ℕ) → LogPlace → Option Stop → List ℕ
applied_line number count place stop = line number (applied_words count place ++ stop_if stop)

-- the line of an APPLY
abbrev pub going_line : ℕ → Going → List ℕ
going_line number a = applied_line number a.count a.replica.place a.stop

-- the line of a replay, which is no command
abbrev pub replayed_line : Replay → List ℕ
replayed_line r = applied_words r.count r.place ++ 0x0a ∷ []
