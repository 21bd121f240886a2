-- How a session's statements are logged: the variable binlog_format.
use Rattle.std.specs.Prelude.{ℕ, Bool, true, false, not, ◌&&◌, if◌then◌else◌, List, codes, map, [], ◌∷◌, Option, Some, None, Result, Ok, Err}
use Rattle.std.specs.Char.{to_ascii_lowercase}
use Rattle.std.specs.Option.{option_map_or}
use Rattle.std.specs.Str.{bytes_eq}
use Rattle.val_types.specs.declared.value.Value.{Value}
use Rattle.val_types.specs.declared.value.Value.TheVariants.{Null, Int, Text}
use Rattle.proc_model.specs.sql_reach.Reasons.{Reason}
use Rattle.session_model.specs.declared.format.Format.{Format}
use Rattle.session_model.specs.declared.format.Format.TheVariants.{Statement, Mixed, Row}

-- that of a new session
abbrev pub first_format : Format
first_format = Mixed

-- whether there is a reason for which a statement is unsafe to log by its text
abbrev pub is_unsafe : List Reason → Bool
is_unsafe [] = false
is_unsafe (r ∷ rs) = true

-- whether a statement is logged by the rows that it changed, and not by its text
abbrev pub logs_rows : Format → List Reason → Bool
logs_rows Statement rs = false
logs_rows Mixed rs = is_unsafe rs
logs_rows Row rs = true

-- whether it is warned, 1592: it is logged by its text, though that is unsafe
abbrev pub warns : Format → List Reason → Bool
warns format rs = not (logs_rows format rs) && is_unsafe rs

-- in upper and lower case alike
abbrev pub is_word : List ℕ → List ℕ → Bool
is_word word text = bytes_eq (map to_ascii_lowercase text) (map to_ascii_lowercase word)

-- the format that a text names
abbrev pub format_named : List ℕ → Option Format
format_named text =
    if is_word (codes "STATEMENT") text then Some Statement
    else if is_word (codes "MIXED") text then Some Mixed
    else if is_word (codes "ROW") text then Some Row
    else None

-- the format that a value sets, else 1231
abbrev pub format_for : Value → Result Format ℕ
format_for Null = Err 1231
format_for (Int n) = Err 1231
format_for (Text t) = option_map_or Ok (format_named t) (Err 1231)

-- what refuses it: 1231, and then 30006 in an open transaction
abbrev pub format_refusal : (is_open : Bool) → Result Format ℕ → Option ℕ
format_refusal is_open (Err code) = Some code
format_refusal is_open (Ok format) = if is_open then Some 30006 else None
