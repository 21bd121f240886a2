-- What stands at the front of some bytes of a log. A header has 19 bytes: timestamp 4, type 1, server id 4, length of the event
-- 4, position of the next event 4, flags 2; the server id and the flags are not looked at.
use Rattle.std.specs.Prelude.{ℕ, Bool, ◌≤◌, ◌+◌, ◌==◌, ◌&&◌, not, nat_lt, nat_le, if◌then◌else◌, List, length, slice_index, slice_range, Result, Ok, Err}
use Rattle.byte_fields.specs.Field.{number_at}
use Rattle.event_codec.specs.declared.event.Event.{Event}
use Rattle.event_codec.specs.declared.event.RowsKind.TheVariants.{Write, Update, Delete}
use Rattle.event_codec.specs.declared.fault.Fault.{Fault}
use Rattle.event_codec.specs.declared.fault.Fault.TheVariants.{Damaged, Foreign}
use Rattle.event_codec.specs.declared.reading.Read.{Read}
use Rattle.event_codec.specs.declared.reading.Read.TheVariants as read
use Rattle.event_codec.specs.Event.{Body, Seen, seen}
use Rattle.event_codec.specs.Bodies.{query_body, rotate_body, int_var_body, rand_body, user_var_body, format_description_body, xid_body, table_map_body, rows_body}

-- why no event stands there: fewer bytes than so many; outside its form; or not known, of this type
pub data Stop : Type 0 where
  short : (need : ℕ) → Stop
  damaged : (pos : ℕ) → Stop
  foreign : (pos kind : ℕ) → Stop

-- an event, or why there is none
pub data Reading : Type 0 where
  event : Seen → Reading
  none : Stop → Reading

-- an answer of the code as plain data
abbrev pub reading_of : Read → Reading
reading_of (read.Event e) = event (seen e)
reading_of (read.Short need) = none (short need)
reading_of (read.Damaged pos) = none (damaged pos)
reading_of (read.Foreign pos kind) = none (foreign pos kind)

abbrev pub event_seen : Result Event Fault → Result Seen Fault
event_seen (Ok e) = Ok (seen e)
event_seen (Err fault) = Err fault

-- what a body says, by its type; another type is foreign
abbrev pub body_at : ℕ → List ℕ → Result Body Fault
body_at kind body =
    if kind == 2 then query_body body
    else if kind == 4 then rotate_body body
    else if kind == 5 then int_var_body body
    else if kind == 13 then rand_body body
    else if kind == 14 then user_var_body body
    else if kind == 15 then format_description_body body
    else if kind == 16 then xid_body body
    else if kind == 19 then table_map_body body
    else if kind == 30 then rows_body Write body
    else if kind == 31 then rows_body Update body
    else if kind == 32 then rows_body Delete body
    else Err Foreign

-- with the timestamp and the length of its header
abbrev pub headed : ℕ → ℕ → Result Body Fault → Result Seen Fault
headed stamp size (Ok body) = Ok (record { stamp = stamp; size = size; body = body })
headed stamp size (Err fault) = Err fault

-- what a body was read as, at a place
abbrev pub read_as : ℕ → ℕ → Result Seen Fault → Reading
read_as pos kind (Ok e) = event e
read_as pos kind (Err Damaged) = none (damaged pos)
read_as pos kind (Err Foreign) = none (foreign pos kind)

-- a length with the header in it, and a next position that is where the event ends, within a log
abbrev pub has_sound_header : List ℕ → ℕ → Bool
has_sound_header bytes pos =
    nat_le 19 (number_at 9 4 bytes) && number_at 13 4 bytes == pos + number_at 9 4 bytes
    && nat_le (number_at 13 4 bytes) 1200000000

-- what the bytes from a place of a log on begin with
unfoldable pub reading : List ℕ → ℕ → Reading
reading bytes pos =
    if nat_lt (length bytes) 19 then none (short 19)
    else if not (has_sound_header bytes pos) then none (damaged pos)
    else if nat_lt (length bytes) (number_at 9 4 bytes) then none (short (number_at 9 4 bytes))
    else read_as pos (slice_index bytes 4)
    (headed (number_at 0 4 bytes) (number_at 9 4 bytes)
    (body_at (slice_index bytes 4) (slice_range bytes 19 (number_at 9 4 bytes))))

-- an event lies within its bytes, and within a log
abbrev pub Within : List ℕ → ℕ → Reading → Type 0
Within bytes pos (event e) = (19 ≤ e.size) × (e.size ≤ length bytes) × (pos + e.size ≤ 1200000000)
Within bytes pos (none stop) = Unit {0}
