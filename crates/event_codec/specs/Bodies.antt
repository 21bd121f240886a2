-- What a body says, a definition a type. A body is read from left to right: where it is outside its form it is damaged, and
-- values that this log does not know are looked at last. A value that decides the form of what stands behind it is looked at
-- where it stands: a status variable's code, a column's type, the length of a rows event's extra bytes.
use Rattle.std.specs.Prelude.{ℕ, ◌%◌, ◌==◌, ◌||◌, ◌&&◌, not, nat_le, if◌then◌else◌, Bool, true, List, [], ◌∷◌, length, codes, Option, Some, None, Result, Ok, Err}
use Rattle.std.specs.Str.{bytes_eq}
use Rattle.std.specs.Int.{w64, cast_signed}
use Rattle.val_types.specs.declared.value.Value.{Value}
use Rattle.val_types.specs.declared.value.Value.TheVariants.{Null, Int, Text}
use Rattle.byte_fields.specs.Field.{number_at}
use Rattle.event_codec.specs.declared.event.IntVarKind.{IntVarKind}
use Rattle.event_codec.specs.declared.event.IntVarKind.TheVariants.{LastInsertId, InsertId}
use Rattle.event_codec.specs.declared.event.RowsKind.{RowsKind}
use Rattle.event_codec.specs.declared.event.RowsKind.TheVariants.{Write, Update, Delete}
use Rattle.event_codec.specs.declared.event.Step.{Step}
use Rattle.event_codec.specs.declared.fault.Fault.{Fault}
use Rattle.event_codec.specs.declared.fault.Fault.TheVariants.{Damaged, Foreign}
use Rattle.event_codec.specs.Parts.{◌>>=◌, formed, known, number, part, text, lenenc}
use Rattle.event_codec.specs.Bitmap.{present}
use Rattle.event_codec.specs.Columns.{columns_at}
use Rattle.event_codec.specs.LogName.{log_number}
use Rattle.event_codec.specs.Event.{Body, query, rotate, int_var, rand, user_var, format_description, xid, table_map, rows}

-- the one schema of this log
abbrev pub is_schema : List ℕ → Bool
is_schema name = bytes_eq name (codes "db")

-- ---- QUERY

-- behind a step nothing more stands; the same code again is damaged, another one is foreign
abbrev pub only : Step → List ℕ → Result (Option Step) Fault
only step [] = Ok (Some step)
only step (code ∷ more) = if code == 3 then Err Damaged else Err Foreign

-- increment 2 and offset 2, each at least 1
unfoldable pub step_at : List ℕ → Result (Option Step) Fault
step_at bytes = do
  increment ← number 2 bytes
  offset ← number 2 increment.1
  formed (not (increment.0 == 0) && not (offset.0 == 0)) (only (record { increment = increment.0; offset = offset.0 }) offset.1)

-- status variables: none, or code 3 and a step; another code is foreign
abbrev pub status_of : List ℕ → Result (Option Step) Fault
status_of [] = Ok None
status_of (code ∷ values) = if code == 3 then step_at values else Err Foreign

-- thread 4, execution time 4, length of the schema 1, error code 2, length of the status variables 2; the status variables, the
-- schema, a 0 and the text. Another schema or error code is foreign; the time is not looked at
unfoldable pub query_body : List ℕ → Result Body Fault
query_body body = do
  thread ← number 4 body
  time ← number 4 thread.1
  schema_length ← number 1 time.1
  error ← number 2 schema_length.1
  status_length ← number 2 error.1
  status ← part status_length.0 status_length.1
  step ← status_of status.0
  schema ← part schema_length.0 status.1
  zero ← number 1 schema.1
  formed (zero.0 == 0)
      (known (error.0 == 0 && is_schema schema.0)
      (Ok (query (record { thread = thread.0; step = step; text = zero.1 }))))

-- ---- ROTATE

-- position 8 and the name of the next log; another position than 4 and another name are foreign
unfoldable pub rotate_body : List ℕ → Result Body Fault
rotate_body body = do
  place ← number 8 body
  next ← known (place.0 == 4) (log_number place.1)
  Ok (rotate next)

-- ---- INTVAR and RAND

-- 1 and 2 are the two kinds
abbrev pub int_var_kind : ℕ → Result IntVarKind Fault
int_var_kind kind = if kind == 1 then Ok LastInsertId else if kind == 2 then Ok InsertId else Err Damaged

-- kind 1 and value 8, where one above the greatest BIGINT is foreign
unfoldable pub int_var_body : List ℕ → Result Body Fault
int_var_body body = do
  code ← number 1 body
  value ← number 8 code.1
  kind ← int_var_kind code.0
  formed (length value.1 == 0) (known (nat_le value.0 9223372036854775807) (Ok (int_var kind value.0)))

-- two seeds of 8, each taken modulo 1073741823
unfoldable pub rand_body : List ℕ → Result Body Fault
rand_body body = do
  first ← number 8 body
  second ← number 8 first.1
  formed (length second.1 == 0) (Ok (rand (first.0 % 1073741823) (second.0 % 1073741823)))

-- ---- USER_VAR

-- a value by its type: 0 a text, 2 an integer; another type is foreign
abbrev pub typed : ℕ → List ℕ → Result Value Fault
typed kind bytes =
    if kind == 0 then Ok (Text bytes)
    else if kind == 2 then Ok (Int (cast_signed w64 (number_at 0 8 bytes)))
    else Err Foreign

-- type 1, character set 4, length 4, which is 8 for an integer, the value, flags 1; another character set than 63 and other
-- flags than 0 are foreign
unfoldable pub value_at : List ℕ → Result Value Fault
value_at bytes = do
  kind ← number 1 bytes
  charset ← number 4 kind.1
  count ← number 4 charset.1
  value ← part count.0 count.1
  flags ← number 1 value.1
  formed (length flags.1 == 0 && (not (kind.0 == 2) || count.0 == 8))
      (known (charset.0 == 63 && flags.0 == 0) (typed kind.0 value.0))

-- where 1 stands the value is NULL and nothing follows, where 0 stands it follows
abbrev pub var_value : ℕ → List ℕ → Result Value Fault
var_value null bytes =
    if null == 1 then formed (length bytes == 0) (Ok Null) else if null == 0 then value_at bytes else Err Damaged

-- length of the name 4, the name, whether the value is NULL 1, the value
unfoldable pub user_var_body : List ℕ → Result Body Fault
user_var_body body = do
  count ← number 4 body
  name ← part count.0 count.1
  null ← number 1 name.1
  value ← var_value null.0 null.1
  Ok (user_var name.0 value)

-- ---- FORMAT_DESCRIPTION and XID

-- how long the fixed part behind the header is, for each type from 1 on
abbrev pub post_header_lengths : List ℕ
post_header_lengths =
    0x38 ∷ 0x0d ∷ 0x00 ∷ 0x08 ∷ 0x00 ∷ 0x12 ∷ 0x00 ∷ 0x04 ∷ 0x04 ∷ 0x04 ∷ 0x04 ∷ 0x12 ∷ 0x00 ∷ 0x00 ∷ 0x5f ∷ 0x00
    ∷ 0x04 ∷ 0x1a ∷ 0x08 ∷ 0x00 ∷ 0x00 ∷ 0x00 ∷ 0x08 ∷ 0x08 ∷ 0x08 ∷ 0x02 ∷ 0x00 ∷ 0x00 ∷ 0x00 ∷ 0x0a ∷ 0x0a ∷ 0x0a
    ∷ 0x2a ∷ 0x2a ∷ 0x00 ∷ 0x12 ∷ 0x34 ∷ 0x00 ∷ []

-- version of the log 2, version of the server 50, time of creation 4, length of a header 1, the 38 lengths, checksum algorithm 1,
-- and 4 more; a log of another version, header, table or algorithm is foreign, and the rest is not looked at
unfoldable pub format_description_body : List ℕ → Result Body Fault
format_description_body body = do
  log ← number 2 body
  version ← part 50 log.1
  time ← number 4 version.1
  header ← number 1 time.1
  lengths ← part 38 header.1
  checksum ← number 1 lengths.1
  more ← number 4 checksum.1
  formed (length more.1 == 0)
      (known (log.0 == 4 && header.0 == 19 && bytes_eq lengths.0 post_header_lengths && checksum.0 == 0)
      (Ok (format_description version.0)))

-- the transaction's number 8
unfoldable pub xid_body : List ℕ → Result Body Fault
xid_body body = do
  n ← number 8 body
  formed (length n.1 == 0) (Ok (xid n.0))

-- ---- TABLE_MAP and rows

-- id 6, flags 2, which are not looked at, length of the schema 1, the schema, 0, length of the name 1, the name, 0, the columns;
-- another schema is foreign
unfoldable pub table_map_body : List ℕ → Result Body Fault
table_map_body body = do
  id ← number 6 body
  flags ← number 2 id.1
  schema ← text flags.1
  zero ← number 1 schema.1
  name ← text zero.1
  end ← number 1 name.1
  columns ← formed (zero.0 == 0 && end.0 == 0) (columns_at end.1)
  known (is_schema schema.0)
      (Ok (table_map (record { id = id.0; name = name.0; kinds = columns.kinds; metadata = columns.metadata; nulls = columns.nulls })))

-- the second bitmap, which UPDATE_ROWS alone has
abbrev pub present_after : RowsKind → ℕ → List ℕ → Result (Bool × List ℕ) Fault
present_after Write columns bytes = Ok (true, bytes)
present_after Update columns bytes = present columns bytes
present_after Delete columns bytes = Ok (true, bytes)

-- id 6, flags 2, of which the lowest bit ends the statement, length of extra bytes 2, which is 2 for none, else foreign, the
-- number of columns, a bit for each column that is present, then one or more rows; a column that is not present is foreign
unfoldable pub rows_body : RowsKind → List ℕ → Result Body Fault
rows_body kind body = do
  id ← number 6 body
  flags ← number 2 id.1
  extra ← number 2 flags.1
  columns ← known (extra.0 == 2) (lenenc extra.1)
  before ← present columns.0 columns.1
  after ← present_after kind columns.0 before.1
  formed (not (length after.1 == 0))
      (known (before.0 && after.0)
      (Ok (rows (record { kind = kind; id = id.0; ends = flags.0 % 2 == 1; columns = columns.0; rows = after.1 }))))
