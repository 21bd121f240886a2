-- The bytes of an event.
use Rattle.std.specs.Prelude.{◌≡◌, ◌<◌, ◌≤◌, ◌^◌, ℕ, ◌+◌, ◌*◌, true, if◌then◌else◌, List, [], ◌∷◌, ◌++◌, length, codes, Option, Some, None, IfSome}
use Rattle.std.specs.Int.{w64, cast_unsigned}
use Rattle.val_types.specs.declared.value.Value.{Value}
use Rattle.val_types.specs.declared.value.Value.TheVariants.{Null, Int, Text}
use Rattle.byte_fields.specs.Field.{number_bytes}
use Rattle.byte_fields.specs.LengthEncoded.{lenenc_bytes}
use Rattle.event_codec.specs.declared.event.Header.{Header}
use Rattle.event_codec.specs.declared.event.IntVarKind.{IntVarKind}
use Rattle.event_codec.specs.declared.event.IntVarKind.TheVariants.{LastInsertId, InsertId}
use Rattle.event_codec.specs.declared.event.RowsKind.{RowsKind}
use Rattle.event_codec.specs.declared.event.RowsKind.TheVariants.{Write, Update, Delete}
use Rattle.event_codec.specs.declared.event.Step.{Step}
use Rattle.event_codec.specs.Event.{Body, query, rotate, int_var, rand, user_var, format_description, xid, table_map, rows, Query, Map, Rows}
use Rattle.event_codec.specs.Bitmap.{bitmap_size, present_bits, clear_behind}
use Rattle.event_codec.specs.Columns.{are_known, texts}
use Rattle.event_codec.specs.LogName.{log_name}
use Rattle.event_codec.specs.Bodies.{post_header_lengths}

-- ---- the number of a type

abbrev pub rows_kind : RowsKind → ℕ
rows_kind Write = 30
rows_kind Update = 31
rows_kind Delete = 32

abbrev pub kind_of : Body → ℕ
kind_of (query q) = 2
kind_of (rotate next) = 4
kind_of (int_var kind number) = 5
kind_of (rand first second) = 13
kind_of (user_var name content) = 14
kind_of (format_description version) = 15
kind_of (xid number) = 16
kind_of (table_map m) = 19
kind_of (rows r) = rows_kind r.kind

-- ---- bodies

-- code 3, increment and offset
abbrev pub step_bytes : Option Step → List ℕ
step_bytes None = []
step_bytes (Some step) = 3 ∷ (number_bytes 2 step.increment ++ number_bytes 2 step.offset)

unfoldable pub query_bytes : Query → List ℕ
query_bytes q =
    number_bytes 4 q.thread ++ (number_bytes 4 0 ++ (2 ∷ (number_bytes 2 0 ++ (number_bytes 2 (length (step_bytes q.step))
    ++ (step_bytes q.step ++ (codes "db" ++ (0 ∷ q.text)))))))

unfoldable pub rotate_bytes : ℕ → List ℕ
rotate_bytes next = number_bytes 8 4 ++ log_name next

abbrev pub int_var_code : IntVarKind → ℕ
int_var_code LastInsertId = 1
int_var_code InsertId = 2

-- the type of a value, its character set, its length, itself, and no flags
abbrev pub typed_bytes : ℕ → List ℕ → List ℕ
typed_bytes kind bytes =
    kind ∷ (number_bytes 4 63 ++ (number_bytes 4 (length bytes) ++ (bytes ++ (0 ∷ []))))

-- 1 for NULL; 0 and a value of its type
abbrev pub value_bytes : Value → List ℕ
value_bytes Null = 1 ∷ []
value_bytes (Int n) = 0 ∷ typed_bytes 2 (number_bytes 8 (cast_unsigned w64 n))
value_bytes (Text bytes) = 0 ∷ typed_bytes 0 bytes

unfoldable pub user_var_bytes : List ℕ → Value → List ℕ
user_var_bytes name content = number_bytes 4 (length name) ++ (name ++ value_bytes content)

-- a time, and the layout of events
unfoldable pub layout_bytes : ℕ → List ℕ
layout_bytes stamp = number_bytes 4 stamp ++ (19 ∷ (post_header_lengths ++ (0 ∷ number_bytes 4 0)))

-- made at the time of its header
unfoldable pub format_description_bytes : ℕ → List ℕ → List ℕ
format_description_bytes stamp version = number_bytes 2 4 ++ (version ++ layout_bytes stamp)

-- a byte of length, and so many bytes
abbrev pub text_bytes : List ℕ → List ℕ
text_bytes text = length text ∷ text

-- how many columns there are, their types, metadata with its length, and bits
abbrev pub columns_bytes : Map → List ℕ
columns_bytes m = lenenc_bytes (length m.kinds) ++ (m.kinds ++ (lenenc_bytes (length m.metadata) ++ (m.metadata ++ m.nulls)))

-- the id, no flags, the schema and the name, each with a 0 behind it
unfoldable pub names_bytes : Map → List ℕ
names_bytes m = number_bytes 6 m.id ++ (number_bytes 2 0 ++ (text_bytes (codes "db") ++ (0 ∷ (text_bytes m.name ++ (0 ∷ [])))))

unfoldable pub table_map_bytes : Map → List ℕ
table_map_bytes m = names_bytes m ++ columns_bytes m

-- one bitmap, or two for UPDATE_ROWS
abbrev pub present_bytes : RowsKind → ℕ → List ℕ
present_bytes Write columns = present_bits (bitmap_size columns) columns
present_bytes Update columns = present_bits (bitmap_size columns) columns ++ present_bits (bitmap_size columns) columns
present_bytes Delete columns = present_bits (bitmap_size columns) columns

unfoldable pub rows_bytes : Rows → List ℕ
rows_bytes r =
    number_bytes 6 r.id ++ (number_bytes 2 (if r.ends then 1 else 0) ++ (number_bytes 2 2 ++ (lenenc_bytes r.columns
    ++ (present_bytes r.kind r.columns ++ r.rows))))

-- a body's bytes, written at a time
abbrev pub body_bytes : ℕ → Body → List ℕ
body_bytes stamp (query q) = query_bytes q
body_bytes stamp (rotate next) = rotate_bytes next
body_bytes stamp (int_var kind number) = int_var_code kind ∷ number_bytes 8 number
body_bytes stamp (rand first second) = number_bytes 8 first ++ number_bytes 8 second
body_bytes stamp (user_var name content) = user_var_bytes name content
body_bytes stamp (format_description version) = format_description_bytes stamp version
body_bytes stamp (xid number) = number_bytes 8 number
body_bytes stamp (table_map m) = table_map_bytes m
body_bytes stamp (rows r) = rows_bytes r

-- ---- events

-- how many bytes the event takes, at every time
unfoldable pub size : Body → ℕ
size body = 19 + length (body_bytes 0 body)

-- the header of an event of a type and a length, with no flags
unfoldable pub header_bytes : ℕ → ℕ → Header → List ℕ
header_bytes kind size h =
    number_bytes 4 h.stamp ++ (kind ∷ (number_bytes 4 h.server_id ++ (number_bytes 4 size
    ++ (number_bytes 4 (h.pos + size) ++ number_bytes 2 0))))

-- an event's bytes, with the header's timestamp, server id and place
unfoldable pub event_bytes : Body → Header → List ℕ
event_bytes body h = header_bytes (kind_of body) (size body) h ++ body_bytes h.stamp body

-- ---- what can be written

-- a map's id fits 6 bytes and its name a byte of length; its types are known, its metadata and bits are as long as they say, and
-- no bit behind the last column is set
pub record IsMap (m : Map) : Type 0 where
  pub id : m.id < 2 ^ 48
  pub name : length m.name < 256
  pub kinds : are_known m.kinds ≡ true
  pub metadata : length m.metadata ≡ 2 * texts m.kinds
  pub nulls : length m.nulls ≡ bitmap_size (length m.kinds)
  pub clear : clear_behind (length m.kinds) m.nulls ≡ true

-- the form of a body: a step counts from 1 on, a log's number has six digits, a LAST_INSERT_ID or INSERT_ID is a BIGINT, seeds
-- are below their modulus, a version has 50 bytes, and a rows event has rows
abbrev pub HasForm : Body → Type 0
HasForm (query q) = IfSome q.step (λ s. (1 ≤ s.increment) × (1 ≤ s.offset))
HasForm (rotate next) = next < 1000000
HasForm (int_var kind number) = number ≤ 9223372036854775807
HasForm (rand first second) = (first < 1073741823) × (second < 1073741823)
HasForm (user_var name content) = Unit {0}
HasForm (format_description version) = length version ≡ 50
HasForm (xid number) = Unit {0}
HasForm (table_map m) = IsMap m
HasForm (rows r) = (r.id < 2 ^ 48) × (1 ≤ length r.rows)

-- what can be written at a place: it has the form, and it ends at most at 1,200,000,000
pub record CanWrite (body : Body) (pos : ℕ) : Type 0 where
  pub form : HasForm body
  pub end : pos + size body ≤ 1200000000
