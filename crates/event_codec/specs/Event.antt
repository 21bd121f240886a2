-- Events as plain data, apart from the bytes that they were read from.
use Rattle.std.specs.Prelude.{ℕ, Bool, List, Option}
use Rattle.val_types.specs.declared.value.Value.{Value}
use Rattle.val_types.specs.declared.value.Value.TheVariants.{Null, Int, Text}
use Rattle.event_codec.specs.declared.event.Event.{Event}
use Rattle.event_codec.specs.declared.event.Event.TheVariants as event
use Rattle.event_codec.specs.declared.event.IntVarKind.{IntVarKind}
use Rattle.event_codec.specs.declared.event.MapView.{MapView}
use Rattle.event_codec.specs.declared.event.QueryView.{QueryView}
use Rattle.event_codec.specs.declared.event.RowsKind.{RowsKind}
use Rattle.event_codec.specs.declared.event.RowsView.{RowsView}
use Rattle.event_codec.specs.declared.event.Step.{Step}
use Rattle.event_codec.specs.declared.event.VarValue.{VarValue}
use Rattle.event_codec.specs.declared.event.VarValue.TheVariants as value

-- a statement: the thread that ran it, its session's increment and offset where they are not 1 and 1, and its text
pub record Query : Type 0 where
  pub thread : ℕ
  pub step : Option Step
  pub text : List ℕ

-- a table's map: its id, its name, a type for each column, the greatest length of each text in two bytes, and a bit for each
-- column that may be NULL
pub record Map : Type 0 where
  pub id : ℕ
  pub name : List ℕ
  pub kinds : List ℕ
  pub metadata : List ℕ
  pub nulls : List ℕ

-- rows of the map with an id: what they were, whether they are the last of their statement, how many columns each has, and
-- their bytes
pub record Rows : Type 0 where
  pub kind : RowsKind
  pub id : ℕ
  pub ends : Bool
  pub columns : ℕ
  pub rows : List ℕ

-- what an event says
pub data Body : Type 0 where
  query : Query → Body
  rotate : (next : ℕ) → Body
  int_var : (kind : IntVarKind) (number : ℕ) → Body
  rand : (first second : ℕ) → Body
  user_var : (name : List ℕ) (content : Value) → Body
  format_description : (version : List ℕ) → Body
  xid : (number : ℕ) → Body
  table_map : Map → Body
  rows : Rows → Body

-- an event: its timestamp, how many bytes it has with its header, and what it says
pub record Seen : Type 0 where
  pub stamp : ℕ
  pub size : ℕ
  pub body : Body

-- ---- views of the code as plain data

abbrev pub query_of : QueryView → Query
query_of v = record { thread = v.thread; step = v.step; text = v.text.now }

abbrev pub value_of : VarValue → Value
value_of value.Null = Null
value_of (value.Int n) = Int n
value_of (value.Text text) = Text text.now

abbrev pub map_of : MapView → Map
map_of m = record { id = m.id; name = m.name.now; kinds = m.kinds.now; metadata = m.metadata.now; nulls = m.nulls.now }

abbrev pub rows_of : RowsView → Rows
rows_of r = record { kind = r.kind; id = r.id; ends = r.ends; columns = r.columns; rows = r.rows.now }

-- what an event of the code says
abbrev pub body_of : Event → Body
body_of (event.Query v) = query (query_of v)
body_of (event.Rotate stamp size next) = rotate next
body_of (event.IntVar stamp size kind number) = int_var kind number
body_of (event.Rand stamp size first second) = rand first second
body_of (event.UserVar v) = user_var v.name.now (value_of v.value)
body_of (event.FormatDescription stamp size version) = format_description version.now
body_of (event.Xid stamp size number) = xid number
body_of (event.TableMap m) = table_map (map_of m)
body_of (event.Rows r) = rows (rows_of r)

-- its timestamp
abbrev pub stamp_of : Event → ℕ
stamp_of (event.Query v) = v.stamp
stamp_of (event.Rotate stamp size next) = stamp
stamp_of (event.IntVar stamp size kind number) = stamp
stamp_of (event.Rand stamp size first second) = stamp
stamp_of (event.UserVar v) = v.stamp
stamp_of (event.FormatDescription stamp size version) = stamp
stamp_of (event.Xid stamp size number) = stamp
stamp_of (event.TableMap m) = m.stamp
stamp_of (event.Rows r) = r.stamp

-- how many bytes it has
abbrev pub size_of : Event → ℕ
size_of (event.Query v) = v.length
size_of (event.Rotate stamp size next) = size
size_of (event.IntVar stamp size kind number) = size
size_of (event.Rand stamp size first second) = size
size_of (event.UserVar v) = v.length
size_of (event.FormatDescription stamp size version) = size
size_of (event.Xid stamp size number) = size
size_of (event.TableMap m) = m.length
size_of (event.Rows r) = r.length

abbrev pub seen : Event → Seen
seen e = record { stamp = stamp_of e; size = size_of e; body = body_of e }
