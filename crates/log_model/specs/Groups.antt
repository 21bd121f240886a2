-- Groups of events: FORMAT_DESCRIPTION at place 4; ROTATE; a QUERY that is not BEGIN; or BEGIN, one or more items and XID.
use Rattle.std.specs.Prelude.{ℕ, ◌+◌, ◌==◌, nat_lt, Bool, true, false, if◌then◌else◌, List, [], ◌∷◌, ◌++◌, codes, Option, Some, None}
use Rattle.std.specs.Str.{bytes_eq}
use Rattle.event_codec.specs.declared.event.IntVarKind.{IntVarKind}
use Rattle.event_codec.specs.declared.event.IntVarKind.TheVariants.{LastInsertId, InsertId}
use Rattle.event_codec.specs.Event.{Body, query, rotate, int_var, rand, user_var, format_description, xid, table_map, rows, Query, Map, Rows}
use Rattle.event_codec.specs.Reading.{Stop, short, damaged, foreign}
use Rattle.log_model.specs.Events.{Place, Placed, events_from, stop_from}
use Rattle.log_model.specs.Images.{are_rows}

-- ---- where one stands in a transaction

-- behind BEGIN; behind an item; behind variables of a text, of which so many kinds are passed (LAST_INSERT_ID, INSERT_ID,
-- then seeds or user variables); behind maps; behind rows of these maps that are not the last of their item
pub data Stage : Type 0 where
  first : Stage
  between : Stage
  vars : (passed : ℕ) → Stage
  maps : List Map → Stage
  in_rows : List Map → Stage

-- what an event does there: it goes on, ends the transaction, or is not allowed
pub data Move : Type 0 where
  go : Stage → Move
  close : (number : ℕ) → Move
  refuse : Move

-- the map with an id
abbrev pub find : ℕ → List Map → Option Map
find id [] = None
find id (m ∷ ms) = if m.id == id then Some m else find id ms

abbrev pub is_free : Option Map → Bool
is_free None = true
is_free (Some m) = false

-- a variable of a text, where none of its kind nor of a later one stood before it
abbrev pub int_var_move : ℕ → IntVarKind → Move
int_var_move passed LastInsertId = if nat_lt passed 1 then go (vars 1) else refuse
int_var_move passed InsertId = if nat_lt passed 2 then go (vars 2) else refuse

-- a text item: LAST_INSERT_ID, INSERT_ID, seeds, each at most once; user variables; QUERY
abbrev pub text_move : (passed : ℕ) → Body → Move
text_move passed (query q) = go between
text_move passed (rotate next) = refuse
text_move passed (int_var kind n) = int_var_move passed kind
text_move passed (rand a b) = if nat_lt passed 3 then go (vars 3) else refuse
text_move passed (user_var name content) = go (vars 3)
text_move passed (format_description version) = refuse
text_move passed (xid n) = refuse
text_move passed (table_map m) = refuse
text_move passed (rows r) = refuse

-- an item begins
abbrev pub begin_move : Body → Move
begin_move (query q) = go between
begin_move (rotate next) = refuse
begin_move (int_var kind n) = int_var_move 0 kind
begin_move (rand a b) = go (vars 3)
begin_move (user_var name content) = go (vars 3)
begin_move (format_description version) = refuse
begin_move (xid n) = refuse
begin_move (table_map m) = go (maps (m ∷ []))
begin_move (rows r) = refuse

-- an item begins, or the transaction ends
abbrev pub between_move : Body → Move
between_move (query q) = go between
between_move (rotate next) = refuse
between_move (int_var kind n) = int_var_move 0 kind
between_move (rand a b) = go (vars 3)
between_move (user_var name content) = go (vars 3)
between_move (format_description version) = refuse
between_move (xid n) = close n
between_move (table_map m) = go (maps (m ∷ []))
between_move (rows r) = refuse

-- rows are of one of the maps, and the last ones end the item
abbrev pub rows_move : List Map → Rows → Option Map → Move
rows_move ms r None = refuse
rows_move ms r (Some m) =
    if are_rows m r then (if r.ends then go between else go (in_rows ms)) else refuse

-- behind maps, a map of another id, or rows
abbrev pub maps_move : List Map → Body → Move
maps_move ms (query q) = refuse
maps_move ms (rotate next) = refuse
maps_move ms (int_var kind n) = refuse
maps_move ms (rand a b) = refuse
maps_move ms (user_var name content) = refuse
maps_move ms (format_description version) = refuse
maps_move ms (xid n) = refuse
maps_move ms (table_map m) = if is_free (find m.id ms) then go (maps (ms ++ m ∷ [])) else refuse
maps_move ms (rows r) = rows_move ms r (find r.id ms)

-- behind rows, rows
abbrev pub in_rows_move : List Map → Body → Move
in_rows_move ms (query q) = refuse
in_rows_move ms (rotate next) = refuse
in_rows_move ms (int_var kind n) = refuse
in_rows_move ms (rand a b) = refuse
in_rows_move ms (user_var name content) = refuse
in_rows_move ms (format_description version) = refuse
in_rows_move ms (xid n) = refuse
in_rows_move ms (table_map m) = refuse
in_rows_move ms (rows r) = rows_move ms r (find r.id ms)

abbrev pub move : Stage → Body → Move
move first b = begin_move b
move between b = between_move b
move (vars passed) b = text_move passed b
move (maps ms) b = maps_move ms b
move (in_rows ms) b = in_rows_move ms b

-- ---- a transaction's events, one after the other

-- it ends with a number at a place, or it stops
pub data Scan : Type 0 where
  done : (number end : ℕ) → Scan
  stopped : Stop → Scan

abbrev pub end_of : Placed → ℕ
end_of e = e.pos + e.event.size

abbrev pub scanned : Placed → (Stage → Scan) → Move → Scan
scanned e next (go s) = next s
scanned e next (close n) = done n (end_of e)
scanned e next refuse = stopped (damaged e.pos)

-- an event that is not allowed is damaged at its place
abbrev pub scan : Stage → List Placed → Stop → Scan
scan s [] stop = stopped stop
scan s (e ∷ es) stop = scanned e (λ t. scan t es stop) (move s e.event.body)

abbrev pub is_xid : Body → Bool
is_xid (query q) = false
is_xid (rotate next) = false
is_xid (int_var kind n) = false
is_xid (rand a b) = false
is_xid (user_var name content) = false
is_xid (format_description version) = false
is_xid (xid n) = true
is_xid (table_map m) = false
is_xid (rows r) = false

-- the events before the XID
abbrev pub until_xid : List Placed → List Placed
until_xid [] = []
until_xid (e ∷ es) = if is_xid e.event.body then [] else e ∷ until_xid es

-- ---- groups

-- a QUERY with its timestamp and how many bytes it has
pub record Statement : Type 0 where
  pub stamp : ℕ
  pub size : ℕ
  pub query : Query

-- a log begins; the log with a number follows; a CREATE, DROP or TRUNCATE; a transaction: its BEGIN, the events of its items,
-- and its number
pub data Form : Type 0 where
  start : Form
  next_log : (next : ℕ) → Form
  ddl : Statement → Form
  txn : (opening : Statement) (items : List Placed) (number : ℕ) → Form

-- a group and its bounds
pub record Group : Type 0 where
  pub form : Form
  pub begin : ℕ
  pub end : ℕ

-- what stands at a place: a group; a front of one; or what no group has there
pub data Next : Type 0 where
  group : Group → Next
  not_whole : Next
  damaged_at : (pos : ℕ) → Next
  foreign_at : (pos kind : ℕ) → Next

abbrev pub stop_next : Stop → Next
stop_next (short need) = not_whole
stop_next (damaged p) = damaged_at p
stop_next (foreign p k) = foreign_at p k

-- a group of one event
abbrev pub alone : Placed → Form → Next
alone e form = group (record { form = form; begin = e.pos; end = end_of e })

abbrev pub statement_of : Placed → Query → Statement
statement_of e q = record { stamp = e.event.stamp; size = e.event.size; query = q }

-- a transaction, by how its events behind BEGIN go on
abbrev pub txn_of : Placed → Query → List Placed → Scan → Next
txn_of e q es (done n end) = group (record { form = txn (statement_of e q) (until_xid es) n; begin = e.pos; end = end })
txn_of e q es (stopped stop) = stop_next stop

abbrev pub begun_by : Placed → List Placed → Stop → Body → Next
begun_by e es stop (query q) =
    if bytes_eq q.text (codes "BEGIN") then txn_of e q es (scan first es stop) else alone e (ddl (statement_of e q))
begun_by e es stop (rotate next) = alone e (next_log next)
begun_by e es stop (int_var kind n) = damaged_at e.pos
begun_by e es stop (rand a b) = damaged_at e.pos
begun_by e es stop (user_var name content) = damaged_at e.pos
begun_by e es stop (format_description version) = if e.pos == 4 then alone e start else damaged_at e.pos
begun_by e es stop (xid n) = damaged_at e.pos
begun_by e es stop (table_map m) = damaged_at e.pos
begun_by e es stop (rows r) = damaged_at e.pos

-- by the whole events and why no other follows them
abbrev pub group_of : List Placed → Stop → Next
group_of [] stop = stop_next stop
group_of (e ∷ es) stop = begun_by e es stop e.event.body

-- the group at the front of some bytes of a log
unfoldable pub group_at : Place → Next
group_at p = group_of (events_from p) (stop_from p)
