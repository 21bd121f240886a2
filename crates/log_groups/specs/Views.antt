-- The code's views as plain data.
use Rattle.std.specs.Prelude.{◌≡◌, ◌==◌, ◌≤◌, if◌then◌else◌, ℕ, Bool, true, false, List, [], ◌∷◌, take, drop, Option, Some, None}
use Rattle.event_codec.specs.Event.{Body, query, rotate, int_var, rand, user_var, format_description, xid, table_map, rows, Map, seen, query_of}
use Rattle.event_codec.specs.declared.event.QueryView.{QueryView}
use Rattle.row_image.specs.log_model.Events.{Place, Placed, events_from}
use Rattle.row_image.specs.log_model.Groups.{Stage, first, between, vars, maps, in_rows, Move, go, close, refuse, Statement, Form, start, next_log, ddl, txn, Group, Next, group, not_whole, damaged_at, foreign_at, until_xid}
use Rattle.log_groups.specs.declared.items.Items.{Items}
use Rattle.log_groups.specs.declared.items.Part.{Part}
use Rattle.log_groups.specs.declared.stage.Stage as code_stage_type
use Rattle.log_groups.specs.declared.stage.Stage.TheVariants as code_stage
use Rattle.log_groups.specs.declared.stage.Move as code_move_type
use Rattle.log_groups.specs.declared.stage.Move.TheVariants as code_move
use Rattle.log_groups.specs.declared.group.Form as code_form_type
use Rattle.log_groups.specs.declared.group.Form.TheVariants as code_form
use Rattle.log_groups.specs.declared.group.Group as code_group_type
use Rattle.log_groups.specs.declared.group.Next as code_next_type
use Rattle.log_groups.specs.declared.group.Next.TheVariants as code_next

-- ---- a walk

abbrev pub place_of : Items → Place
place_of i = record { bytes = i.bytes.now; pos = i.pos }

-- the events that a walk has before it, up to the XID
abbrev pub parts : Items → List Placed
parts i = until_xid (events_from (place_of i))

abbrev pub part_of : Part → Placed
part_of p = record { pos = p.pos; event = seen p.event }

-- the first of them, and those behind it
abbrev pub walked : List Placed → Option Placed × List Placed
walked [] = (None, [])
walked (e ∷ es) = (Some e, es)

-- whether an event is the last of its item
abbrev pub ends_item : Body → Bool
ends_item (query q) = true
ends_item (rotate next) = false
ends_item (int_var kind n) = false
ends_item (rand a b) = false
ends_item (user_var name content) = false
ends_item (format_description version) = false
ends_item (xid n) = false
ends_item (table_map m) = false
ends_item (rows r) = r.ends

-- ---- maps among events

abbrev pub with_map : Body → List Map → List Map
with_map (query q) ms = ms
with_map (rotate next) ms = ms
with_map (int_var kind n) ms = ms
with_map (rand a b) ms = ms
with_map (user_var name content) ms = ms
with_map (format_description version) ms = ms
with_map (xid n) ms = ms
with_map (table_map m) ms = m ∷ ms
with_map (rows r) ms = ms

abbrev pub maps_in : List Placed → List Map
maps_in [] = []
maps_in (e ∷ es) = with_map e.event.body (maps_in es)

-- the map of an event, if it has this id
abbrev pub map_with : ℕ → Body → Option Map
map_with id (query q) = None
map_with id (rotate next) = None
map_with id (int_var kind n) = None
map_with id (rand a b) = None
map_with id (user_var name content) = None
map_with id (format_description version) = None
map_with id (xid n) = None
map_with id (table_map m) = if m.id == id then Some m else None
map_with id (rows r) = None

-- ---- stages

abbrev pub stage_of : code_stage_type.Stage → Stage
stage_of code_stage.First = first
stage_of code_stage.Between = between
stage_of (code_stage.Vars passed) = vars passed
stage_of (code_stage.Maps items count) = maps (maps_in (take count (parts items)))
stage_of (code_stage.Rows items count) = in_rows (maps_in (take count (parts items)))

abbrev pub move_of : code_move_type.Move → Move
move_of (code_move.Go s) = go (stage_of s)
move_of (code_move.Close n) = close n
move_of code_move.Refuse = refuse

-- behind the maps of an item that may have more stand the events from here on, and there are not more of them than bytes before
abbrev pub StandsAt : code_stage_type.Stage → Place → Type 0
StandsAt code_stage.First here = Unit {0}
StandsAt code_stage.Between here = Unit {0}
StandsAt (code_stage.Vars passed) here = Unit {0}
StandsAt (code_stage.Maps items count) here = (drop count (parts items) ≡ until_xid (events_from here)) × (count ≤ here.pos)
StandsAt (code_stage.Rows items count) here = Unit {0}

abbrev pub StandsThen : code_move_type.Move → Place → Type 0
StandsThen (code_move.Go s) here = StandsAt s here
StandsThen (code_move.Close n) here = Unit {0}
StandsThen code_move.Refuse here = Unit {0}

-- if it goes on to maps, they are these
abbrev pub IsMaps : code_move_type.Move → Items → ℕ → Type 0
IsMaps (code_move.Go (code_stage.Maps items count)) these n = (items ≡ these) × (count ≡ n)
IsMaps (code_move.Go code_stage.First) these n = ⊥
IsMaps (code_move.Go code_stage.Between) these n = ⊥
IsMaps (code_move.Go (code_stage.Vars passed)) these n = ⊥
IsMaps (code_move.Go (code_stage.Rows items count)) these n = ⊥
IsMaps (code_move.Close number) these n = ⊥
IsMaps code_move.Refuse these n = Unit {0}

-- it does not go on to maps
abbrev pub IsNoMaps : code_move_type.Move → Type 0
IsNoMaps (code_move.Go (code_stage.Maps items count)) = ⊥
IsNoMaps (code_move.Go code_stage.First) = Unit {0}
IsNoMaps (code_move.Go code_stage.Between) = Unit {0}
IsNoMaps (code_move.Go (code_stage.Vars passed)) = Unit {0}
IsNoMaps (code_move.Go (code_stage.Rows items count)) = Unit {0}
IsNoMaps (code_move.Close number) = Unit {0}
IsNoMaps code_move.Refuse = Unit {0}

-- ---- groups

abbrev pub statement_seen : QueryView → Statement
statement_seen v = record { stamp = v.stamp; size = v.length; query = query_of v }

-- a QUERY at its place
abbrev pub query_at : ℕ → QueryView → Placed
query_at begin v = record { pos = begin; event = record { stamp = v.stamp; size = v.length; body = query (query_of v) } }

abbrev pub form_of : code_form_type.Form → Form
form_of code_form.Start = start
form_of (code_form.Rotate next) = next_log next
form_of (code_form.Ddl v) = ddl (statement_seen v)
form_of (code_form.Txn v items n) = txn (statement_seen v) (parts items) n

abbrev pub group_seen : code_group_type.Group → Group
group_seen g = record { form = form_of g.form; begin = g.begin; end = g.end }

abbrev pub next_of : code_next_type.Next → Next
next_of (code_next.Group g) = group (group_seen g)
next_of code_next.NotWhole = not_whole
next_of (code_next.Damaged p) = damaged_at p
next_of (code_next.Foreign p k) = foreign_at p k
