-- The lines that show a log: one an event of each of its groups.
use Rattle.std.specs.Prelude.{ℕ, if◌then◌else◌, List, [], ◌∷◌, ◌++◌, flat_map, Option, None}
use Rattle.event_codec.specs.Event.{Body, table_map, rows, Map}
use Rattle.log_group_laws.specs.log_model.Events.{Placed, events_from}
use Rattle.log_group_laws.specs.log_model.Groups.{find}
use Rattle.log_print.specs.Lines.{line_of}
use Rattle.log_file_model.specs.Walk.{Piece, grouped}

-- the map that rows are of, among those that stand before them in their item
abbrev pub map_for : List Map → Body → Option Map
map_for ms (rows r) = find r.id ms
map_for ms b = None

-- the maps of the item under way, behind an event
abbrev pub maps_behind : List Map → Body → List Map
maps_behind ms (table_map m) = ms ++ m ∷ []
maps_behind ms (rows r) = if r.ends then [] else ms
maps_behind ms b = ms

-- the lines of events, each with its end
abbrev pub lines_from : List Map → List Placed → List ℕ
lines_from ms [] = []
lines_from ms (e ∷ es) = (line_of (map_for ms e.event.body) e.pos e.event ++ 0x0a ∷ []) ++ lines_from (maps_behind ms e.event.body) es

abbrev pub piece_lines : Piece → List ℕ
piece_lines p = lines_from [] (events_from (record { bytes = p.bytes; pos = p.group.begin }))

-- those of a log, up to its end or to what is damaged or not known
unfoldable pub log_lines : List ℕ → List ℕ
log_lines bytes = flat_map piece_lines (grouped bytes).pieces
