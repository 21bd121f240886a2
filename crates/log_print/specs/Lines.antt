-- The line that shows an event of a log, a definition a type. The values of rows need the map of their table.
use Rattle.std.specs.Prelude.{ℕ, Bool, true, false, List, [], ◌++◌, flat_map, codes, Option, Some, None}
use Rattle.std.specs.Option.{option_map}
use Rattle.std.specs.Fmt.{decimal}
use denote.Ref.{Bor}
use Rattle.val_types.specs.declared.value.Value.{Value}
use Rattle.val_types.specs.declared.change.Change.{Change}
use Rattle.val_types.specs.declared.change.Change.TheVariants.{Insert, Update as Replace, Delete as Remove}
use Rattle.val_types.specs.Text.{text_of, row_text_of}
use Rattle.event_codec.specs.declared.event.IntVarKind.{IntVarKind}
use Rattle.event_codec.specs.declared.event.IntVarKind.TheVariants.{LastInsertId, InsertId}
use Rattle.event_codec.specs.declared.event.MapView.{MapView}
use Rattle.event_codec.specs.declared.event.RowsKind.{RowsKind}
use Rattle.event_codec.specs.declared.event.RowsKind.TheVariants.{Write, Update, Delete}
use Rattle.event_codec.specs.declared.event.Step.{Step}
use Rattle.event_codec.specs.Event.{Body, query, rotate, int_var, rand, user_var, format_description, xid, table_map, rows, Query, Map, Rows, Seen, map_of}
use Rattle.event_codec.specs.LogName.{log_name}
use Rattle.log_model.specs.Images.{changes_of}
use Rattle.log_print.specs.Escapes.{escapes, before_zero}

-- ---- statements and what they need of their session

-- increment and offset, where they are not 1 and 1
abbrev pub step_words : Option Step → List ℕ
step_words None = []
step_words (Some step) = codes " inc=" ++ decimal step.increment ++ codes " off=" ++ decimal step.offset

-- thread, timestamp, increment and offset, text
abbrev pub query_words : (stamp : ℕ) → Query → List ℕ
query_words stamp q =
    codes "QUERY thread=" ++ decimal q.thread ++ codes " time=" ++ decimal stamp ++ step_words q.step ++ codes " " ++ escapes q.text

abbrev pub int_var_name : IntVarKind → List ℕ
int_var_name LastInsertId = codes "INTVAR LAST_INSERT_ID "
int_var_name InsertId = codes "INTVAR INSERT_ID "

-- ---- rows

abbrev pub rows_name : RowsKind → List ℕ
rows_name Write = codes "WRITE_ROWS "
rows_name Update = codes "UPDATE_ROWS "
rows_name Delete = codes "DELETE_ROWS "

-- rows that are the last of their statement
abbrev pub end_word : Bool → List ℕ
end_word true = codes " end"
end_word false = []

-- a row's values between parentheses
abbrev pub row_words : List Value → List ℕ
row_words row = codes "(" ++ row_text_of row ++ codes ")"

-- a row that was put in or taken out; or as it was before and after
abbrev pub change_words : Change → List ℕ
change_words (Insert name row) = codes " " ++ row_words row
change_words (Replace name before after) = codes " " ++ row_words before ++ codes "->" ++ row_words after
change_words (Remove name row) = codes " " ++ row_words row

-- the rows by their map; without one, none shows
abbrev pub rows_shown : Option Map → Rows → List ℕ
rows_shown None r = []
rows_shown (Some m) r = flat_map change_words (changes_of m r)

abbrev pub rows_words : Option Map → Rows → List ℕ
rows_words m r = rows_name r.kind ++ decimal r.id ++ end_word r.ends ++ rows_shown m r

-- ---- a line

-- what an event with a timestamp says, by its type
abbrev pub words_of : Option Map → (stamp : ℕ) → Body → List ℕ
words_of m stamp (query q) = query_words stamp q
words_of m stamp (rotate next) = codes "ROTATE " ++ log_name next
words_of m stamp (int_var kind number) = int_var_name kind ++ decimal number
words_of m stamp (rand first second) = codes "RAND " ++ decimal first ++ codes " " ++ decimal second
words_of m stamp (user_var name content) = codes "USER_VAR " ++ escapes name ++ codes " " ++ text_of content
words_of m stamp (format_description version) = codes "FORMAT_DESCRIPTION " ++ escapes (before_zero version)
words_of m stamp (xid number) = codes "XID " ++ decimal number
words_of m stamp (table_map t) = codes "TABLE_MAP " ++ decimal t.id ++ codes " " ++ escapes t.name
words_of m stamp (rows r) = rows_words m r

-- the line of an event at a place, where rows have this map
abbrev pub line_of : Option Map → (pos : ℕ) → Seen → List ℕ
line_of m pos e = decimal pos ++ codes " " ++ words_of m e.stamp e.body

-- the map that the code hands in
abbrev pub map_seen : Option (Bor MapView) → Option Map
map_seen = option_map (λ m. map_of m.now)
