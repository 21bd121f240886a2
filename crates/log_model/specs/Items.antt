-- The events of an item: a statement's text behind the variables that it needs; or maps of tables and the rows of its changes.
use Rattle.std.specs.Prelude.{◌≡◌, ◌≤◌, ◌<◌, ◌^◌, ℕ, ◌+◌, ◌==◌, ◌&&◌, not, nat_le, nat_eq, Bool, true, false, if◌then◌else◌, List, [], ◌∷◌, ◌++◌, map, filter, flat_map, length, Option, Some, None}
use Rattle.std.specs.Option.{option_map}
use Rattle.std.specs.Cmp.Lexicographic.{pointwise}
use Rattle.std.specs.Int.{w64, cast_unsigned}
use Rattle.val_types.specs.declared.change.Change.{Change}
use Rattle.val_types.specs.declared.change.Change.TheVariants.{Insert, Update as Replace, Delete as Remove}
use Rattle.val_types.specs.Changes.{table_of}
use Rattle.val_types.specs.declared.definitions.ColType.{ColType}
use Rattle.val_types.specs.declared.definitions.ColType.TheVariants.{Int as IntType, BigInt, Varchar}
use Rattle.val_types.specs.declared.definitions.ColumnDef.{ColumnDef}
use Rattle.val_types.specs.declared.definitions.TableDef.{TableDef}
use Rattle.byte_fields.specs.Field.{number_bytes}
use Rattle.event_codec.specs.declared.event.RowsKind.{RowsKind}
use Rattle.event_codec.specs.declared.event.RowsKind.TheVariants.{Write, Update, Delete}
use Rattle.event_codec.specs.declared.event.Step.{Step}
use Rattle.event_codec.specs.Event.{Body, Query, Map, Rows}
use Rattle.event_codec.specs.Writing.{rows_kind}
use Rattle.log_entries.specs.declared.carried.Carried.{Carried}
use Rattle.log_entries.specs.declared.entries.Item.{Item}
use Rattle.log_model.specs.Groups.{find}
use Rattle.log_model.specs.Images.{bits_bytes, change_bytes, changes_of, IsChange}
use Rattle.log_model.specs.Spelling.{Spelled, text_item, rows_item, bodies_of, IsItem}
use Rattle.log_model.specs.Written.{Stamped, total}

-- ---- a text

-- increment and offset, where they are not 1 and 1
abbrev pub step_of : (increment offset : ℕ) → Option Step
step_of increment offset = if increment == 1 && offset == 1 then None else Some (record { increment = increment; offset = offset })

-- the QUERY of a text
abbrev pub query_of : List ℕ → Carried → Query
query_of text c = record { thread = c.connection; step = step_of c.inc c.off; text = text }

abbrev pub text_of : List ℕ → Carried → Spelled
text_of text c =
    text_item (option_map (cast_unsigned w64) c.last_id) (option_map (cast_unsigned w64) c.first) c.seeds c.vars (query_of text c)

-- ---- rows

abbrev pub same_name : List ℕ → List ℕ → Bool
same_name a b = pointwise nat_eq a b

-- names without those that stood before, in order
abbrev pub distinct : List (List ℕ) → List (List ℕ)
distinct [] = []
distinct (n ∷ ns) = n ∷ filter (λ m. not (same_name n m)) (distinct ns)

-- the tables of changes, in the order of their first changes
abbrev pub tables_of : List Change → List (List ℕ)
tables_of cs = distinct (map table_of cs)

-- the id of a table: its place among names, counted from a number
abbrev pub id_from : ℕ → List (List ℕ) → (name : List ℕ) → ℕ
id_from n [] name = n
id_from n (m ∷ ms) name = if same_name m name then n else id_from (n + 1) ms name

-- the columns of a table by its definition
abbrev pub columns_in : List TableDef → (name : List ℕ) → List ColumnDef
columns_in [] name = []
columns_in (d ∷ ds) name = if same_name d.name name then d.columns else columns_in ds name

abbrev pub kind_of : ColumnDef → ColType
kind_of c = c.kind

abbrev pub is_nullable : ColumnDef → Bool
is_nullable c = c.nullable

-- the number of a type, and its metadata
abbrev pub type_code : ColType → ℕ
type_code IntType = 3
type_code BigInt = 8
type_code (Varchar most) = 15

abbrev pub type_metadata : ColType → List ℕ
type_metadata IntType = []
type_metadata BigInt = []
type_metadata (Varchar most) = number_bytes 2 most

-- the map of a table with an id
abbrev pub map_of : (id : ℕ) (name : List ℕ) → List ColumnDef → Map
map_of id name columns = record {
  id = id;
  name = name;
  kinds = map type_code (map kind_of columns);
  metadata = flat_map type_metadata (map kind_of columns);
  nulls = bits_bytes (map is_nullable columns);
}

-- maps of tables with ids from a number on
abbrev pub maps_from : ℕ → List TableDef → (names : List (List ℕ)) → List Map
maps_from id defs [] = []
maps_from id defs (name ∷ names) = map_of id name (columns_in defs name) ∷ maps_from (id + 1) defs names

abbrev pub rows_kind_of : Change → RowsKind
rows_kind_of (Insert name row) = Write
rows_kind_of (Replace name before after) = Update
rows_kind_of (Remove name row) = Delete

-- neighbouring changes of one kind of one table, with the bytes of their rows
pub record Piece : Type 0 where
  pub kind : RowsKind
  pub name : List ℕ
  pub rows : List ℕ

module _ (defs : List TableDef) where
  abbrev pub bytes_in : Change → List ℕ
  bytes_in c = change_bytes (map kind_of (columns_in defs (table_of c))) c

  -- a piece of one change
  abbrev pub piece_of : Change → Piece
  piece_of c = record { kind = rows_kind_of c; name = table_of c; rows = bytes_in c }

  -- whether a change goes on with a piece: it is of its kind and table, and the rows stay within 8,192 bytes
  abbrev pub joins : Piece → Change → Bool
  joins p c =
      rows_kind p.kind == rows_kind (rows_kind_of c) && same_name p.name (table_of c)
      && nat_le (length p.rows + length (bytes_in c)) 8192

  abbrev pub with_change : Piece → Change → Piece
  with_change p c = record { kind = p.kind; name = p.name; rows = p.rows ++ bytes_in c }

  -- the pieces of changes behind a piece that may go on
  abbrev pub pieces_from : Piece → List Change → List Piece
  pieces_from p [] = p ∷ []
  pieces_from p (c ∷ cs) = if joins p c then pieces_from (with_change p c) cs else p ∷ pieces_from (piece_of c) cs

  abbrev pub pieces_of : List Change → List Piece
  pieces_of [] = []
  pieces_of (c ∷ cs) = pieces_from (piece_of c) cs

  -- the rows event of a piece; just the last ends its item
  abbrev pub rows_of : (names : List (List ℕ)) (ends : Bool) → Piece → Rows
  rows_of names ends p = record {
    kind = p.kind;
    id = id_from 1 names p.name;
    ends = ends;
    columns = length (columns_in defs p.name);
    rows = p.rows;
  }

  abbrev pub all_rows : (names : List (List ℕ)) → List Piece → List Rows
  all_rows names [] = []
  all_rows names (p ∷ []) = rows_of names true p ∷ []
  all_rows names (p ∷ q ∷ ps) = rows_of names false p ∷ all_rows names (q ∷ ps)

  -- a map for each table, and the rows of the changes
  abbrev pub changes_item : List Change → Spelled
  changes_item cs = rows_item (maps_from 1 defs (tables_of cs)) (all_rows (tables_of cs) (pieces_of cs))

-- ---- items

abbrev pub spelled : Item → Spelled
spelled i = if i.rows then changes_item i.defs i.changes else text_of i.text i.carried

-- events at one time
abbrev pub at_time : ℕ → List Body → List Stamped
at_time stamp bs = map (λ b. record { stamp = stamp; body = b }) bs

-- the events of an item
abbrev pub item_events : Item → List Stamped
item_events i = at_time i.carried.stamp (bodies_of (spelled i))

-- how many bytes they have
abbrev pub item_size : Item → ℕ
item_size i = total (item_events i)

-- ---- what can be carried

abbrev pub types_in : List TableDef → (name : List ℕ) → List ColType
types_in defs name = map kind_of (columns_in defs name)

-- the greatest length of a text fits two bytes
abbrev pub AreTypes : List ColType → Type 0
AreTypes [] = Unit {0}
AreTypes (IntType ∷ kinds) = AreTypes kinds
AreTypes (BigInt ∷ kinds) = AreTypes kinds
AreTypes (Varchar most ∷ kinds) = (most < 2 ^ 16) × AreTypes kinds

-- a change whose table has columns, and whose rows are of these
pub record CanCarry (defs : List TableDef) (c : Change) : Type 0 where
  pub some : 1 ≤ length (types_in defs (table_of c))
  pub types : AreTypes (types_in defs (table_of c))
  pub rows : IsChange (rows_kind_of c) (table_of c) (types_in defs (table_of c)) c

abbrev pub CanCarryAll : List TableDef → List Change → Type 0
CanCarryAll defs [] = Unit {0}
CanCarryAll defs (c ∷ cs) = CanCarry defs c × CanCarryAll defs cs

-- an item by its text; or by its rows, of which there is one
abbrev pub IsCarried : Bool → Item → Type 0
IsCarried false i = Unit {0}
IsCarried true i = (1 ≤ length i.changes) × CanCarryAll i.defs i.changes

abbrev pub AreCarried : List Item → Type 0
AreCarried [] = Unit {0}
AreCarried (i ∷ is) = IsCarried i.rows i × AreCarried is

-- ---- laws

-- what an item is written as is an item
abbrev pub ItemIsSpelled : Type 0
ItemIsSpelled = (i : Item) → IsCarried i.rows i → IsItem (spelled i)

-- the changes that rows are by the map with their id
abbrev pub changes_by : Option Map → Rows → List Change
changes_by None r = []
changes_by (Some m) r = changes_of m r

-- those of an item that is read
abbrev pub changes_read : Spelled → List Change
changes_read (text_item last_id generated seeds variables q) = []
changes_read (rows_item ms rs) = flat_map (λ r. changes_by (find r.id ms) r) rs

-- the changes of a rows item are read again, in their order
abbrev pub ChangesAreCarried : Type 0
ChangesAreCarried = (defs : List TableDef) (cs : List Change) → 1 ≤ length cs → CanCarryAll defs cs → changes_read (changes_item defs cs) ≡ cs
