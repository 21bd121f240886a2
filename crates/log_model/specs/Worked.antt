-- Small tables, items and logs, of which worked examples are made.
use Rattle.std.specs.Prelude.{ℕ, ℤ, pos, Bool, true, false, List, [], ◌∷◌, codes, map, Option, None, replicate, length}
use Rattle.val_types.specs.declared.value.Value.{Value}
use Rattle.val_types.specs.declared.value.Value.TheVariants.{Int, Text}
use Rattle.val_types.specs.declared.change.Change.{Change}
use Rattle.val_types.specs.declared.change.Change.TheVariants.{Insert}
use Rattle.val_types.specs.declared.definitions.ColType.TheVariants.{Int as IntType, Varchar}
use Rattle.val_types.specs.declared.definitions.ColumnDef.{ColumnDef}
use Rattle.val_types.specs.declared.definitions.TableDef.{TableDef}
use Rattle.event_codec.specs.Event.{Map}
use Rattle.event_codec.specs.Writing.{size, body_bytes}
use Rattle.log_entries.specs.declared.carried.Carried.{Carried}
use Rattle.log_entries.specs.declared.entries.Item.{Item}
use Rattle.log_entries.specs.declared.entries.Entry.{Entry}
use Rattle.log_entries.specs.declared.entries.Entry.TheVariants.{Transaction, Definition, LogStart}
use Rattle.log_model.specs.Written.{Stamped}
use Rattle.log_model.specs.Items.{pieces_of}
use Rattle.log_model.specs.Log.{LogPlace, log}

-- ---- a table of two numbers

-- the map of a table `t` of two INT, of which the second may be NULL
abbrev pub pairs : ℕ → Map
pairs id = record { id = id; name = codes "t"; kinds = 3 ∷ 3 ∷ []; metadata = []; nulls = 2 ∷ [] }

-- the row (1, 10)
abbrev pub pair_bytes : List ℕ
pair_bytes = 0 ∷ 1 ∷ 0 ∷ 0 ∷ 0 ∷ 10 ∷ 0 ∷ 0 ∷ 0 ∷ []

-- its definition, with the names of the table and of its columns
abbrev pub column : List ℕ → Bool → ColumnDef
column name nullable = record { name = name; kind = IntType; nullable = nullable; preset = None }

abbrev pub table_named : List ℕ → (second : List ℕ) → Bool → TableDef
table_named name second nullable = record {
  name = name;
  columns = column (codes "id") false ∷ column second nullable ∷ [];
  primary = 0 ∷ [];
  uniques = [];
  auto = None;
}

-- ---- items

-- what a statement of a session carries that needs nothing
abbrev pub plainly : (stamp connection : ℕ) → Carried
plainly stamp connection = record {
  stamp = stamp;
  connection = connection;
  inc = 1;
  off = 1;
  last_id = None;
  first = None;
  seeds = None;
  vars = [];
}

-- with increment and offset
abbrev pub stepping : Carried → (increment offset : ℕ) → Carried
stepping c increment offset = record {
  stamp = c.stamp;
  connection = c.connection;
  inc = increment;
  off = offset;
  last_id = c.last_id;
  first = c.first;
  seeds = c.seeds;
  vars = c.vars;
}

-- with the first value that it generated, and user variables
abbrev pub needing : Carried → Option ℤ → List (List ℕ × Value) → Carried
needing c first variables = record {
  stamp = c.stamp;
  connection = c.connection;
  inc = c.inc;
  off = c.off;
  last_id = c.last_id;
  first = first;
  seeds = c.seeds;
  vars = variables;
}

abbrev pub by_text : List ℕ → Carried → Item
by_text text c = record { text = text; carried = c; rows = false; defs = []; changes = [] }

abbrev pub by_rows : Carried → List TableDef → List Change → Item
by_rows c defs changes = record { text = []; carried = c; rows = true; defs = defs; changes = changes }

-- the bodies of its events, and their lengths with their headers
abbrev pub bodies_in : List Stamped → List (List ℕ)
bodies_in es = map (λ e. body_bytes e.stamp e.body) es

abbrev pub sizes_in : List Stamped → List ℕ
sizes_in es = map (λ e. size e.body) es

-- ---- a log

-- before the first log
abbrev pub nowhere : LogPlace
nowhere = record { log = 0; pos = 0 }

abbrev pub creating : Item
creating = by_text (codes "CREATE TABLE t (id INT, v INT, PRIMARY KEY (id))") (plainly 1700000001 1)

abbrev pub inserting : Item
inserting = by_text (codes "INSERT INTO t VALUES (1, 10)") (plainly 1700000002 1)

-- a log that begins, a table, and a row in it
abbrev pub first_entries : List (Entry Item)
first_entries = LogStart 1700000000 1 ∷ Definition 1700000001 1 creating ∷ Transaction 1700000002 1 (inserting ∷ []) ∷ []

unfoldable pub first_log : List ℕ
first_log = log first_entries 0 nowhere

-- a row of `t`, whose trigger puts one into `l`
abbrev pub with_trigger : Item
with_trigger =
    by_rows (plainly 1700000006 1) (table_named (codes "t") (codes "v") true ∷ table_named (codes "l") (codes "w") false ∷ [])
    (Insert (codes "t") (Int (pos 2) ∷ Int (pos 2) ∷ []) ∷ Insert (codes "l") (Int (pos 2) ∷ Int (pos 2) ∷ []) ∷ [])

-- ---- rows that are cut

-- a table of one text
abbrev pub texts : TableDef
texts = record {
  name = codes "x";
  columns = record { name = codes "w"; kind = Varchar 6000; nullable = true; preset = None } ∷ [];
  primary = [];
  uniques = [];
  auto = None;
}

-- a row of so many bytes and three more, which say that it is no NULL and how long it is
abbrev pub text_row : ℕ → Change
text_row count = Insert (codes "x") (Text (replicate count 0x61) ∷ [])

-- how many bytes the rows of each event have
abbrev pub rows_sizes : List Change → List ℕ
rows_sizes cs = map (λ p. length p.rows) (pieces_of (texts ∷ []) cs)
