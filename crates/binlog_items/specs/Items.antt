-- What a source makes an item of.
use Rattle.std.specs.Prelude.{ℕ, Bool, false, List, [], filter, map, None}
use Rattle.val_types.specs.declared.change.Change.{Change}
use Rattle.val_types.specs.declared.definitions.TableDef.{TableDef}
use Rattle.val_types.specs.Changes.{table_of}
use Rattle.catalog_checks.specs.catalog_rules.Names.{is_among}
use Rattle.catalog_checks.specs.catalog_rules.Objects.{Object}
use Rattle.catalog_checks.specs.catalog_rules.Bases.{definitions_in}
use Rattle.log_entry_laws.specs.log_entries.declared.carried.Carried.{Carried}
use Rattle.log_entry_laws.specs.log_entries.declared.entries.Item.{Item}
use Rattle.unsafe_rules.specs.sql_meaning.Frames.{Context}
use Rattle.binlog_items.specs.declared.before.Before.{Before}

-- ---- tables

-- the definitions of the tables that are among some names
abbrev pub among : List (List ℕ) → List TableDef → List TableDef
among names definitions = filter (λ (d : TableDef). is_among names d.name) definitions

-- of a catalog, those of the tables that some changes change
abbrev pub definitions_changed : List Object → List Change → List TableDef
definitions_changed catalog changes = among (map table_of changes) (definitions_in catalog)

-- ---- contexts

-- a context with the numbers that it had before a statement
abbrev pub as_before : Before → Context → Context
as_before before context = record context { last_id = before.last_id; seeds = before.seeds }

abbrev pub numbers_of : Context → Before
numbers_of context = record { last_id = context.last_id; seeds = context.seeds }

-- ---- items

-- a statement that changed rows, by these or by its text
abbrev pub statement_item : List ℕ → Carried → (rows : Bool) → List Object → List Change → Item
statement_item text carried rows catalog changes =
    record { text = text; carried = carried; rows = rows; defs = definitions_changed catalog changes; changes = changes }

-- a CREATE, DROP or TRUNCATE: its text, with its moment, its session and the two AUTO_INCREMENT variables
abbrev pub item_by_text : List ℕ → Context → Item
item_by_text text context = record {
  text = text;
  carried = record {
    stamp = context.stamp;
    connection = context.connection;
    inc = context.increment;
    off = context.offset;
    last_id = None;
    first = None;
    seeds = None;
    vars = [];
  };
  rows = false;
  defs = [];
  changes = [];
}
