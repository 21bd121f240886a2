-- What statements work on, as plain data, and what holds of it.
use Rattle.std.specs.Prelude.{◌≡◌, ℕ, List, [], drop, take, filter_map, Option, Some, unwrap_or}
use Rattle.std.specs.Option.{option_map}
use Rattle.val_types.specs.declared.change.Change.{Change}
use Rattle.val_types.specs.declared.definitions.TableDef.{TableDef}
use Rattle.auto_inc.specs.declared.counters.Counter.{Counter}
use Rattle.auto_inc.specs.Counting.{tables_of}
use Rattle.table_rules.specs.Tables.{Table}
use Rattle.table_rules.specs.Changes.{AreKept}
use Rattle.table_rules.specs.Stored.{all_applied, all_inverse}
use Rattle.table_rules.specs.Stores.{definitions_of}
use Rattle.sql_reach.specs.catalog_rules.Bases.{Base, definitions_in}
use Rattle.catalog.specs.catalog_objects.declared.object.Object.{Object}
use Rattle.catalog.specs.catalog_objects.Keys.{objects_of}
use Rattle.exec_state.specs.declared.stage.Stage.{Stage}

-- The objects of the catalog, the tables as they stand, the changes that can be taken back from them, and the counters.
pub record Contents : Type 0 where
  pub objects : List Object
  pub tables : List Table
  pub changes : List Change
  pub counters : List Counter

-- what is worked on: a stage under a catalog
abbrev pub contents_of : List Object → Stage → Contents
contents_of objects stage = record { objects = objects; tables = stage.tables.tables; changes = stage.undo; counters = stage.counters }

abbrev pub nothing : Contents
nothing = record { objects = []; tables = []; changes = []; counters = [] }

-- the catalog with the tables as they stand
abbrev pub base_of : Contents → Base
base_of c = record { catalog = objects_of c.objects; tables = c.tables }

-- ---- changes taken back and committed

-- the tables with some changes taken back from them; these can always be
abbrev pub without_changes : List Change → List Table → List Table
without_changes changes tables = unwrap_or (all_applied (all_inverse changes) tables) tables

-- the rows that were last committed
abbrev pub committed_tables : Contents → List Table
committed_tables c = without_changes c.changes c.tables

-- the changes behind a mark taken back
abbrev pub taken_back : ℕ → Contents → Contents
taken_back mark c = record c { tables = without_changes (drop mark c.changes) c.tables; changes = take mark c.changes }

-- what a reader beside the open changes sees
abbrev pub as_committed : Contents → Contents
as_committed c = record c { tables = committed_tables c; changes = [] }

-- ---- what holds

-- the names of the tables that have an AUTO_INCREMENT column
abbrev pub counted_name : TableDef → Option (List ℕ)
counted_name d = option_map (λ (place : ℕ). d.name) d.auto

abbrev pub counted_names : List TableDef → List (List ℕ)
counted_names definitions = filter_map counted_name definitions

-- The open changes lead from the committed rows to those that stand, and back; the tables are those of the catalog and hold
-- what tables have to; each table with an AUTO_INCREMENT column has its counter, and no other has one.
pub record IsTogether (c : Contents) : Type 0 where
  pub back : all_applied (all_inverse c.changes) c.tables ≡ Some (committed_tables c)
  pub made : all_applied c.changes (committed_tables c) ≡ Some c.tables
  pub kept : AreKept c.tables
  pub committed : AreKept (committed_tables c)
  pub theirs : definitions_of c.tables ≡ definitions_in (objects_of c.objects)
  pub counted : tables_of c.counters ≡ counted_names (definitions_in (objects_of c.objects))
