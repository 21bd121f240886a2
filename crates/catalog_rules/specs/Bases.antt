-- What a node keeps: its catalog, and the tables of it with their rows, in order of creation.
use Rattle.std.specs.Prelude.{◌≡◌, List, [], ◌∷◌, ◌++◌, map, filter_map, Option, Some, None}
use Rattle.val_types.specs.declared.definitions.TableDef.{TableDef}
use Rattle.table_rules.specs.Tables.{Table}
use Rattle.table_rules.specs.Changes.{AreKept}
use Rattle.table_rules.specs.Stored.{tables_beside, tables_cleared}
use Rattle.sql_tree.specs.Statement.{Statement, create_table, create_function, create_procedure, create_trigger, drop_table, truncate}
use Rattle.catalog_rules.specs.Objects.{Object, table, function, procedure, reaction}
use Rattle.catalog_rules.specs.Defined.{definition_of, written_table}
use Rattle.catalog_rules.specs.Creating.{ddl_refusal, catalog_after}

-- a catalog with its tables
pub record Base : Type 0 where
  pub catalog : List Object
  pub tables : List Table

abbrev pub empty_base : Base
empty_base = record { catalog = []; tables = [] }

-- ---- CREATE, DROP and TRUNCATE

-- a table that was just made
abbrev pub table_without_rows : TableDef → Table
table_without_rows definition = record { definition = definition; rows = [] }

-- the tables after a statement that nothing refuses
abbrev pub tables_after : Statement → List Table → List Table
tables_after (create_table t) tables = tables ++ table_without_rows (definition_of t) ∷ []
tables_after (drop_table name) tables = tables_beside name tables
tables_after (truncate name) tables = tables_cleared name tables
tables_after s tables = tables

-- catalog and tables after a statement, None where it is refused
abbrev pub defined : Statement → Base → Option Base
defined s base = elim (ddl_refusal base.catalog s) [
  | None ↦ Some (record { catalog = catalog_after s base.catalog; tables = tables_after s base.tables })
  | Some code ↦ None
]

-- ---- what holds of every base

-- the statement that makes an object
abbrev pub creation_of : Object → Statement
creation_of (table definition) = create_table (written_table definition)
creation_of (function p) = create_function p
creation_of (procedure p) = create_procedure p
creation_of (reaction t) = create_trigger t

-- whether the objects behind some could be made one after the other
abbrev pub CanBeMade : List Object → List Object → Type 0
CanBeMade before [] = Unit {0}
CanBeMade before (o ∷ os) = (ddl_refusal before (creation_of o) ≡ None) × CanBeMade (before ++ o ∷ []) os

abbrev pub definition_if : Object → Option TableDef
definition_if (table definition) = Some definition
definition_if (function p) = None
definition_if (procedure p) = None
definition_if (reaction t) = None

-- the definitions of the tables of a catalog
abbrev pub definitions_in : List Object → List TableDef
definitions_in catalog = filter_map definition_if catalog

-- the objects can be made in their order, the tables are theirs, and hold what tables have to hold
pub record IsBase (base : Base) : Type 0 where
  pub made : CanBeMade [] base.catalog
  pub theirs : map (λ (t : Table). t.definition) base.tables ≡ definitions_in base.catalog
  pub kept : AreKept base.tables
