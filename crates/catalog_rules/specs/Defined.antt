-- The definition of a table that CREATE TABLE makes, and the CREATE TABLE of a definition.
use Rattle.std.specs.Prelude.{ℕ, suc, ◌+◌, false, nat_eq, if◌then◌else◌, List, [], ◌∷◌, map, filter_map, Option, Some, None, slice_index_or}
use Rattle.std.specs.Option.{option_map, option_map_or}
use Rattle.val_types.specs.declared.definitions.ColType.{ColType}
use Rattle.val_types.specs.declared.definitions.ColType.TheVariants as kinds
use Rattle.val_types.specs.declared.definitions.ColumnDef.{ColumnDef}
use Rattle.val_types.specs.declared.definitions.KeyDef.{KeyDef}
use Rattle.val_types.specs.declared.definitions.TableDef.{TableDef}
use Rattle.sql_tree.specs.declared.statements.SqlType.{SqlType}
use Rattle.sql_tree.specs.declared.statements.SqlType.TheVariants as types
use Rattle.sql_tree.specs.declared.statements.Column.{Column}
use Rattle.sql_tree.specs.declared.statements.UniqueKey.{UniqueKey}
use Rattle.sql_tree.specs.declared.statements.CreateTable.{CreateTable}
use Rattle.sql_locals.specs.Types.{column_type}
use Rattle.catalog_rules.specs.Names.{place_among}
use Rattle.catalog_rules.specs.Objects.{columns_of}

-- a type as it is written
abbrev pub written_type : ColType → SqlType
written_type kinds.Int = types.Int
written_type kinds.BigInt = types.BigInt
written_type (kinds.Varchar most) = types.Varchar most

abbrev pub defined_column : Column → ColumnDef
defined_column c = record { name = c.name; kind = column_type c.kind; nullable = c.nullable; preset = c.preset }

-- the names of the columns
abbrev pub names_of_columns : CreateTable → List (List ℕ)
names_of_columns t = map (λ (c : Column). c.name) t.columns

-- the numbers of the columns of some names; a name that no column has gives none
abbrev pub places_of : List (List ℕ) → List (List ℕ) → List ℕ
places_of columns names = filter_map (place_among columns) names

-- the number of the first AUTO_INCREMENT column
abbrev pub auto_place : List Column → Option ℕ
auto_place [] = None
auto_place (c ∷ cs) = if c.auto_increment then Some 0 else option_map suc (auto_place cs)

abbrev pub defined_key : List (List ℕ) → UniqueKey → KeyDef
defined_key columns k = record { name = k.name; columns = places_of columns k.columns }

-- the definition that CREATE TABLE makes
abbrev pub definition_of : CreateTable → TableDef
definition_of t = record {
  name = t.name;
  columns = map defined_column t.columns;
  primary = option_map_or (places_of (names_of_columns t)) t.primary [];
  uniques = map (defined_key (names_of_columns t)) t.uniques;
  auto = auto_place t.columns;
}

-- ---- back

-- a column at a place, AUTO_INCREMENT where that is the place of it
abbrev pub written_column : Option ℕ → ℕ → ColumnDef → Column
written_column auto place c = record {
  name = c.name;
  kind = written_type c.kind;
  nullable = c.nullable;
  preset = c.preset;
  auto_increment = option_map_or (nat_eq place) auto false;
}

-- the columns from a place on
abbrev pub written_columns : Option ℕ → ℕ → List ColumnDef → List Column
written_columns auto place [] = []
written_columns auto place (c ∷ cs) = written_column auto place c ∷ written_columns auto (place + 1) cs

abbrev pub names_at : List (List ℕ) → List ℕ → List (List ℕ)
names_at columns places = map (λ place. slice_index_or columns place []) places

abbrev pub written_key : List (List ℕ) → KeyDef → UniqueKey
written_key columns k = record { name = k.name; columns = names_at columns k.columns }

-- the CREATE TABLE that makes a definition
abbrev pub written_table : TableDef → CreateTable
written_table d = record {
  name = d.name;
  columns = written_columns d.auto 0 d.columns;
  primary = Some (names_at (columns_of d) d.primary);
  uniques = map (written_key (columns_of d)) d.uniques;
}
