-- The lines that show what a store holds.
use Rattle.std.specs.Prelude.{ℕ, List, [], ◌∷◌, ◌++◌, flat_map, codes}
use Rattle.val_types.specs.declared.value.Value.{Value}
use Rattle.val_types.specs.Text.{row_text_of}
use Rattle.table_rules.specs.Tables.{Table}
use Rattle.table_rules.specs.Stored.{rows_of}
use Rattle.sql_print.specs.StatementSpelling.{spelling}
use Rattle.catalog_show_create.specs.catalog_rules.Objects.{Object, table, function, procedure, reaction}
use Rattle.catalog_show_create.specs.catalog_rules.Bases.{Base}
use Rattle.catalog_show_create.specs.Stated.{statement_of}

-- words, and the end of their line
abbrev pub line : List ℕ → List ℕ
line words = words ++ 0x0a ∷ []

-- an object, by the canonical text of its CREATE statement
abbrev pub create_line : Object → List ℕ
create_line o = line (codes "create " ++ spelling (statement_of o))

-- a row, by its values
abbrev pub row_line : List Value → List ℕ
row_line row = line (codes "row " ++ row_text_of row)

-- the rows of a table, in the order of their keys; other objects have none
abbrev pub rows_behind : List Table → Object → List (List Value)
rows_behind tables (table definition) = rows_of definition.name tables
rows_behind tables (function p) = []
rows_behind tables (procedure p) = []
rows_behind tables (reaction t) = []

-- an object, and behind it its rows
abbrev pub object_lines : List Table → Object → List ℕ
object_lines tables o = create_line o ++ flat_map row_line (rows_behind tables o)

-- the objects of a base in order of creation
abbrev pub dump_lines : Base → List ℕ
dump_lines base = flat_map (object_lines base.tables) base.catalog
