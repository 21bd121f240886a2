-- A base by hand: the table `t` with two rows, a procedure, a table `w` of texts with two rows, and a trigger of `t`.
use Rattle.std.specs.Prelude.{true, false, List, [], ◌∷◌, codes, None, pos, neg_ℤ}
use Rattle.val_types.specs.declared.value.Value.{Value}
use Rattle.val_types.specs.declared.value.Value.TheVariants.{Null, Int, Text}
use Rattle.val_types.specs.declared.definitions.ColType.TheVariants as kinds
use Rattle.val_types.specs.declared.definitions.TableDef.{TableDef}
use Rattle.sql_tree.specs.Statement.{block, no_statement, program, trigger}
use Rattle.sql_tree.specs.declared.statements.Time.TheVariants as times
use Rattle.sql_tree.specs.declared.statements.Cause.TheVariants as causes
use Rattle.catalog_show_create.specs.catalog_rules.Objects.{Object, table, procedure, reaction}
use Rattle.catalog_show_create.specs.catalog_rules.Bases.{Base}

abbrev pub table_t : TableDef
table_t = record {
  name = codes "t";
  columns = record { name = codes "id"; kind = kinds.Int; nullable = false; preset = None }
      ∷ record { name = codes "v"; kind = kinds.Int; nullable = true; preset = None } ∷ [];
  primary = 0 ∷ [];
  uniques = [];
  auto = None;
}

abbrev pub table_w : TableDef
table_w = record {
  name = codes "w";
  columns = record { name = codes "k"; kind = kinds.Varchar 9; nullable = false; preset = None } ∷ [];
  primary = 0 ∷ [];
  uniques = [];
  auto = None;
}

-- -7 and 3
abbrev pub rows_of_t : List (List Value)
rows_of_t = (Int (neg_ℤ (pos 7)) ∷ Int (pos 10) ∷ []) ∷ (Int (pos 3) ∷ Null ∷ []) ∷ []

-- two texts
abbrev pub rows_of_w : List (List Value)
rows_of_w = (Text (codes "ink") ∷ []) ∷ (Text (codes "pen") ∷ []) ∷ []

abbrev pub objects : List Object
objects =
    table table_t ∷ procedure (program (codes "p") [] None (block [] no_statement)) ∷ table table_w
    ∷ reaction (trigger (codes "h") times.After causes.Delete (codes "t") (block [] no_statement)) ∷ []

-- all of them, with these rows
abbrev pub base_by_hand : Base
base_by_hand = record {
  catalog = objects;
  tables = record { definition = table_t; rows = rows_of_t } ∷ record { definition = table_w; rows = rows_of_w } ∷ [];
}

-- a table that was just made
abbrev pub base_without_rows : Base
base_without_rows = record { catalog = table table_t ∷ []; tables = record { definition = table_t; rows = [] } ∷ [] }
