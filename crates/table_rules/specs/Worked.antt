-- A small table, of which worked examples are made.
use Rattle.std.specs.Prelude.{codes, pos, List, [], ◌∷◌, None}
use Rattle.val_types.specs.declared.value.Value.{Value}
use Rattle.val_types.specs.declared.value.Value.TheVariants.{Null, Int, Text}
use Rattle.val_types.specs.declared.definitions.TableDef.{TableDef}
use Rattle.table_rules.specs.Tables.{Table}

-- a table with a number as its primary key, a unique key of a text and one of two numbers
abbrev pub pens : TableDef
pens = record {
  name = codes "pens";
  columns = [];
  primary = 0 ∷ [];
  uniques = record { name = codes "u"; columns = 1 ∷ [] } ∷ record { name = codes "w"; columns = 2 ∷ 3 ∷ [] } ∷ [];
  auto = None;
}

abbrev pub red : List Value
red = Int (pos 1) ∷ Text (codes "red") ∷ Int (pos 5) ∷ Null ∷ []

abbrev pub blue : List Value
blue = Int (pos 2) ∷ Null ∷ Int (pos 5) ∷ Int (pos 7) ∷ []

-- the table with both rows, and no other table
abbrev pub some_pens : List Table
some_pens = record { definition = pens; rows = red ∷ blue ∷ [] } ∷ []
