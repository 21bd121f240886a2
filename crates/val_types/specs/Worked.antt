-- A small table, of which worked examples are made.
use Rattle.std.specs.Prelude.{Bool, codes, true, false, List, [], ◌∷◌, ℕ, None, Some}
use Rattle.val_types.specs.declared.definitions.ColType.{ColType}
use Rattle.val_types.specs.declared.definitions.ColType.TheVariants.{Int, Varchar}
use Rattle.val_types.specs.declared.definitions.ColumnDef.{ColumnDef}
use Rattle.val_types.specs.declared.definitions.TableDef.{TableDef}

-- a column by its name and type, and whether it may be NULL
abbrev pub column : List ℕ → ColType → Bool → ColumnDef
column name kind nullable = record { name = name; kind = kind; nullable = nullable; preset = None }

-- columns INT NOT NULL, INT and VARCHAR(2); the primary key is the third with the first, the second is unique
abbrev pub small : TableDef
small = record {
  name = codes "small";
  columns = column (codes "a") Int false ∷ column (codes "b") Int true ∷ column (codes "c") (Varchar 2) true ∷ [];
  primary = 2 ∷ 0 ∷ [];
  uniques = record { name = codes "b"; columns = 1 ∷ [] } ∷ [];
  auto = Some 0;
}
