-- The columns of a table, one after the other, as its map has them.
use Rattle.std.proofs.Common.{◌≡◌, ℕ, suc, ◌+◌, ◌<◌, List, ◌∷◌, ◌++◌, map, drop, length, get_or, refl, arith, drop-cons}
use Rattle.std.specs.Prelude.{flat_map}
use Rattle.val_types.specs.declared.definitions.ColumnDef.{ColumnDef}
use Rattle.log_model.specs.Items.{kind_of, type_code, type_metadata}

-- codes that grew by the first of those that are left
pub code_step : (columns : List ColumnDef) (i : ℕ) (column : ColumnDef) → i < length columns → get_or columns i column ≡ column
    → map type_code (map kind_of (drop i columns)) ≡ type_code column.kind ∷ map type_code (map kind_of (drop (i + 1) columns))
code_step columns i column low is =
    let next : i + 1 ≡ suc i = omega arith in
    rw (next, drop-cons columns i column, is) refl

-- metadata that grew by that of the first column that is left
pub metadata_step : (columns : List ColumnDef) (i : ℕ) (column : ColumnDef) → i < length columns → get_or columns i column ≡ column
    → flat_map type_metadata (map kind_of (drop i columns)) ≡ type_metadata column.kind ++ flat_map type_metadata (map kind_of (drop (i + 1) columns))
metadata_step columns i column low is =
    let next : i + 1 ≡ suc i = omega arith in
    rw (next, drop-cons columns i column, is) refl
