-- The bits of columns that may be NULL.
use Rattle.std.proofs.Common.{◌≡◌, ℕ, zero, suc, ◌≤◌, List, [], ◌∷◌, map, drop, length, None, refl, arith}
use Rattle.std.specs.Prelude.{slice_get}
use Rattle.val_types.specs.declared.definitions.ColumnDef.{ColumnDef}
use Rattle.log_model.specs.Items.{is_nullable}
use Rattle.row_image.specs.Walk.{bit_of}

-- there is no bit behind the last column
pub none_bit : (columns : List ColumnDef) (i : ℕ) → None ≡ slice_get columns i → 0 ≡ bit_of (map is_nullable columns) i
none_bit [] i e = refl
none_bit (d ∷ columns) zero e = cc
none_bit (d ∷ columns) (suc i) e = none_bit columns i e

-- the bits of what is behind eight columns
pub drop_columns : (n : ℕ) (columns : List ColumnDef) → map is_nullable (drop n columns) ≡ drop n (map is_nullable columns)
drop_columns zero columns = refl
drop_columns (suc n) [] = refl
drop_columns (suc n) (d ∷ columns) = drop_columns n columns

pub few_columns : (n : ℕ) (columns : List ColumnDef) → length columns ≤ n → [] ≡ drop n (map is_nullable columns)
few_columns zero [] few = refl
few_columns zero (d ∷ columns) few = absurd (omega arith)
few_columns (suc n) [] few = refl
few_columns (suc n) (d ∷ columns) few = few_columns n columns (omega arith)
