-- Rows in bytes: eight bits in a byte, and values one after the other.
use Rattle.std.proofs.Common.{◌≡◌, ℕ, zero, suc, ◌+◌, ◌-◌, ◌*◌, ◌<◌, ◌≤◌, Bool, List, [], ◌∷◌, ◌++◌, map, take, drop, length, get_or, None, refl, ap, arith, append_assoc, length-append}
use Rattle.std.specs.Prelude.{slice_get}
use Rattle.val_types.specs.declared.value.Value.{Value}
use Rattle.val_types.specs.declared.definitions.ColType.{ColType}
use Rattle.val_types.specs.declared.definitions.ColumnDef.{ColumnDef}
use Rattle.val_types.specs.Fitting.{is_null}
use Rattle.log_model.specs.Images.{byte_of, bitmap, IsRow, IsValue, value_bytes, values_bytes}
use Rattle.row_image.specs.Walk.{bit_of, types_in}

-- ---- bits

-- there is no bit behind the last value
pub none_bit : (values : List Value) (i : ℕ) → None ≡ slice_get values i → 0 ≡ bit_of (map is_null values) i
none_bit [] i e = refl
none_bit (v ∷ values) zero e = cc
none_bit (v ∷ values) (suc i) e = none_bit values i e

-- eight bits by their places
pub eight : (bs : List Bool) → byte_of (take 8 bs)
    ≡ bit_of bs 0 + 2 * (bit_of bs 1 + 2 * (bit_of bs 2 + 2 * (bit_of bs 3 + 2 * (bit_of bs 4 + 2 * (bit_of bs 5 + 2 * (bit_of bs 6 + 2 * (bit_of bs 7 + 2 * 0)))))))
eight [] = refl
eight (a ∷ []) = refl
eight (a ∷ b ∷ []) = refl
eight (a ∷ b ∷ d ∷ []) = refl
eight (a ∷ b ∷ d ∷ e ∷ []) = refl
eight (a ∷ b ∷ d ∷ e ∷ f ∷ []) = refl
eight (a ∷ b ∷ d ∷ e ∷ f ∷ g ∷ []) = refl
eight (a ∷ b ∷ d ∷ e ∷ f ∷ g ∷ h ∷ []) = refl
eight (a ∷ b ∷ d ∷ e ∷ f ∷ g ∷ h ∷ i ∷ bs) = refl

-- the bits of what is behind eight values
pub drop_nulls : (n : ℕ) (values : List Value) → map is_null (drop n values) ≡ drop n (map is_null values)
drop_nulls zero values = refl
drop_nulls (suc n) [] = refl
drop_nulls (suc n) (v ∷ values) = drop_nulls n values

pub few_nulls : (n : ℕ) (values : List Value) → length values ≤ n → [] ≡ drop n (map is_null values)
few_nulls zero [] few = refl
few_nulls zero (v ∷ values) few = absurd (omega arith)
few_nulls (suc n) [] few = refl
few_nulls (suc n) (v ∷ values) few = few_nulls n values (omega arith)

-- bytes that grew by the first of those that are left
pub bits_grow : (whole out new : List ℕ) (count i byte : ℕ) (bits next : List Bool) → out ++ bitmap (count - i) bits ≡ whole → i < count
    → new ≡ out ++ (byte ∷ []) → byte ≡ byte_of (take 8 bits) → next ≡ drop 8 bits → new ++ bitmap (count - (i + 1)) next ≡ whole
bits_grow whole out new count i byte bits next before low grown is behind =
    let more : count - i ≡ suc (count - (i + 1)) = omega arith in
    rw (grown, is, behind, append_assoc) (rw more at before)

-- bytes that grow stay longer than what they began with
pub longer : (front out new more : List ℕ) → new ≡ out ++ more → length front ≤ length out → length front ≤ length new
longer front out new more grown long = rw grown (omega (arith, length-append out more))

-- ---- values

-- a row has a value for each column
pub as_many_values : (kinds : List ColType) (row : List Value) → IsRow kinds row → length row ≡ length kinds
as_many_values [] [] is = refl
as_many_values [] (v ∷ row) is = absurd is
as_many_values (kind ∷ kinds) [] is = absurd is
as_many_values (kind ∷ kinds) (v ∷ row) is = ap suc (as_many_values kinds row is.1)

-- no values are no row of some columns
no_values : (columns : List ColumnDef) (i : ℕ) → i < length columns → IsRow (types_in (drop i columns)) [] → ⊥
no_values [] i low is = absurd (omega arith)
no_values (d ∷ columns) zero low is = is
no_values (d ∷ columns) (suc i) low is = no_values columns i (omega arith) is

-- a value, and those behind it
after_value : (columns : List ColumnDef) (row : List Value) (i : ℕ) (column : ColumnDef) (v : Value) → i < length columns
    → get_or columns i column ≡ column → get_or row i v ≡ v → IsRow (types_in (drop i columns)) (drop i row)
    → IsValue column.kind v × IsRow (types_in (drop (suc i) columns)) (drop (suc i) row)
    × (values_bytes (types_in (drop i columns)) (drop i row) ≡ value_bytes column.kind v ++ values_bytes (types_in (drop (suc i) columns)) (drop (suc i) row))
after_value [] row i column v low is-column is-value is = absurd (omega arith)
after_value (d ∷ columns) [] zero column v low is-column is-value is = absurd is
after_value (d ∷ columns) (w ∷ row) zero column v low is-column is-value is = rw (← is-column, ← is-value) (is.0, is.1, refl)
after_value (d ∷ columns) [] (suc i) column v low is-column is-value is = absurd (no_values columns i (omega arith) is)
after_value (d ∷ columns) (w ∷ row) (suc i) column v low is-column is-value is = after_value columns row i column v (omega arith) is-column is-value is

pub rest_of_row : (columns : List ColumnDef) (row : List Value) (i : ℕ) (column : ColumnDef) (v : Value) → i < length columns
    → get_or columns i column ≡ column → get_or row i v ≡ v → IsRow (types_in (drop i columns)) (drop i row)
    → IsValue column.kind v × IsRow (types_in (drop (i + 1) columns)) (drop (i + 1) row)
    × (values_bytes (types_in (drop i columns)) (drop i row) ≡ value_bytes column.kind v ++ values_bytes (types_in (drop (i + 1) columns)) (drop (i + 1) row))
rest_of_row columns row i column v low is-column is-value is =
    let next : i + 1 ≡ suc i = omega arith in
    rw next (after_value columns row i column v low is-column is-value is)
