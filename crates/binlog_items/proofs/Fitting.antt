-- Rows that fit their columns can be written.
use Rattle.std.proofs.Common.{◌≡◌, ℕ, ◌^◌, ◌≤◌, Bool, true, false, List, [], ◌∷◌, map, length, Result, Ok, Err, ℤ, pos, neg_ℤ, FitsSigned, refl, arith}
use Rattle.std.specs.Prelude.{◌&&◌, ◌||◌, not, nat_le, int_le, int_lt, if◌then◌else◌}
use Rattle.std.specs.Result.{is_ok}
use Rattle.std.specs.Int.{w32, w64}
use Rattle.std.proofs.lemmas.Int.{ints}
use Rattle.std.proofs.lemmas.Bool.Decides.{nat_tests}
use Rattle.val_types.specs.declared.value.Value.{Value}
use Rattle.val_types.specs.declared.value.Value.TheVariants.{Null, Int, Text}
use Rattle.val_types.specs.declared.definitions.ColType.{ColType}
use Rattle.val_types.specs.declared.definitions.ColType.TheVariants.{Int as IntType, BigInt, Varchar}
use Rattle.val_types.specs.declared.definitions.ColumnDef.{ColumnDef}
use Rattle.val_types.specs.Errors.{out_of_range, too_long_for_column}
use Rattle.val_types.specs.Fitting.{fitting, is_bigint, is_int, is_null, may_hold, row_fits}
use Rattle.log_entry_laws.specs.log_model.Images.{IsRow, IsValue}
use Rattle.log_entry_laws.specs.log_model.Items.{AreTypes, kind_of}

both : (p q : Bool) → p && q ≡ true → (p ≡ true) × (q ≡ true)
both true true e = (refl, refl)
both true false e = cc
both false q e = cc

int_fits : (n : ℤ) → is_int n ≡ true → FitsSigned w32 n
int_fits n e = let p = both (int_le (neg_ℤ (pos (2 ^ 31))) n) (int_lt n (pos (2 ^ 31))) e in grind (arith, ints, p)

bigint_fits : (n : ℤ) → is_bigint n ≡ true → FitsSigned w64 n
bigint_fits n e = let p = both (int_le (neg_ℤ (pos (2 ^ 63))) n) (int_lt n (pos (2 ^ 63))) e in grind (arith, ints, p)

short : (n most : ℕ) → nat_le n most ≡ true → n ≤ most
short n most e = grind (arith, nat_tests)

ok_if : (b : Bool) (code : ℕ) (r : Result (Unit {0}) ℕ) → r ≡ (if b then Ok tt else Err code) → is_ok r ≡ true → b ≡ true
ok_if true code r is e = refl
ok_if false code r is e = cc

is_value : (kind : ColType) (v : Value) → AreTypes (kind ∷ []) → is_ok (fitting kind v) ≡ true → IsValue kind v
is_value kind Null types fits = tt
is_value IntType (Int n) types fits = int_fits n (ok_if (is_int n) out_of_range (fitting IntType (Int n)) refl fits)
is_value IntType (Text t) types fits = cc
is_value BigInt (Int n) types fits = bigint_fits n (ok_if (is_bigint n) out_of_range (fitting BigInt (Int n)) refl fits)
is_value BigInt (Text t) types fits = cc
is_value (Varchar most) (Int n) types fits = cc
is_value (Varchar most) (Text t) types fits = (short (length t) most (ok_if (nat_le (length t) most) too_long_for_column (fitting (Varchar most) (Text t)) refl fits), types.0)

-- the first type, and the others
types_first : (kind : ColType) (kinds : List ColType) → AreTypes (kind ∷ kinds) → AreTypes (kind ∷ []) × AreTypes kinds
types_first IntType kinds are = (tt, are)
types_first BigInt kinds are = (tt, are)
types_first (Varchar most) kinds are = ((are.0, tt), are.1)

pub types_more : (kind : ColType) (kinds : List ColType) → AreTypes (kind ∷ []) → AreTypes kinds → AreTypes (kind ∷ kinds)
types_more IntType kinds one more = more
types_more BigInt kinds one more = more
types_more (Varchar most) kinds one more = (one.0, more)

pub is_row : (columns : List ColumnDef) (row : List Value) → AreTypes (map kind_of columns) → row_fits columns row ≡ true → IsRow (map kind_of columns) row
is_row [] [] types fits = tt
is_row [] (v ∷ row) types fits = cc
is_row (c ∷ columns) [] types fits = cc
is_row (c ∷ columns) (v ∷ row) types fits =
    let two = both (may_hold c v) (row_fits columns row) fits in
    let parts = types_first c.kind (map kind_of columns) types in
    (is_value c.kind v parts.0 (both (is_ok (fitting c.kind v)) (c.nullable || not (is_null v)) two.0).0, is_row columns row parts.1 two.1)
