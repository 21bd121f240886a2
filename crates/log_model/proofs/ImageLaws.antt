-- Rows and changes that are written are read again.
use Rattle.std.proofs.Common.{◌≡◌, ℕ, suc, ◌+◌, ◌^◌, ◌<◌, ◌≤◌, Bool, true, false, eqb, leb, ltb, List, [], ◌∷◌, ◌++◌, map, length, get_or, Some, None, refl, sym, ap, ◌∙◌, append_assoc, arith, FitsSigned}
use Rattle.std.specs.Prelude.{ℤ, flat_map, if◌then◌else◌}
use Rattle.std.specs.Int.{Width, w32, w64, cast_signed, cast_unsigned}
use Rattle.std.proofs.lemmas.Bool.{le-ltb, le-leb, leb-true, ne_eqb}
use Rattle.std.proofs.lemmas.Int.{to_z-of_z}
use Rattle.std.proofs.lemmas.List.{take_at, drop_at, length-append, length-map}
use Rattle.std.proofs.Math.Facts.{Fits-of_z, Fits-lt-pow}
use Rattle.val_types.specs.declared.value.Value.{Value}
use Rattle.val_types.specs.declared.value.Value.TheVariants.{Null, Int, Text}
use Rattle.val_types.specs.declared.definitions.ColType.{ColType}
use Rattle.val_types.specs.declared.definitions.ColType.TheVariants.{Int as IntType, BigInt, Varchar}
use Rattle.val_types.specs.declared.change.Change.{Change}
use Rattle.val_types.specs.declared.change.Change.TheVariants.{Insert, Update as Replace, Delete as Remove}
use Rattle.val_types.specs.Fitting.{is_null}
use Rattle.byte_fields.specs.Field.{number_bytes}
use Rattle.byte_fields.proofs.FieldLaws.{field_again, field_width}
use Rattle.byte_fields.proofs.Unrolling.{all_some, all_none}
use Rattle.event_codec.specs.declared.event.RowsKind.{RowsKind}
use Rattle.event_codec.specs.declared.event.RowsKind.TheVariants.{Write, Update, Delete}
use Rattle.event_codec.specs.Bitmap.{bitmap_size}
use Rattle.log_model.specs.Images.{Read, is_set, number_value, length_size, value_at, with_value, and_then, values_at, row_at, change_at, changes_at, bits_bytes, value_bytes, values_bytes, row_bytes, change_bytes, IsValue, IsRow, IsChange, AreChanges}
use Rattle.log_model.proofs.Bits.{set_bit, length-bitmap}
use Rattle.log_model.proofs.Taking.{Takes, change_takes, changes_shrink}

-- ---- values

number_again : (w : Width) (count n : ℕ) (rest : List ℕ) → n < 256 ^ count → number_value w count (number_bytes count n ++ rest) ≡ Some (Int (cast_signed w n), rest)
number_again w count n rest fits =
    let len = field_width count n in
    let whole : ltb (length (number_bytes count n ++ rest)) count ≡ false = le-ltb _ _ (omega (arith, len, length-append (number_bytes count n) rest)) in
    rw (whole, field_again count n rest fits, drop_at (number_bytes count n) rest count len) refl

int_again : (n : ℤ) (rest : List ℕ) → FitsSigned w32 n → value_at IntType (value_bytes IntType (Int n) ++ rest) ≡ Some (Int n, rest)
int_again n rest fits =
    let low : cast_unsigned w32 n < 2 ^ 32 = Fits-lt-pow (Fits-of_z fits) in
    number_again w32 4 (cast_unsigned w32 n) rest (omega arith) ∙ ap (λ (m : ℤ). Some (Int m, rest)) (to_z-of_z w32 n fits)

bigint_again : (n : ℤ) (rest : List ℕ) → FitsSigned w64 n → value_at BigInt (value_bytes BigInt (Int n) ++ rest) ≡ Some (Int n, rest)
bigint_again n rest fits =
    let low : cast_unsigned w64 n < 2 ^ 64 = Fits-lt-pow (Fits-of_z fits) in
    number_again w64 8 (cast_unsigned w64 n) rest (omega arith) ∙ ap (λ (m : ℤ). Some (Int m, rest)) (to_z-of_z w64 n fits)

-- a text's length fits its field
length_fits : (most n : ℕ) (b : Bool) → leb most 255 ≡ b → n ≤ most → most < 2 ^ 16 → n < 256 ^ (if b then 1 else 2)
length_fits most n true small low high = let most-low = leb-true most 255 small in omega arith
length_fits most n false small low high = omega arith

text_again : (most : ℕ) (t rest : List ℕ) → length t ≤ most → most < 2 ^ 16 → value_at (Varchar most) (value_bytes (Varchar most) (Text t) ++ rest) ≡ Some (Text t, rest)
text_again most t rest low high =
    let count : ℕ = length_size most in
    let front : List ℕ = number_bytes count (length t) in
    let len = field_width count (length t) in
    let fits : length t < 256 ^ count = length_fits most (length t) (leb most 255) refl low high in
    let whole : ltb (length (front ++ (t ++ rest))) count ≡ false = le-ltb _ _ (omega (arith, len, length-append front (t ++ rest))) in
    let a : leb (length t) most ≡ true = le-leb _ _ low in
    let b : leb (length t) (length (t ++ rest)) ≡ true = le-leb _ _ (omega (arith, length-append t rest)) in
    ap (value_at (Varchar most)) (append_assoc front t rest)
    ∙ rw (whole, field_again count (length t) (t ++ rest) fits, drop_at front (t ++ rest) count len, a, b, take_at t rest (length t) refl, drop_at t rest (length t) refl) refl

value_again : (kind : ColType) (v : Value) (rest : List ℕ) → IsValue kind v → is_null v ≡ false → value_at kind (value_bytes kind v ++ rest) ≡ Some (v, rest)
value_again kind Null rest is some = cc
value_again IntType (Int n) rest is some = int_again n rest is
value_again IntType (Text t) rest is some = absurd is
value_again BigInt (Int n) rest is some = bigint_again n rest is
value_again BigInt (Text t) rest is some = absurd is
value_again (Varchar most) (Int n) rest is some = absurd is
value_again (Varchar most) (Text t) rest is some = text_again most t rest is.0 is.1

no_value : (kind : ColType) (v : Value) → is_null v ≡ true → (value_bytes kind v ≡ []) × (v ≡ Null)
no_value kind Null null = (refl, refl)
no_value kind (Int n) null = cc
no_value kind (Text t) null = cc

-- ---- rows

-- bits from a column on are those of values
abbrev Marks : List ℕ → ℕ → List Value → Type 0
Marks nulls i row = (j : ℕ) → j < length row → is_set nulls (i + j) ≡ get_or (map is_null row) j false

first_mark : (nulls : List ℕ) (i : ℕ) (v : Value) (row : List Value) → Marks nulls i (v ∷ row) → is_set nulls i ≡ is_null v
first_mark nulls i v row marks =
    let here : i + 0 ≡ i = omega arith in
    ap (is_set nulls) (sym here) ∙ marks 0 (omega arith)

more_marks : (nulls : List ℕ) (i : ℕ) (v : Value) (row : List Value) → Marks nulls i (v ∷ row) → Marks nulls (i + 1) row
more_marks nulls i v row marks j low =
    let here : i + 1 + j ≡ i + suc j = omega arith in
    ap (is_set nulls) here ∙ marks (suc j) (omega arith)

values_again : (kinds : List ColType) (row : List Value) (nulls : List ℕ) (i : ℕ) (rest : List ℕ) → IsRow kinds row → Marks nulls i row
    → values_at kinds nulls i (values_bytes kinds row ++ rest) ≡ Some (row, rest)
values_again [] [] nulls i rest is marks = refl
values_again [] (v ∷ row) nulls i rest is marks = absurd is
values_again (k ∷ ks) [] nulls i rest is marks = absurd is
values_again (k ∷ ks) (v ∷ row) nulls i rest is marks =
    by (is_null v) refl (values_again ks row nulls (i + 1) rest is.1 (more_marks nulls i v row marks))
  where
    by : (b : Bool) → is_null v ≡ b → values_at ks nulls (i + 1) (values_bytes ks row ++ rest) ≡ Some (row, rest)
        → values_at (k ∷ ks) nulls i (value_bytes k v ++ values_bytes ks row ++ rest) ≡ Some (v ∷ row, rest)
    by true null again =
        let none = no_value k v null in
        let mark : is_set nulls i ≡ true = first_mark nulls i v row marks ∙ null in
        rw (mark, none.0, none.1) (rw again refl)
    by false some again =
        let mark : is_set nulls i ≡ false = first_mark nulls i v row marks ∙ some in
        rw mark (
        ap (λ (bytes : List ℕ). and_then (λ w left. with_value w (values_at ks nulls (i + 1) left)) (value_at k bytes)) (append_assoc (value_bytes k v) (values_bytes ks row) rest)
        ∙ rw (value_again k v (values_bytes ks row ++ rest) is.0 some) (rw again refl))

row_length : (kinds : List ColType) (row : List Value) → IsRow kinds row → length row ≡ length kinds
row_length [] [] is = refl
row_length [] (v ∷ row) is = absurd is
row_length (k ∷ ks) [] is = absurd is
row_length (k ∷ ks) (v ∷ row) is = ap suc (row_length ks row is.1)

put_mark : (row : List Value) (j : ℕ) → j < length row → is_set (bits_bytes (map is_null row)) (0 + j) ≡ get_or (map is_null row) j false
put_mark row j low =
    let here : 0 + j ≡ j = omega arith in
    ap (is_set (bits_bytes (map is_null row))) here
    ∙ set_bit (bitmap_size (length (map is_null row))) (map is_null row) j (omega (arith, length-map row is_null))

pub row_again : (kinds : List ColType) (row : List Value) (rest : List ℕ) → 1 ≤ length kinds → IsRow kinds row → row_at kinds (row_bytes kinds row ++ rest) ≡ Some (row, rest)
unfolding row_at row_bytes
row_again kinds row rest some is =
    let count : ℕ = bitmap_size (length kinds) in
    let nulls : List Bool = map is_null row in
    let len : length nulls ≡ length kinds = length-map row is_null ∙ row_length kinds row is in
    let bits : List ℕ = bits_bytes nulls in
    let width : length bits ≡ count = length-bitmap (bitmap_size (length nulls)) nulls ∙ ap bitmap_size len in
    let behind : List ℕ = values_bytes kinds row ++ rest in
    let a : eqb (length kinds) 0 ≡ false = ne_eqb _ _ (λ e. omega arith) in
    let b : ltb (length (bits ++ behind)) count ≡ false = le-ltb _ _ (omega (arith, width, length-append bits behind)) in
    let marks : Marks bits 0 row = λ j low. put_mark row j low in
    ap (row_at kinds) (append_assoc bits (values_bytes kinds row) rest)
    ∙ rw (a, b, take_at bits behind count width, drop_at bits behind count width) (values_again kinds row bits 0 rest is marks)

-- ---- changes

pub change_again : (kind : RowsKind) (name : List ℕ) (kinds : List ColType) (c : Change) (rest : List ℕ) → 1 ≤ length kinds → IsChange kind name kinds c
    → change_at kind name kinds (change_bytes kinds c ++ rest) ≡ Some (c, rest)
change_again Write name kinds (Insert n row) rest some is = rw (row_again kinds row rest some is.1, is.0) refl
change_again Write name kinds (Replace n before after) rest some is = absurd is
change_again Write name kinds (Remove n row) rest some is = absurd is
change_again Update name kinds (Insert n row) rest some is = absurd is
change_again Update name kinds (Replace n before after) rest some is =
    ap (change_at Update name kinds) (append_assoc (row_bytes kinds before) (row_bytes kinds after) rest)
    ∙ rw (row_again kinds before (row_bytes kinds after ++ rest) some is.1) (rw (row_again kinds after rest some is.2, is.0) refl)
change_again Update name kinds (Remove n row) rest some is = absurd is
change_again Delete name kinds (Insert n row) rest some is = absurd is
change_again Delete name kinds (Replace n before after) rest some is = absurd is
change_again Delete name kinds (Remove n row) rest some is = rw (row_again kinds row rest some is.1, is.0) refl

takes_none : {X : Type 0} (r : Read X) → Takes [] r → r ≡ None
takes_none None takes = refl
takes_none (Some x) takes = absurd (omega arith)

pub changes_again : (kind : RowsKind) (name : List ℕ) (kinds : List ColType) (cs : List Change) → 1 ≤ length kinds → AreChanges kind name kinds cs
    → changes_at kind name kinds (flat_map (change_bytes kinds) cs) ≡ (cs, [])
unfolding changes_at
changes_again kind name kinds [] some are =
    all_none (change_at kind name kinds) length (changes_shrink kind name kinds) [] (takes_none (change_at kind name kinds []) (change_takes kind name kinds []))
changes_again kind name kinds (c ∷ cs) some are =
    all_some (change_at kind name kinds) length (changes_shrink kind name kinds) (flat_map (change_bytes kinds) (c ∷ cs)) (c, flat_map (change_bytes kinds) cs)
    (change_again kind name kinds c (flat_map (change_bytes kinds) cs) some are.0)
    ∙ rw (changes_again kind name kinds cs some are.1) refl
