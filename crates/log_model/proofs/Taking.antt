-- Each row, and each change, takes some of the bytes.
use Rattle.std.proofs.Common.{◌≡◌, ℕ, ◌+◌, ◌<◌, ◌≤◌, Bool, true, false, List, [], ◌∷◌, take, drop, length, Some, None, refl, arith, length-drop, ltb, leb, eqb}
use Rattle.std.specs.Prelude.{if◌then◌else◌, ◌&&◌}
use Rattle.std.specs.Option.{option_map}
use Rattle.std.specs.Int.{Width, w32, w64, cast_signed}
use Rattle.std.proofs.lemmas.Bool.{ltb-false, eqb-false}
use Rattle.val_types.specs.declared.value.Value.{Value}
use Rattle.val_types.specs.declared.value.Value.TheVariants.{Null, Int, Text}
use Rattle.val_types.specs.declared.definitions.ColType.{ColType}
use Rattle.val_types.specs.declared.definitions.ColType.TheVariants.{Int as IntType, BigInt, Varchar}
use Rattle.val_types.specs.declared.change.Change.TheVariants.{Insert, Update as Replace, Delete as Remove}
use Rattle.byte_fields.specs.Field.{number_at}
use Rattle.byte_fields.specs.Unroll.{Shrinks}
use Rattle.event_codec.specs.declared.event.RowsKind.{RowsKind}
use Rattle.event_codec.specs.declared.event.RowsKind.TheVariants.{Write, Update, Delete}
use Rattle.event_codec.specs.Bitmap.{bitmap_size}
use Rattle.log_model.specs.Images.{Read, is_set, number_value, length_size, text_of, value_at, with_value, and_then, values_at, row_at, change_at}

-- what is read ends within the bytes
abbrev Less : {X : Type 0} → List ℕ → Read X → Type 0
Less bytes None = Unit {0}
Less bytes (Some r) = length r.1 ≤ length bytes

-- and takes some of them
abbrev pub Takes : {X : Type 0} → List ℕ → Read X → Type 0
Takes bytes None = Unit {0}
Takes bytes (Some r) = length r.1 < length bytes

less_if : {X : Type 0} (b : Bool) (x y : Read X) (bytes : List ℕ) → Less bytes x → Less bytes y → Less bytes (if b then x else y)
less_if true x y bytes p q = p
less_if false x y bytes p q = q

less_trans : {X : Type 0} (r : Read X) (front bytes : List ℕ) → length front ≤ length bytes → Less front r → Less bytes r
less_trans None front bytes low p = tt
less_trans (Some r) front bytes low p = omega arith

takes_trans : {X : Type 0} (r : Read X) (front bytes : List ℕ) → length front ≤ length bytes → Takes front r → Takes bytes r
takes_trans None front bytes low p = tt
takes_trans (Some r) front bytes low p = omega arith

takes_less : {X : Type 0} (r : Read X) (front bytes : List ℕ) → length front < length bytes → Less front r → Takes bytes r
takes_less None front bytes low p = tt
takes_less (Some r) front bytes low p = omega arith

number_less : (w : Width) (count : ℕ) (bytes : List ℕ) → Less bytes (number_value w count bytes)
number_less w count bytes =
    less_if (ltb (length bytes) count) None (Some (Int (cast_signed w (number_at 0 count bytes)), drop count bytes)) bytes tt (omega (arith, length-drop count bytes))

text_less : (most count : ℕ) (bytes : List ℕ) → Less bytes (text_of most count bytes)
text_less most count bytes = less_if (leb count most && leb count (length bytes)) (Some (Text (take count bytes), drop count bytes)) None bytes (omega (arith, length-drop count bytes)) tt

value_less : (kind : ColType) (bytes : List ℕ) → Less bytes (value_at kind bytes)
value_less IntType bytes = number_less w32 4 bytes
value_less BigInt bytes = number_less w64 8 bytes
value_less (Varchar most) bytes =
    let front : List ℕ = drop (length_size most) bytes in
    less_if (ltb (length bytes) (length_size most)) None (text_of most (number_at 0 (length_size most) bytes) front) bytes tt
    (less_trans (text_of most (number_at 0 (length_size most) bytes) front) front bytes (omega (arith, length-drop (length_size most) bytes)) (text_less most (number_at 0 (length_size most) bytes) front))

less_with : (v : Value) (r : Read (List Value)) (bytes : List ℕ) → Less bytes r → Less bytes (with_value v r)
less_with v None bytes p = tt
less_with v (Some r) bytes p = p

less_then : {X Y : Type 0} (more : X → List ℕ → Read Y) (r : Read X) (bytes : List ℕ) → ((x : X) (b : List ℕ) → Less b (more x b)) → Less bytes r → Less bytes (and_then more r)
less_then more None bytes each p = tt
less_then more (Some x) bytes each p = less_trans (more x.0 x.1) x.1 bytes p (each x.0 x.1)

values_less : (kinds : List ColType) (nulls : List ℕ) (i : ℕ) (bytes : List ℕ) → Less bytes (values_at kinds nulls i bytes)
values_less [] nulls i bytes = omega arith
values_less (k ∷ ks) nulls i bytes =
    less_if (is_set nulls i) (with_value Null (values_at ks nulls (i + 1) bytes)) (and_then (λ v rest. with_value v (values_at ks nulls (i + 1) rest)) (value_at k bytes)) bytes
    (less_with Null (values_at ks nulls (i + 1) bytes) bytes (values_less ks nulls (i + 1) bytes))
    (less_then (λ v rest. with_value v (values_at ks nulls (i + 1) rest)) (value_at k bytes) bytes
    (λ v rest. less_with v (values_at ks nulls (i + 1) rest) rest (values_less ks nulls (i + 1) rest)) (value_less k bytes))

takes_by : (kinds : List ColType) (bytes : List ℕ) (a b : Bool) → eqb (length kinds) 0 ≡ a → ltb (length bytes) (bitmap_size (length kinds)) ≡ b
    → Takes bytes (if a then None else if b then None else values_at kinds (take (bitmap_size (length kinds)) bytes) 0 (drop (bitmap_size (length kinds)) bytes))
takes_by kinds bytes true b t u = tt
takes_by kinds bytes false true t u = tt
takes_by kinds bytes false false t u =
    let some : ¬ (length kinds ≡ 0) = eqb-false _ _ t in
    let enough = ltb-false (length bytes) (bitmap_size (length kinds)) u in
    takes_less (values_at kinds (take (bitmap_size (length kinds)) bytes) 0 (drop (bitmap_size (length kinds)) bytes)) (drop (bitmap_size (length kinds)) bytes) bytes
    (omega (arith, length-drop (bitmap_size (length kinds)) bytes)) (values_less kinds (take (bitmap_size (length kinds)) bytes) 0 (drop (bitmap_size (length kinds)) bytes))

pub row_takes : (kinds : List ColType) (bytes : List ℕ) → Takes bytes (row_at kinds bytes)
unfolding row_at
row_takes kinds bytes = takes_by kinds bytes _ _ refl refl

takes_map : {X Y : Type 0} (f : X × List ℕ → Y) (r : Read X) (bytes : List ℕ) → Takes bytes r → Takes bytes (option_map (λ x. (f x, x.1)) r)
takes_map f None bytes p = tt
takes_map f (Some x) bytes p = p

takes_then : {X Y : Type 0} (more : X → List ℕ → Read Y) (r : Read X) (bytes : List ℕ) → ((x : X) (b : List ℕ) → Takes b (more x b)) → Takes bytes r → Takes bytes (and_then more r)
takes_then more None bytes each p = tt
takes_then more (Some x) bytes each p = takes_trans (more x.0 x.1) x.1 bytes (omega arith) (each x.0 x.1)

pub change_takes : (kind : RowsKind) (name : List ℕ) (kinds : List ColType) (bytes : List ℕ) → Takes bytes (change_at kind name kinds bytes)
change_takes Write name kinds bytes = takes_map (λ r. Insert name r.0) (row_at kinds bytes) bytes (row_takes kinds bytes)
change_takes Delete name kinds bytes = takes_map (λ r. Remove name r.0) (row_at kinds bytes) bytes (row_takes kinds bytes)
change_takes Update name kinds bytes =
    takes_then (λ before rest. option_map (λ r. (Replace name before r.0, r.1)) (row_at kinds rest)) (row_at kinds bytes) bytes
    (λ before rest. takes_map (λ r. Replace name before r.0) (row_at kinds rest) rest (row_takes kinds rest)) (row_takes kinds bytes)

takes_some : {X : Type 0} (r : Read X) (x : X × List ℕ) (bytes : List ℕ) → Takes bytes r → r ≡ Some x → length x.1 < length bytes
takes_some r x bytes takes e = rw e at takes

pub changes_shrink : (kind : RowsKind) (name : List ℕ) (kinds : List ColType) → Shrinks (change_at kind name kinds) length
changes_shrink kind name kinds bytes r e = takes_some (change_at kind name kinds bytes) r bytes (change_takes kind name kinds bytes) e
