-- A row is read column by column.
use Rattle.std.proofs.Common.{◌≡◌, ℕ, ◌+◌, suc, ◌<◌, Bool, true, false, eqb, List, [], ◌∷◌, ◌++◌, drop, length, get_or, Option, Some, None, refl, sym, ap, ◌∙◌, arith, append_assoc, drop-cons}
use Rattle.std.specs.Prelude.{if◌then◌else◌}
use Rattle.val_types.specs.declared.value.Value.{Value}
use Rattle.val_types.specs.declared.value.Value.TheVariants.{Null}
use Rattle.val_types.specs.declared.definitions.ColType.{ColType}
use Rattle.log_model.specs.Images.{Read, is_set, value_at, with_value, and_then, values_at, types_of}
use Rattle.row_image.specs.Walk.{type_at, metadata_behind, column_at, behind, ahead}

-- goes on at a place, if there is one
abbrev pub goes_on : {X : Type 0} → (List ℕ → Option X) → Option (List ℕ) → Option X
goes_on more None = None
goes_on more (Some rest) = more rest

-- ---- types

types_cons : (kind : ℕ) (kinds metadata : List ℕ) (a b : Bool) → eqb kind 3 ≡ a → eqb kind 8 ≡ b
    → types_of (kind ∷ kinds) metadata ≡ type_at kind metadata ∷ types_of kinds (metadata_behind kind metadata)
types_cons kind kinds metadata true b t u = rw t refl
types_cons kind kinds metadata false true t u = rw (t, u) refl
types_cons kind kinds metadata false false t u = rw (t, u) refl

-- the type of a column, and those of the columns behind it
pub types_step : (kinds metadata : List ℕ) (i kind : ℕ) → i < length kinds → get_or kinds i 0 ≡ kind
    → types_of (drop i kinds) metadata ≡ type_at kind metadata ∷ types_of (drop (i + 1) kinds) (metadata_behind kind metadata)
types_step kinds metadata i kind low is =
    let next : i + 1 ≡ suc i = omega arith in
    rw (next, drop-cons kinds i 0, is) (types_cons kind (drop (suc i) kinds) metadata _ _ refl refl)

-- there is a type for each column
pub as_many_types : (kinds metadata : List ℕ) → length (types_of kinds metadata) ≡ length kinds
as_many_types [] metadata = refl
as_many_types (kind ∷ kinds) metadata =
    ap (λ (ts : List ColType). length ts) (types_cons kind kinds metadata _ _ refl refl) ∙ ap suc (as_many_types kinds (metadata_behind kind metadata))

-- ---- where a row ends

with_behind : (v : Value) (r : Read (List Value)) → behind (with_value v r) ≡ behind r
with_behind v None = refl
with_behind v (Some r) = refl

then_behind : (more : List ℕ → Read (List Value)) (r : Read Value)
    → behind (and_then (λ v rest. with_value v (more rest)) r) ≡ goes_on (λ rest. behind (more rest)) (behind r)
then_behind more None = refl
then_behind more (Some x) = with_behind x.0 (more x.1)

by_bit : (b : Bool) (k : ColType) (i : ℕ) (ks : List ColType) (nulls bytes : List ℕ)
    → behind (if b then with_value Null (values_at ks nulls (i + 1) bytes) else and_then (λ v rest. with_value v (values_at ks nulls (i + 1) rest)) (value_at k bytes))
    ≡ goes_on (λ rest. behind (values_at ks nulls (i + 1) rest)) (behind (if b then Some (Null, bytes) else value_at k bytes))
by_bit true k i ks nulls bytes = with_behind Null (values_at ks nulls (i + 1) bytes)
by_bit false k i ks nulls bytes = then_behind (values_at ks nulls (i + 1)) (value_at k bytes)

-- behind a column stand the others
pub column_step : (kinds metadata nulls bytes : List ℕ) (i kind : ℕ) → i < length kinds → get_or kinds i 0 ≡ kind
    → behind (values_at (types_of (drop i kinds) metadata) nulls i bytes)
    ≡ goes_on (λ rest. behind (values_at (types_of (drop (i + 1) kinds) (metadata_behind kind metadata)) nulls (i + 1) rest)) (behind (column_at (type_at kind metadata) nulls i bytes))
column_step kinds metadata nulls bytes i kind low is =
    ap (λ (ts : List ColType). behind (values_at ts nulls i bytes)) (types_step kinds metadata i kind low is)
    ∙ by_bit (is_set nulls i) (type_at kind metadata) i (types_of (drop (i + 1) kinds) (metadata_behind kind metadata)) nulls bytes

-- ---- what a row has

ahead_with : (row : List Value) (v : Value) (r : Read (List Value)) → ahead row (with_value v r) ≡ ahead (row ++ (v ∷ [])) r
ahead_with row v None = refl
ahead_with row v (Some x) = ap (λ (vs : List Value). found vs x.1) (sym (append_assoc row (v ∷ []) x.0))
  where
    found : List Value → List ℕ → Read (List Value)
    found vs rest = Some (vs, rest)

then_ahead : (row : List Value) (more : List ℕ → Read (List Value)) (r : Read Value)
    → ahead row (and_then (λ v rest. with_value v (more rest)) r) ≡ and_then (λ v rest. ahead (row ++ (v ∷ [])) (more rest)) r
then_ahead row more None = refl
then_ahead row more (Some x) = ahead_with row x.0 (more x.1)

by_bit_ahead : (b : Bool) (row : List Value) (k : ColType) (i : ℕ) (ks : List ColType) (nulls bytes : List ℕ)
    → ahead row (if b then with_value Null (values_at ks nulls (i + 1) bytes) else and_then (λ v rest. with_value v (values_at ks nulls (i + 1) rest)) (value_at k bytes))
    ≡ and_then (λ v rest. ahead (row ++ (v ∷ [])) (values_at ks nulls (i + 1) rest)) (if b then Some (Null, bytes) else value_at k bytes)
by_bit_ahead true row k i ks nulls bytes = ahead_with row Null (values_at ks nulls (i + 1) bytes)
by_bit_ahead false row k i ks nulls bytes = then_ahead row (values_at ks nulls (i + 1)) (value_at k bytes)

-- a column's value goes behind those that were read
pub value_step : (row : List Value) (kinds metadata nulls bytes : List ℕ) (i kind : ℕ) → i < length kinds → get_or kinds i 0 ≡ kind
    → ahead row (values_at (types_of (drop i kinds) metadata) nulls i bytes)
    ≡ and_then (λ v rest. ahead (row ++ (v ∷ [])) (values_at (types_of (drop (i + 1) kinds) (metadata_behind kind metadata)) nulls (i + 1) rest))
    (column_at (type_at kind metadata) nulls i bytes)
value_step row kinds metadata nulls bytes i kind low is =
    ap (λ (ts : List ColType). ahead row (values_at ts nulls i bytes)) (types_step kinds metadata i kind low is)
    ∙ by_bit_ahead (is_set nulls i) row (type_at kind metadata) i (types_of (drop (i + 1) kinds) (metadata_behind kind metadata)) nulls bytes

-- no values in front
pub ahead_nothing : (r : Read (List Value)) → ahead [] r ≡ r
ahead_nothing None = refl
ahead_nothing (Some x) = refl

-- the same, as a loop finds it
pub made_value : (row new : List Value) (kinds metadata later nulls bytes next : List ℕ) (i j : ℕ) (type : ColType) (v w : Value) (whole : Read (List Value))
    → j ≡ i → i < length kinds → type ≡ type_at (get_or kinds i 0) metadata → Some (v, next) ≡ column_at type nulls j bytes → w ≡ v → new ≡ row ++ (w ∷ [])
    → later ≡ metadata_behind (get_or kinds i 0) metadata
    → ahead row (values_at (types_of (drop i kinds) metadata) nulls i bytes) ≡ whole
    → ahead new (values_at (types_of (drop (i + 1) kinds) later) nulls (i + 1) next) ≡ whole
made_value row new kinds metadata later nulls bytes next i j type v w whole same low type-is found kept grown later-is before =
    let found' : column_at (type_at (get_or kinds i 0) metadata) nulls i bytes ≡ Some (v, next) =
    ap (λ (t : ColType). column_at t nulls i bytes) (sym type-is) ∙ ap (λ (n : ℕ). column_at type nulls n bytes) (sym same) ∙ sym found in
    let more : Value → List ℕ → Read (List Value) =
    λ x rest. ahead (row ++ (x ∷ [])) (values_at (types_of (drop (i + 1) kinds) (metadata_behind (get_or kinds i 0) metadata)) nulls (i + 1) rest) in
    rw (grown, kept, later-is) (sym (ap (and_then more) found') ∙ sym (value_step row kinds metadata nulls bytes i (get_or kinds i 0) low refl) ∙ before)
