-- What stands at the front of some bytes of a body: a number, a text, a value, a row, a change; and the bytes behind it.
use Rattle.std.specs.Prelude.{ℕ, zero, suc, ◌==◌, nat_lt, if◌then◌else◌, List, [], ◌∷◌, length, take, drop, Option, Some, None}
use Rattle.std.specs.Option.{option_map}
use Rattle.std.specs.Int.{w64, cast_signed}
use Rattle.val_types.specs.declared.value.Value.{Value}
use Rattle.val_types.specs.declared.value.Value.TheVariants.{Null, Int, Text}
use Rattle.val_types.specs.declared.change.Change.{Change}
use Rattle.val_types.specs.declared.change.Change.TheVariants.{Insert, Update, Delete}
use Rattle.byte_fields.specs.Field.{number_at}
use Rattle.binlog_sizes.specs.log_model.Images.{Read, and_then}

-- ---- in general

-- what is made of what was read
abbrev pub read_as : {X Y : Type 0} → (X → Y) → Read X → Read Y
read_as make = option_map (λ r. (make r.0, r.1))

-- what was read, where nothing stands behind it
abbrev pub to_the_end : {X : Type 0} → Read X → Option X
to_the_end None = None
to_the_end (Some (x, [])) = Some x
to_the_end (Some (x, b ∷ rest)) = None

-- a number of so many bytes
abbrev pub number_of : ℕ → List ℕ → Read ℕ
number_of count bytes = if nat_lt (length bytes) count then None else Some (number_at 0 count bytes, drop count bytes)

-- so many bytes
abbrev pub piece_of : ℕ → List ℕ → Read (List ℕ)
piece_of count bytes = if nat_lt (length bytes) count then None else Some (take count bytes, drop count bytes)

-- a text behind its length, which has so many bytes
abbrev pub text_behind : ℕ → List ℕ → Read (List ℕ)
text_behind width bytes = and_then piece_of (number_of width bytes)

-- so many things, one behind the other
abbrev pub so_many : {X : Type 0} → (List ℕ → Read X) → ℕ → List ℕ → Read (List X)
so_many one zero bytes = Some ([], bytes)
so_many one (suc n) bytes = and_then (λ x rest. read_as (λ xs. x ∷ xs) (so_many one n rest)) (one bytes)

-- things behind their count, which has so many bytes
abbrev pub all_behind : {X : Type 0} → ℕ → (List ℕ → Read X) → List ℕ → Read (List X)
all_behind width one bytes = and_then (so_many one) (number_of width bytes)

-- ---- values, rows and changes

-- a value behind its kind: 0 is NULL, 1 a number with a sign, 2 a text
abbrev pub value_of_kind : ℕ → List ℕ → Read Value
value_of_kind kind bytes =
    if kind == 0 then Some (Null, bytes)
    else if kind == 1 then read_as (λ n. Int (cast_signed w64 n)) (number_of 8 bytes)
    else if kind == 2 then read_as (λ t. Text t) (text_behind 4 bytes)
    else None

abbrev pub value_in : List ℕ → Read Value
value_in bytes = and_then value_of_kind (number_of 1 bytes)

-- a row: how many values it has, and the values
unfoldable pub row_in : List ℕ → Read (List Value)
row_in bytes = all_behind 1 value_in bytes

-- a change of a table's row behind its kind and the table's name: 1 puts one in, 2 has it as it was before and after, 3 takes one out
abbrev pub change_of_kind : ℕ → List ℕ → List ℕ → Read Change
change_of_kind kind name bytes =
    if kind == 1 then read_as (λ row. Insert name row) (row_in bytes)
    else if kind == 2 then and_then (λ before rest. read_as (λ after. Update name before after) (row_in rest)) (row_in bytes)
    else if kind == 3 then read_as (λ row. Delete name row) (row_in bytes)
    else None

unfoldable pub change_in : List ℕ → Read Change
change_in bytes = and_then (λ kind rest. and_then (change_of_kind kind) (text_behind 1 rest)) (number_of 1 bytes)
