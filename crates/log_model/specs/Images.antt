-- Rows in bytes: a bit for each column, set where its value is NULL, and the values of the others.
use Rattle.std.specs.Prelude.{◌≡◌, ◌≤◌, ◌<◌, ℕ, suc, zero, ◌+◌, ◌*◌, ◌/◌, ◌%◌, ◌^◌, ◌==◌, ◌&&◌, not, Bool, true, false, nat_lt, nat_le, if◌then◌else◌, List, [], ◌∷◌, ◌++◌, map, flat_map, length, take, drop, slice_index, Option, Some, None, FitsSigned}
use Rattle.std.specs.Option.{option_map}
use Rattle.std.specs.Int.{Width, w32, w64, cast_signed, cast_unsigned}
use Rattle.val_types.specs.declared.value.Value.{Value}
use Rattle.val_types.specs.declared.value.Value.TheVariants.{Null, Int, Text}
use Rattle.val_types.specs.declared.definitions.ColType.{ColType}
use Rattle.val_types.specs.declared.definitions.ColType.TheVariants.{Int as IntType, BigInt, Varchar}
use Rattle.val_types.specs.declared.change.Change.{Change}
use Rattle.val_types.specs.declared.change.Change.TheVariants.{Insert, Update as Replace, Delete as Remove}
use Rattle.val_types.specs.Fitting.{is_null}
use Rattle.byte_fields.specs.Field.{number_at, number_bytes}
use Rattle.byte_fields.specs.Unroll.{all_from}
use Rattle.event_codec.specs.declared.event.RowsKind.{RowsKind}
use Rattle.event_codec.specs.declared.event.RowsKind.TheVariants.{Write, Update, Delete}
use Rattle.event_codec.specs.Bitmap.{bitmap_size}
use Rattle.event_codec.specs.Event.{Map, Rows}

-- ---- the columns of a map

-- the types of columns by their numbers; the greatest length of a text stands in two bytes of metadata
abbrev pub types_of : (kinds metadata : List ℕ) → List ColType
types_of [] metadata = []
types_of (kind ∷ kinds) metadata =
    if kind == 3 then IntType ∷ types_of kinds metadata
    else if kind == 8 then BigInt ∷ types_of kinds metadata
    else Varchar (number_at 0 2 metadata) ∷ types_of kinds (drop 2 metadata)

abbrev pub map_types : Map → List ColType
map_types m = types_of m.kinds m.metadata

-- ---- a row that is read

-- what was read, and the bytes behind it
abbrev pub Read : Type 0 → Type 0
Read X = Option (X × List ℕ)

-- the bit of a column in some bytes, the lowest of a byte first
abbrev pub is_set : List ℕ → ℕ → Bool
is_set bits column = slice_index bits (column / 8) / 2 ^ (column % 8) % 2 == 1

-- a signed number of so many bytes
abbrev pub number_value : Width → ℕ → List ℕ → Read Value
number_value width count bytes =
    if nat_lt (length bytes) count then None
    else Some (Int (cast_signed width (number_at 0 count bytes)), drop count bytes)

-- how many bytes the length of a text takes, by the greatest length of its column
abbrev pub length_size : ℕ → ℕ
length_size most = if nat_le most 255 then 1 else 2

-- a text of a length, which is at most the greatest
abbrev pub text_of : (most count : ℕ) → List ℕ → Read Value
text_of most count bytes =
    if nat_le count most && nat_le count (length bytes) then Some (Text (take count bytes), drop count bytes) else None

-- a length, and a text
abbrev pub text_value : (most : ℕ) → List ℕ → Read Value
text_value most bytes =
    if nat_lt (length bytes) (length_size most) then None
    else text_of most (number_at 0 (length_size most) bytes) (drop (length_size most) bytes)

-- a value of a type
abbrev pub value_at : ColType → List ℕ → Read Value
value_at IntType bytes = number_value w32 4 bytes
value_at BigInt bytes = number_value w64 8 bytes
value_at (Varchar most) bytes = text_value most bytes

-- with a value in front
abbrev pub with_value : Value → Read (List Value) → Read (List Value)
with_value v = option_map (λ r. (v ∷ r.0, r.1))

-- goes on behind what was read
abbrev pub and_then : {X Y : Type 0} → (X → List ℕ → Read Y) → Read X → Read Y
and_then more None = None
and_then more (Some x) = more x.0 x.1

-- the values of columns: those from a number on, by the bits of all
abbrev pub values_at : List ColType → (nulls : List ℕ) (column : ℕ) → List ℕ → Read (List Value)
values_at [] nulls column bytes = Some ([], bytes)
values_at (kind ∷ kinds) nulls column bytes =
    if is_set nulls column then with_value Null (values_at kinds nulls (column + 1) bytes)
    else and_then (λ v rest. with_value v (values_at kinds nulls (column + 1) rest)) (value_at kind bytes)

-- a row; a table of no columns has none
unfoldable pub row_at : List ColType → List ℕ → Read (List Value)
row_at kinds bytes =
    if length kinds == 0 then None
    else if nat_lt (length bytes) (bitmap_size (length kinds)) then None
    else values_at kinds (take (bitmap_size (length kinds)) bytes) 0 (drop (bitmap_size (length kinds)) bytes)

-- ---- the changes of a rows event

-- a change of a table's row: one that was put in or taken out; or two, as it was before and after
abbrev pub change_at : RowsKind → (name : List ℕ) → List ColType → List ℕ → Read Change
change_at Write name kinds bytes = option_map (λ r. (Insert name r.0, r.1)) (row_at kinds bytes)
change_at Update name kinds bytes =
    and_then (λ before rest. option_map (λ r. (Replace name before r.0, r.1)) (row_at kinds rest)) (row_at kinds bytes)
change_at Delete name kinds bytes = option_map (λ r. (Remove name r.0, r.1)) (row_at kinds bytes)

-- the changes at the front, and what is behind them
unfoldable pub changes_at : RowsKind → (name : List ℕ) → List ColType → List ℕ → List Change × List ℕ
changes_at kind name kinds bytes = all_from (change_at kind name kinds) length bytes

abbrev pub changes_in : Map → Rows → List Change × List ℕ
changes_in m r = changes_at r.kind m.name (map_types m) r.rows

-- whether rows are one or more of a map, with nothing behind them
abbrev pub are_rows : Map → Rows → Bool
are_rows m r = r.columns == length m.kinds && not (length r.rows == 0) && length (changes_in m r).1 == 0

-- the changes that they are
abbrev pub changes_of : Map → Rows → List Change
changes_of m r = (changes_in m r).0

-- ---- a row that is written

abbrev pub bit : Bool → ℕ
bit true = 1
bit false = 0

-- bits as a number, the first the lowest
abbrev pub byte_of : List Bool → ℕ
byte_of [] = 0
byte_of (b ∷ bs) = bit b + 2 * byte_of bs

-- bits as so many bytes, eight in a byte; those behind the last are not set
abbrev pub bitmap : ℕ → List Bool → List ℕ
bitmap zero bits = []
bitmap (suc count) bits = byte_of (take 8 bits) ∷ bitmap count (drop 8 bits)

-- as many bytes as the bits need
abbrev pub bits_bytes : List Bool → List ℕ
bits_bytes bits = bitmap (bitmap_size (length bits)) bits

-- the bytes of a value in a column of a type; NULL has none, and a value of another type stands in no such column
abbrev pub value_bytes : ColType → Value → List ℕ
value_bytes kind Null = []
value_bytes IntType (Int n) = number_bytes 4 (cast_unsigned w32 n)
value_bytes IntType (Text t) = []
value_bytes BigInt (Int n) = number_bytes 8 (cast_unsigned w64 n)
value_bytes BigInt (Text t) = []
value_bytes (Varchar most) (Int n) = []
value_bytes (Varchar most) (Text t) = number_bytes (length_size most) (length t) ++ t

abbrev pub values_bytes : List ColType → List Value → List ℕ
values_bytes [] row = []
values_bytes (kind ∷ kinds) [] = []
values_bytes (kind ∷ kinds) (v ∷ row) = value_bytes kind v ++ values_bytes kinds row

-- a row's bytes
unfoldable pub row_bytes : List ColType → List Value → List ℕ
row_bytes kinds row = bits_bytes (map is_null row) ++ values_bytes kinds row

-- a change's
abbrev pub change_bytes : List ColType → Change → List ℕ
change_bytes kinds (Insert name row) = row_bytes kinds row
change_bytes kinds (Replace name before after) = row_bytes kinds before ++ row_bytes kinds after
change_bytes kinds (Remove name row) = row_bytes kinds row

-- ---- what can be written

-- a value of a column: NULL, a number of its size, a text of at most its length, which two bytes say
abbrev pub IsValue : ColType → Value → Type 0
IsValue kind Null = Unit {0}
IsValue IntType (Int n) = FitsSigned w32 n
IsValue IntType (Text t) = ⊥
IsValue BigInt (Int n) = FitsSigned w64 n
IsValue BigInt (Text t) = ⊥
IsValue (Varchar most) (Int n) = ⊥
IsValue (Varchar most) (Text t) = (length t ≤ most) × (most < 2 ^ 16)

-- a value for each column
abbrev pub IsRow : List ColType → List Value → Type 0
IsRow [] [] = Unit {0}
IsRow [] (v ∷ row) = ⊥
IsRow (kind ∷ kinds) [] = ⊥
IsRow (kind ∷ kinds) (v ∷ row) = IsValue kind v × IsRow kinds row

-- a change of a kind, of rows of a table with a name
abbrev pub IsChange : RowsKind → List ℕ → List ColType → Change → Type 0
IsChange Write named kinds (Insert name row) = (name ≡ named) × IsRow kinds row
IsChange Write named kinds (Replace name before after) = ⊥
IsChange Write named kinds (Remove name row) = ⊥
IsChange Update named kinds (Insert name row) = ⊥
IsChange Update named kinds (Replace name before after) = (name ≡ named) × IsRow kinds before × IsRow kinds after
IsChange Update named kinds (Remove name row) = ⊥
IsChange Delete named kinds (Insert name row) = ⊥
IsChange Delete named kinds (Replace name before after) = ⊥
IsChange Delete named kinds (Remove name row) = (name ≡ named) × IsRow kinds row

abbrev pub AreChanges : RowsKind → List ℕ → List ColType → List Change → Type 0
AreChanges kind name kinds [] = Unit {0}
AreChanges kind name kinds (c ∷ cs) = IsChange kind name kinds c × AreChanges kind name kinds cs

-- ---- laws

-- a row that is written is read again, whatever follows it
abbrev pub RowsAreReadAgain : Type 0
RowsAreReadAgain = (kinds : List ColType) (row : List Value) (rest : List ℕ) → 1 ≤ length kinds → IsRow kinds row
    → row_at kinds (row_bytes kinds row ++ rest) ≡ Some (row, rest)

-- changes that are written are read again
abbrev pub ChangesAreReadAgain : Type 0
ChangesAreReadAgain = (kind : RowsKind) (name : List ℕ) (kinds : List ColType) (cs : List Change) → 1 ≤ length kinds
    → AreChanges kind name kinds cs → changes_at kind name kinds (flat_map (change_bytes kinds) cs) ≡ (cs, [])
