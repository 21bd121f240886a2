-- What the built-in functions of SQL give that depend on their arguments alone: a value, or the number of an error.
use Rattle.std.specs.Prelude.{ℕ, zero, suc, ◌-◌, ◌==◌, Bool, false, nat_le, nat_lt, ◌||◌, if◌then◌else◌, List, [], ◌∷◌, length, take, drop, slice_index_or, Option, Some, None, Result, Ok, Err, ℤ, pos, negsuc, unsigned_abs}
use Rattle.std.specs.List.{list_any, flat_map}
use Rattle.std.specs.Fmt.{signed_decimal}
use Rattle.val_types.specs.declared.value.Value.{Value}
use Rattle.val_types.specs.declared.value.Value.TheVariants.{Null, Int, Text}
use Rattle.val_types.specs.declared.ops.Func.{Func}
use Rattle.val_types.specs.declared.ops.Func1.{Func1}
use Rattle.val_types.specs.declared.ops.Func2.{Func2}
use Rattle.val_types.specs.declared.ops.Func3.{Func3}
use Rattle.val_types.specs.declared.ops.FuncN.{FuncN}
use Rattle.val_types.specs.Errors.{kinds_mixed, text_too_long}
use Rattle.val_types.specs.Fitting.{is_null}
use Rattle.value_rules.specs.Operators.{number, truth_of, with_value}

-- ABS
abbrev pub absolute : Value → Result Value ℕ
absolute Null = Ok Null
absolute (Int n) = number (pos (unsigned_abs n))
absolute (Text t) = Err kinds_mixed

-- COALESCE: the first value that is not NULL
abbrev pub first_known : List Value → Value
first_known [] = Null
first_known (v ∷ vs) = if is_null v then first_known vs else v

-- a condition that is unknown counts as false
abbrev pub is_known_true : Option Bool → Bool
is_known_true None = false
is_known_true (Some b) = b

-- IF
abbrev pub chosen : Value → Value → Value → Result Value ℕ
chosen condition then_value else_value = with_value (λ p. if is_known_true p then then_value else else_value) (truth_of condition)

-- a text as an expression's value, which has at most 65,535 bytes
abbrev pub text_value : List ℕ → Result Value ℕ
text_value t = if nat_le (length t) 65535 then Ok (Text t) else Err text_too_long

-- what CONCAT joins: a text itself, and a number in decimal
abbrev pub piece_of : Value → List ℕ
piece_of Null = []
piece_of (Int n) = signed_decimal n
piece_of (Text t) = t

-- CONCAT: NULL where an argument is NULL
abbrev pub concatenated : List Value → Result Value ℕ
concatenated vs = if list_any is_null vs then Ok Null else text_value (flat_map piece_of vs)

-- LENGTH, in bytes
abbrev pub length_value : Value → Result Value ℕ
length_value Null = Ok Null
length_value (Int n) = Err kinds_mixed
length_value (Text t) = Ok (Int (pos (length t)))

-- where the p-th byte of so many stands, counted from 0: p counts from 1, and from the end where it is negative;
-- None where p is 0 or outside
abbrev pub place_of : ℤ → ℕ → Option ℕ
place_of (pos zero) count = None
place_of (pos (suc before)) count = if nat_lt before count then Some before else None
place_of (negsuc behind) count = if nat_lt behind count then Some (count - suc behind) else None

-- how many bytes are asked for: none where the number is below 1
abbrev pub count_of : ℤ → ℕ
count_of (pos n) = n
count_of (negsuc n) = 0

-- so many bytes from a place on, or up to the end; none from no place
abbrev pub bytes_from : Option ℕ → ℕ → List ℕ → List ℕ
bytes_from None count t = []
bytes_from (Some place) count t = take count (drop place t)

-- SUBSTRING of values that are not NULL
abbrev pub part_of : Value → Value → Value → Result Value ℕ
part_of (Text t) (Int p) (Int n) = Ok (Text (bytes_from (place_of p (length t)) (count_of n) t))
part_of s p n = Err kinds_mixed

-- SUBSTRING: NULL where an argument is NULL
abbrev pub substring : Value → Value → Value → Result Value ℕ
substring s p n = if is_null s || is_null p || is_null n then Ok Null else part_of s p n

-- the argument at a place, counted from 0
abbrev pub argument : List Value → ℕ → Value
argument vs place = slice_index_or vs place Null

-- whether a built-in function depends on its arguments alone, and takes so many of them
abbrev pub takes : Func → ℕ → Bool
takes (Func.Zero f) count = false
takes (Func.One f) count = count == 1
takes (Func.Two f) count = count == 2
takes (Func.Three f) count = count == 3
takes (Func.Many f) count = nat_le 1 count

-- a built-in function of one argument on its value
abbrev pub value_of_one : Func1 → Value → Result Value ℕ
value_of_one Func1.Abs a = absolute a
value_of_one Func1.Length a = length_value a

-- one of two arguments
abbrev pub value_of_two : Func2 → Value → Value → Result Value ℕ
value_of_two Func2.IfNull a b = Ok (if is_null a then b else a)

-- one of three arguments
abbrev pub value_of_three : Func3 → Value → Value → Value → Result Value ℕ
value_of_three Func3.If c a b = chosen c a b
value_of_three Func3.Substring t p n = substring t p n

-- one of one argument or more
abbrev pub value_of_many : FuncN → List Value → Result Value ℕ
value_of_many FuncN.Coalesce vs = Ok (first_known vs)
value_of_many FuncN.Concat vs = concatenated vs

-- a built-in function on the values of its arguments; NULL for those without arguments, which ask the session
abbrev pub builtin_value : Func → List Value → Result Value ℕ
builtin_value (Func.Zero f) vs = Ok Null
builtin_value (Func.One f) vs = value_of_one f (argument vs 0)
builtin_value (Func.Two f) vs = value_of_two f (argument vs 0) (argument vs 1)
builtin_value (Func.Three f) vs = value_of_three f (argument vs 0) (argument vs 1) (argument vs 2)
builtin_value (Func.Many f) vs = value_of_many f vs
