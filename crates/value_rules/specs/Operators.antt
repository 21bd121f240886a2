-- What the operators of SQL give on values: a value, or the number of an error.
use Rattle.std.specs.Prelude.{◌≡◌, ◌↔◌, ℕ, Bool, true, false, not, ◌&&◌, ◌||◌, if◌then◌else◌, Option, Some, None, Result, Ok, Err, ℤ, pos, neg_ℤ, ◌+ℤ◌, ◌-ℤ◌, ◌*ℤ◌, int_div, int_rem}
use Rattle.std.specs.declared.cmp.Ordering.{Ordering}
use Rattle.std.specs.Ordering.{nat_cmp, int_cmp, int_eq, is_eq, is_ne, is_lt, is_le, is_gt, is_ge}
use Rattle.std.specs.Option.{option_map}
use Rattle.std.specs.Cmp.Lexicographic.{slice_cmp}
use Rattle.val_types.specs.declared.value.Value.{Value}
use Rattle.val_types.specs.declared.value.Value.TheVariants.{Null, Int, Text}
use Rattle.val_types.specs.declared.ops.BinOp.{BinOp}
use Rattle.val_types.specs.declared.ops.BinOp.TheVariants.{Or, And, Equal, NullSafeEqual, NotEqual, Less, LessOrEqual, Greater, GreaterOrEqual, Add, Subtract, Multiply, Divide, Modulo}
use Rattle.val_types.specs.declared.ops.UnOp.{UnOp}
use Rattle.val_types.specs.declared.ops.UnOp.TheVariants.{Negate, Not, IsNull, IsNotNull}
use Rattle.val_types.specs.Order.{value_order}
use Rattle.val_types.specs.Errors.{kinds_mixed, number_overflow, division_by_zero}
use Rattle.val_types.specs.Fitting.{is_bigint, is_null}

-- ---- truth

-- true is 1 and false is 0
abbrev pub truth_value : Bool → Value
truth_value true = Int (pos 1)
truth_value false = Int (pos 0)

-- the same of a truth that may be unknown, which is NULL
abbrev pub value_of_truth : Option Bool → Value
value_of_truth None = Null
value_of_truth (Some b) = truth_value b

-- what a value is as a condition: a number is true where it is not 0, NULL is unknown, a text is an error
abbrev pub truth_of : Value → Result (Option Bool) ℕ
truth_of Null = Ok None
truth_of (Int n) = Ok (Some (not (int_eq n (pos 0))))
truth_of (Text t) = Err kinds_mixed

-- an answer with its value changed, where it is one
abbrev pub with_value : {A B : Type 0} → (A → B) → Result A ℕ → Result B ℕ
with_value f (Ok a) = Ok (f a)
with_value f (Err e) = Err e

-- ---- comparisons

-- how two values compare, None where one is NULL; a text and a number do not compare
abbrev pub comparison : Value → Value → Result (Option Ordering) ℕ
comparison Null Null = Ok None
comparison Null (Int n) = Ok None
comparison Null (Text t) = Ok None
comparison (Int m) Null = Ok None
comparison (Int m) (Int n) = Ok (Some (int_cmp m n))
comparison (Int m) (Text t) = Err kinds_mixed
comparison (Text s) Null = Ok None
comparison (Text s) (Int n) = Err kinds_mixed
comparison (Text s) (Text t) = Ok (Some (slice_cmp nat_cmp s t))

-- 1 or 0 by a test of the order, NULL where there is none
abbrev pub tested : (Ordering → Bool) → Result (Option Ordering) ℕ → Result Value ℕ
tested test order = with_value (λ o. value_of_truth (option_map test o)) order

-- `<=>`: as `=`, but NULL equals NULL and no other value
abbrev pub null_safe_equal : Value → Value → Result Value ℕ
null_safe_equal a b =
    if is_null a || is_null b then Ok (truth_value (is_null a && is_null b))
    else tested is_eq (comparison a b)

-- ---- arithmetic

-- a number as a value, where it has 64 bits
abbrev pub number : ℤ → Result Value ℕ
number n = if is_bigint n then Ok (Int n) else Err number_overflow

-- the numbers of two operands, None where one is NULL; a text among them comes first
abbrev pub operands : Value → Value → Result (Option (ℤ × ℤ)) ℕ
operands Null Null = Ok None
operands Null (Int n) = Ok None
operands Null (Text t) = Err kinds_mixed
operands (Int m) Null = Ok None
operands (Int m) (Int n) = Ok (Some (m, n))
operands (Int m) (Text t) = Err kinds_mixed
operands (Text s) b = Err kinds_mixed

-- an operation on two numbers, NULL where there are none
abbrev pub on_operands : (ℤ → ℤ → Result Value ℕ) → Result (Option (ℤ × ℤ)) ℕ → Result Value ℕ
on_operands f (Ok None) = Ok Null
on_operands f (Ok (Some pair)) = f pair.0 pair.1
on_operands f (Err e) = Err e

abbrev pub arithmetic : (ℤ → ℤ → Result Value ℕ) → Value → Value → Result Value ℕ
arithmetic f a b = on_operands f (operands a b)

-- DIV cuts toward zero
abbrev pub quotient : ℤ → ℤ → Result Value ℕ
quotient m n = if int_eq n (pos 0) then Err division_by_zero else number (int_div m n)

-- MOD is what DIV leaves, so it has the sign of the dividend
abbrev pub remainder : ℤ → ℤ → Result Value ℕ
remainder m n = if int_eq n (pos 0) then Err division_by_zero else number (int_rem m n)

-- prefix `-`
abbrev pub negated : Value → Result Value ℕ
negated Null = Ok Null
negated (Int n) = number (neg_ℤ n)
negated (Text t) = Err kinds_mixed

-- ---- logic

-- AND of three values: false where one is false, else unknown where one is unknown
abbrev pub both : Option Bool → Option Bool → Option Bool
both None None = None
both None (Some true) = None
both None (Some false) = Some false
both (Some true) q = q
both (Some false) q = Some false

-- OR of three values: true where one is true, else unknown where one is unknown
abbrev pub either : Option Bool → Option Bool → Option Bool
either None None = None
either None (Some true) = Some true
either None (Some false) = None
either (Some true) q = Some true
either (Some false) q = q

-- behind a false left operand AND is false, and behind a true one OR is true, whatever stands on the right
abbrev pub false_decides : Option Bool → Option Value
false_decides None = None
false_decides (Some true) = None
false_decides (Some false) = Some (truth_value false)

abbrev pub true_decides : Option Bool → Option Value
true_decides None = None
true_decides (Some true) = Some (truth_value true)
true_decides (Some false) = None

-- the value of an operator that its left operand decides, so that the right one is left out; None where it counts
abbrev pub decided : BinOp → Value → Result (Option Value) ℕ
decided And a = with_value false_decides (truth_of a)
decided Or a = with_value true_decides (truth_of a)
decided op a = Ok None

-- what two conditions give that are joined, the first error coming first
abbrev pub joined : (Option Bool → Option Bool → Option Bool) → Result (Option Bool) ℕ → Result (Option Bool) ℕ → Result Value ℕ
joined join (Ok p) q = with_value (λ r. value_of_truth (join p r)) q
joined join (Err e) q = Err e

-- a value where it is decided, else what both operands give
abbrev pub unless_decided : Result (Option Value) ℕ → Result Value ℕ → Result Value ℕ
unless_decided (Ok None) whole = whole
unless_decided (Ok (Some v)) whole = Ok v
unless_decided (Err e) whole = Err e

-- the negation of a condition, unknown where it is
abbrev pub negation : Value → Result Value ℕ
negation a = with_value (λ p. value_of_truth (option_map not p)) (truth_of a)

-- ---- all operators

-- a binary operator on the values of its operands
abbrev pub binary_value : BinOp → Value → Value → Result Value ℕ
binary_value Or a b = unless_decided (decided Or a) (joined either (truth_of a) (truth_of b))
binary_value And a b = unless_decided (decided And a) (joined both (truth_of a) (truth_of b))
binary_value Equal a b = tested is_eq (comparison a b)
binary_value NullSafeEqual a b = null_safe_equal a b
binary_value NotEqual a b = tested is_ne (comparison a b)
binary_value Less a b = tested is_lt (comparison a b)
binary_value LessOrEqual a b = tested is_le (comparison a b)
binary_value Greater a b = tested is_gt (comparison a b)
binary_value GreaterOrEqual a b = tested is_ge (comparison a b)
binary_value Add a b = arithmetic (λ m n. number (m +ℤ n)) a b
binary_value Subtract a b = arithmetic (λ m n. number (m -ℤ n)) a b
binary_value Multiply a b = arithmetic (λ m n. number (m *ℤ n)) a b
binary_value Divide a b = arithmetic quotient a b
binary_value Modulo a b = arithmetic remainder a b

-- a unary operator on the value of its operand
abbrev pub unary_value : UnOp → Value → Result Value ℕ
unary_value Negate a = negated a
unary_value Not a = negation a
unary_value IsNull a = Ok (truth_value (is_null a))
unary_value IsNotNull a = Ok (truth_value (not (is_null a)))

-- ---- laws

-- where two values compare, they compare as keys do
abbrev pub ComparesAsKeys : Type 0
ComparesAsKeys = (a b : Value) (order : Ordering) → comparison a b ≡ Ok (Some order) → value_order a b ≡ order

-- `<=>` is true of equal values alone
abbrev pub NullSafeIsEquality : Type 0
NullSafeIsEquality = (a b : Value) → (null_safe_equal a b ≡ Ok (truth_value true)) ↔ (a ≡ b)

-- a value that the left operand decides is that of the operator, and so is its error, whatever the right operand is
abbrev pub LeftDecides : Type 0
LeftDecides =
    (op : BinOp) (a b : Value)
    → ((v : Value) → decided op a ≡ Ok (Some v) → binary_value op a b ≡ Ok v)
    × ((e : ℕ) → decided op a ≡ Err e → binary_value op a b ≡ Err e)
