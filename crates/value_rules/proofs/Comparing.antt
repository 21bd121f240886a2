-- Comparisons and the order of keys; operands that decide.
use Rattle.std.proofs.Common.{◌≡◌, ℕ, true, Option, Some, Result, Ok, Err, Ordering, Less, Equal, Greater, refl, sym, ap, ◌∙◌}
use Rattle.std.specs.Ordering.{is_eq}
use Rattle.val_types.specs.declared.value.Value.{Value}
use Rattle.val_types.specs.declared.value.Value.TheVariants.{Null, Int, Text}
use Rattle.val_types.specs.declared.ops.BinOp.TheVariants.{Or, And, Equal as Equals, NullSafeEqual, NotEqual, Less as Below, LessOrEqual, Greater as Above, GreaterOrEqual, Add, Subtract, Multiply, Divide, Modulo}
use Rattle.val_types.specs.Order.{value_order}
use Rattle.value_rules.specs.Operators.{null_safe_equal, truth_of, truth_value, both, either, joined, unless_decided, decided, ComparesAsKeys, NullSafeIsEquality, LeftDecides}
use Rattle.val_types.proofs.Values.{value_exact, value_order_total}
use Rattle.std.proofs.lemmas.Cmp.{tied_itself}

pub compares_as_keys : ComparesAsKeys
compares_as_keys Null Null o e = cc
compares_as_keys Null (Int n) o e = cc
compares_as_keys Null (Text t) o e = cc
compares_as_keys (Int m) Null o e = cc
compares_as_keys (Int m) (Int n) o e = cc
compares_as_keys (Int m) (Text t) o e = cc
compares_as_keys (Text s) Null o e = cc
compares_as_keys (Text s) (Int n) o e = cc
compares_as_keys (Text s) (Text t) o e = cc

-- a test that gives 1 found equality
one_if_equal : (o : Ordering) → ◌≡◌ {A = Result Value ℕ} (Ok (truth_value (is_eq o))) (Ok (truth_value true)) → o ≡ Equal
one_if_equal Less e = cc
one_if_equal Equal e = refl
one_if_equal Greater e = cc

found_equal : (a b : Value) → null_safe_equal a b ≡ Ok (truth_value true) → a ≡ b
found_equal Null Null e = refl
found_equal Null (Int n) e = cc
found_equal Null (Text t) e = cc
found_equal (Int m) Null e = cc
found_equal (Int m) (Int n) e = value_exact (Int m) (Int n) (one_if_equal (value_order (Int m) (Int n)) e)
found_equal (Int m) (Text t) e = cc
found_equal (Text s) Null e = cc
found_equal (Text s) (Int n) e = cc
found_equal (Text s) (Text t) e = value_exact (Text s) (Text t) (one_if_equal (value_order (Text s) (Text t)) e)

equal_to_itself : (a : Value) → null_safe_equal a a ≡ Ok (truth_value true)
equal_to_itself Null = refl
equal_to_itself (Int n) = ap (λ (o : Ordering). Ok (truth_value (is_eq o))) (tied_itself value_order_total (Int n))
equal_to_itself (Text t) = ap (λ (o : Ordering). Ok (truth_value (is_eq o))) (tied_itself value_order_total (Text t))

pub null_safe_is_equality : NullSafeIsEquality
null_safe_is_equality a b = (found_equal a b, λ e. ap (null_safe_equal a) (sym e) ∙ equal_to_itself a)

-- whatever stands behind it, a decided value or error is the whole
stays : (d : Result (Option Value) ℕ) (whole : Result Value ℕ)
    → ((v : Value) → d ≡ Ok (Some v) → unless_decided d whole ≡ Ok v) × ((e : ℕ) → d ≡ Err e → unless_decided d whole ≡ Err e)
stays d whole = (λ v e. ap (λ (r : Result (Option Value) ℕ). unless_decided r whole) e, λ code e. ap (λ (r : Result (Option Value) ℕ). unless_decided r whole) e)

pub left_decides : LeftDecides
left_decides Or a b = stays (decided Or a) (joined either (truth_of a) (truth_of b))
left_decides And a b = stays (decided And a) (joined both (truth_of a) (truth_of b))
left_decides Equals a b = (λ v e. cc, λ code e. cc)
left_decides NullSafeEqual a b = (λ v e. cc, λ code e. cc)
left_decides NotEqual a b = (λ v e. cc, λ code e. cc)
left_decides Below a b = (λ v e. cc, λ code e. cc)
left_decides LessOrEqual a b = (λ v e. cc, λ code e. cc)
left_decides Above a b = (λ v e. cc, λ code e. cc)
left_decides GreaterOrEqual a b = (λ v e. cc, λ code e. cc)
left_decides Add a b = (λ v e. cc, λ code e. cc)
left_decides Subtract a b = (λ v e. cc, λ code e. cc)
left_decides Multiply a b = (λ v e. cc, λ code e. cc)
left_decides Divide a b = (λ v e. cc, λ code e. cc)
left_decides Modulo a b = (λ v e. cc, λ code e. cc)
