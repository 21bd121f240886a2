-- What operators give on truths, known or not.
use Rattle.std.proofs.Common.{◌≡◌, ℕ, Bool, true, false, not, ◌&&◌, ◌||◌, cond, Option, Some, None, Result, Ok, Ordering, refl, ap, subst, ◌∙◌}
use Rattle.std.specs.Option.{option_map}
use Rattle.std.specs.Ordering.{is_eq, is_ne, is_lt, is_le, is_gt, is_ge}
use Rattle.val_types.specs.declared.value.Value.{Value}
use Rattle.val_types.specs.declared.value.Value.TheVariants.{Null, Int, Text}
use Rattle.val_types.specs.declared.ops.BinOp.{BinOp}
use Rattle.val_types.specs.declared.ops.BinOp.TheVariants.{Or, And, Equal, NullSafeEqual, NotEqual, Less, LessOrEqual, Greater, GreaterOrEqual, Add, Subtract, Multiply, Divide, Modulo}
use Rattle.val_types.specs.declared.ops.UnOp.TheVariants.{Not}
use Rattle.val_types.specs.Order.{value_order}
use Rattle.val_types.specs.Fitting.{is_null}
use Rattle.value_rules.specs.Operators.{truth_value, value_of_truth, truth_of, with_value, comparison, tested, both, either, false_decides, true_decides, joined, unless_decided, decided, binary_value, unary_value}
use Rattle.value_rules.specs.Functions.{is_known_true}
use Rattle.sql_tree.specs.Tree.{Tree, unary, binary}
use Rattle.sql_meaning.specs.Scenes.{Scene, Ending, done, Action, then_do, ◌>>=◌, answered}
use Rattle.sql_meaning.specs.Frames.{World, Frame}
use Rattle.sql_meaning.specs.Values.{value, unless_known}
use Rattle.where_laws.specs.Facts.{Way, equal, unequal, below, at_most, above, at_least, stands_so, way_of}
use Rattle.where_laws.specs.Known.{is_null_safe}
use Rattle.where_laws.specs.Laws.{GivesTruth}
use Rattle.where_laws.proofs.Sides.{some_is}

pub truth_back : (p : Option Bool) → truth_of (value_of_truth p) ≡ Ok p
truth_back None = refl
truth_back (Some true) = refl
truth_back (Some false) = refl

-- a truth that is given just so
pub just : (scene : Scene) (p : Option Bool) (e : Ending Value) → e ≡ done (value_of_truth p) scene → GivesTruth scene p e
just scene p e is = record { given = value_of_truth p; ends = is; is = truth_back p }

-- ---- AND, OR and NOT of truths

-- what an operator makes of its left value
behind : World → Frame → BinOp → Tree → Value → Action Value
behind world frame op b x = answered (decided op x) >>= λ known. unless_known known (value world frame b >>= λ y. answered (binary_value op x y))

and_joins : (x y : Value) (p q : Option Bool) → truth_of x ≡ Ok p → truth_of y ≡ Ok q → binary_value And x y ≡ unless_decided (Ok (false_decides p)) (Ok (value_of_truth (both p q)))
and_joins x y p q left right =
    ap (λ (r : Result (Option Bool) ℕ). unless_decided (with_value false_decides r) (joined both r (truth_of y))) left
    ∙ ap (λ (r : Result (Option Bool) ℕ). unless_decided (Ok (false_decides p)) (joined both (Ok p) r)) right

or_joins : (x y : Value) (p q : Option Bool) → truth_of x ≡ Ok p → truth_of y ≡ Ok q → binary_value Or x y ≡ unless_decided (Ok (true_decides p)) (Ok (value_of_truth (either p q)))
or_joins x y p q left right =
    ap (λ (r : Result (Option Bool) ℕ). unless_decided (with_value true_decides r) (joined either r (truth_of y))) left
    ∙ ap (λ (r : Result (Option Bool) ℕ). unless_decided (Ok (true_decides p)) (joined either (Ok p) r)) right

-- the right operand, where it counts
goes_on : (world : World) (frame : Frame) (op : BinOp) (b : Tree) (scene : Scene) (x : Value) (q : Option Bool) (v : Value) → GivesTruth scene q (value world frame b scene)
    → ((y : Value) → truth_of y ≡ Ok q → binary_value op x y ≡ Ok v)
    → then_do (value world frame b scene) (λ y. answered (binary_value op x y)) ≡ done v scene
goes_on world frame op b scene x q v right joins =
    ap (λ (e : Ending Value). then_do e (λ y. answered (binary_value op x y))) right.ends ∙ ap (λ (r : Result Value ℕ). answered r scene) (joins right.given right.is)

and_behind : (world : World) (frame : Frame) (b : Tree) (scene : Scene) (x : Value) (p q : Option Bool) → truth_of x ≡ Ok p
    → (false_decides p ≡ None → GivesTruth scene q (value world frame b scene)) → behind world frame And b x scene ≡ done (value_of_truth (both p q)) scene
unfolding behind
and_behind world frame b scene x (Some false) q left right =
    ap (λ (r : Result (Option Bool) ℕ). then_do (answered (with_value false_decides r) scene) (λ known. unless_known known (value world frame b >>= λ y. answered (binary_value And x y)))) left
and_behind world frame b scene x (Some true) q left right =
    ap (λ (r : Result (Option Bool) ℕ). then_do (answered (with_value false_decides r) scene) (λ known. unless_known known (value world frame b >>= λ y. answered (binary_value And x y)))) left
    ∙ goes_on world frame And b scene x q (value_of_truth (both (Some true) q)) (right refl) (λ y is. and_joins x y (Some true) q left is)
and_behind world frame b scene x None q left right =
    ap (λ (r : Result (Option Bool) ℕ). then_do (answered (with_value false_decides r) scene) (λ known. unless_known known (value world frame b >>= λ y. answered (binary_value And x y)))) left
    ∙ goes_on world frame And b scene x q (value_of_truth (both None q)) (right refl) (λ y is. and_joins x y None q left is)

pub and_gives : (world : World) (frame : Frame) (a b : Tree) (scene : Scene) (p q : Option Bool) → GivesTruth scene p (value world frame a scene)
    → (false_decides p ≡ None → GivesTruth scene q (value world frame b scene)) → value world frame (binary And a b) scene ≡ done (value_of_truth (both p q)) scene
unfolding behind
and_gives world frame a b scene p q left right =
    ap (λ (e : Ending Value). then_do e (behind world frame And b)) left.ends ∙ and_behind world frame b scene left.given p q left.is right

or_behind : (world : World) (frame : Frame) (b : Tree) (scene : Scene) (x : Value) (p q : Option Bool) → truth_of x ≡ Ok p
    → (true_decides p ≡ None → GivesTruth scene q (value world frame b scene)) → behind world frame Or b x scene ≡ done (value_of_truth (either p q)) scene
unfolding behind
or_behind world frame b scene x (Some true) q left right =
    ap (λ (r : Result (Option Bool) ℕ). then_do (answered (with_value true_decides r) scene) (λ known. unless_known known (value world frame b >>= λ y. answered (binary_value Or x y)))) left
or_behind world frame b scene x (Some false) q left right =
    ap (λ (r : Result (Option Bool) ℕ). then_do (answered (with_value true_decides r) scene) (λ known. unless_known known (value world frame b >>= λ y. answered (binary_value Or x y)))) left
    ∙ goes_on world frame Or b scene x q (value_of_truth (either (Some false) q)) (right refl) (λ y is. or_joins x y (Some false) q left is)
or_behind world frame b scene x None q left right =
    ap (λ (r : Result (Option Bool) ℕ). then_do (answered (with_value true_decides r) scene) (λ known. unless_known known (value world frame b >>= λ y. answered (binary_value Or x y)))) left
    ∙ goes_on world frame Or b scene x q (value_of_truth (either None q)) (right refl) (λ y is. or_joins x y None q left is)

pub or_gives : (world : World) (frame : Frame) (a b : Tree) (scene : Scene) (p q : Option Bool) → GivesTruth scene p (value world frame a scene)
    → GivesTruth scene q (value world frame b scene) → value world frame (binary Or a b) scene ≡ done (value_of_truth (either p q)) scene
unfolding behind
or_gives world frame a b scene p q left right =
    ap (λ (e : Ending Value). then_do e (behind world frame Or b)) left.ends ∙ or_behind world frame b scene left.given p q left.is (λ h. right)

pub not_gives : (world : World) (frame : Frame) (a : Tree) (scene : Scene) (p : Option Bool) → GivesTruth scene p (value world frame a scene)
    → value world frame (unary Not a) scene ≡ done (value_of_truth (option_map not p)) scene
not_gives world frame a scene p inner =
    ap (λ (e : Ending Value). then_do e (λ x. answered (unary_value Not x))) inner.ends
    ∙ ap (λ (r : Result (Option Bool) ℕ). answered (with_value (λ q. value_of_truth (option_map not q)) r) scene) inner.is

pub both_some : (p q : Bool) → value_of_truth (both (Some p) (Some q)) ≡ truth_value (p && q)
both_some true q = refl
both_some false q = refl

pub both_false : (p : Option Bool) → both p (Some false) ≡ Some false
both_false None = refl
both_false (Some true) = refl
both_false (Some false) = refl

pub left_not_true : (p q : Option Bool) → is_known_true p ≡ false → is_known_true (both p q) ≡ false
left_not_true None None e = refl
left_not_true None (Some true) e = refl
left_not_true None (Some false) e = refl
left_not_true (Some true) q e = cc
left_not_true (Some false) q e = refl

pub right_not_true : (p q : Option Bool) → is_known_true q ≡ false → is_known_true (both p q) ≡ false
right_not_true None None e = refl
right_not_true None (Some true) e = cc
right_not_true None (Some false) e = refl
right_not_true (Some true) q e = e
right_not_true (Some false) q e = refl

-- ---- comparisons

-- how two values compare, None where one is NULL
abbrev pub order_between : Value → Value → Option Ordering
order_between x y = cond (is_null x || is_null y) None (Some (value_order x y))

-- the truth of a comparison
abbrev pub truth_by : Bool → Way → Value → Value → Option Bool
truth_by true way x y = Some (stands_so way (value_order x y))
truth_by false way x y = option_map (stands_so way) (order_between x y)

safe_equal : (x y : Value) → comparison x y ≡ Ok (order_between x y) → binary_value NullSafeEqual x y ≡ Ok (truth_value (is_eq (value_order x y)))
safe_equal Null Null e = refl
safe_equal Null (Int n) e = refl
safe_equal Null (Text t) e = refl
safe_equal (Int m) Null e = refl
safe_equal (Int m) (Int n) e = ap (tested is_eq) e
safe_equal (Int m) (Text t) e = ap (tested is_eq) e
safe_equal (Text s) Null e = refl
safe_equal (Text s) (Int n) e = ap (tested is_eq) e
safe_equal (Text s) (Text t) e = ap (tested is_eq) e

-- a comparison of values that compare is not decided by its left one, and gives that truth
abbrev Compares : BinOp → Way → Value → Value → Type 0
Compares op way x y = (decided op x ≡ Ok None) × (binary_value op x y ≡ Ok (value_of_truth (truth_by (is_null_safe op) way x y)))

pub compares_so : (op : BinOp) (way : Way) (x y : Value) → way_of op ≡ Some way → comparison x y ≡ Ok (order_between x y) → Compares op way x y
compares_so Or way x y e h = cc
compares_so And way x y e h = cc
compares_so Equal way x y e h = subst (λ (w : Way). Compares Equal w x y) (some_is equal way e) (refl, ap (tested is_eq) h)
compares_so NullSafeEqual way x y e h = subst (λ (w : Way). Compares NullSafeEqual w x y) (some_is equal way e) (refl, safe_equal x y h)
compares_so NotEqual way x y e h = subst (λ (w : Way). Compares NotEqual w x y) (some_is unequal way e) (refl, ap (tested is_ne) h)
compares_so Less way x y e h = subst (λ (w : Way). Compares Less w x y) (some_is below way e) (refl, ap (tested is_lt) h)
compares_so LessOrEqual way x y e h = subst (λ (w : Way). Compares LessOrEqual w x y) (some_is at_most way e) (refl, ap (tested is_le) h)
compares_so Greater way x y e h = subst (λ (w : Way). Compares Greater w x y) (some_is above way e) (refl, ap (tested is_gt) h)
compares_so GreaterOrEqual way x y e h = subst (λ (w : Way). Compares GreaterOrEqual w x y) (some_is at_least way e) (refl, ap (tested is_ge) h)
compares_so Add way x y e h = cc
compares_so Subtract way x y e h = cc
compares_so Multiply way x y e h = cc
compares_so Divide way x y e h = cc
compares_so Modulo way x y e h = cc

pub comparison_gives : (world : World) (frame : Frame) (op : BinOp) (way : Way) (a b : Tree) (scene : Scene) (x y : Value) → way_of op ≡ Some way
    → comparison x y ≡ Ok (order_between x y) → value world frame a scene ≡ done x scene → value world frame b scene ≡ done y scene
    → value world frame (binary op a b) scene ≡ done (value_of_truth (truth_by (is_null_safe op) way x y)) scene
unfolding behind
comparison_gives world frame op way a b scene x y e h left right =
    let so = compares_so op way x y e h in
    ap (λ (e : Ending Value). then_do e (behind world frame op b)) left
    ∙ ap (λ (r : Result (Option Value) ℕ). then_do (answered r scene) (λ known. unless_known known (value world frame b >>= λ y. answered (binary_value op x y)))) so.0
    ∙ ap (λ (e : Ending Value). then_do e (λ y. answered (binary_value op x y))) right
    ∙ ap (λ (r : Result Value ℕ). answered r scene) so.1

-- where the column's value is surely no NULL, or `<=>` asks, it is known
pub known_left : (safe : Bool) (way : Way) (x v : Value) → safe || not (is_null x) ≡ true → is_null v ≡ false → truth_by safe way x v ≡ Some (stands_so way (value_order x v))
known_left true way x v sure there = refl
known_left false way Null v sure there = cc
known_left false way (Int n) v sure there = ap (λ (b : Bool). option_map (stands_so way) (cond b None (Some (value_order (Int n) v)))) there
known_left false way (Text t) v sure there = ap (λ (b : Bool). option_map (stands_so way) (cond b None (Some (value_order (Text t) v)))) there

pub known_right : (safe : Bool) (way : Way) (x v : Value) → safe || not (is_null x) ≡ true → is_null v ≡ false → truth_by safe way v x ≡ Some (stands_so way (value_order v x))
known_right true way x v sure there = refl
known_right false way x Null sure there = cc
known_right false way Null v sure there = cc
known_right false way (Int n) (Int m) sure there = refl
known_right false way (Int n) (Text s) sure there = refl
known_right false way (Text t) (Int m) sure there = refl
known_right false way (Text t) (Text s) sure there = refl

-- a comparison that is not so is not true
pub not_so : (safe : Bool) (way : Way) (x y : Value) → stands_so way (value_order x y) ≡ false → is_known_true (truth_by safe way x y) ≡ false
not_so true way x y e = e
not_so false way x y e = step (is_null x || is_null y)
  where
    step : (none : Bool) → is_known_true (option_map (stands_so way) (cond none None (Some (value_order x y)))) ≡ false
    step true = refl
    step false = e
