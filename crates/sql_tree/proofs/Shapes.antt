-- How many items a list has, read from the plain tree that it is seen as.
use Rattle.std.proofs.Common.{◌≡◌, ℕ, suc, Bool, true, false, not, IsTrue, ◌↔◌, List, [], ◌∷◌, map, length, nat_eq, refl, ap, ◌∙◌, arith, Option, Some, None}
use Rattle.sql_tree.specs.Well.{has_tree, is_one_tree, has_arm, has_aggregate, is_one_aggregate, has_order, has_item, has_statement, has_branch}
use Rattle.sql_tree.specs.View.{view_trees, view_arms, view_aggregates, view_orders, aggregate_before, view_aggregate}
use Rattle.sql_tree.specs.StatementView.{view_statements, view_branches}
use Rattle.sql_tree.specs.declared.statements.Stmt.{Stmt}
use Rattle.sql_tree.specs.declared.statements.Branch.{Branch}
use Rattle.sql_tree.specs.Tree.{Tree, Aggregates, no_aggregate}
use Rattle.val_types.specs.declared.ops.Agg.{Agg}
use Rattle.sql_tree.specs.declared.expressions.Expr.{Expr}
use Rattle.sql_tree.specs.declared.expressions.Arm.{Arm}
use Rattle.sql_tree.specs.declared.expressions.Aggregate.{Aggregate}
use Rattle.sql_tree.specs.declared.expressions.OrderItem.{OrderItem}

-- the test for an empty list answers true at one
empty_is : (A : Type 0) (r : Bool) → (IsTrue r ↔ (◌≡◌ {A = List A} [] [])) → not r ≡ false
empty_is A true h = refl
empty_is A false h = let e = h.1 refl in cc

-- and false at one with a first item
first_is : (A : Type 0) (x : A) (xs : List A) (r : Bool) → (IsTrue r ↔ (x ∷ xs ≡ [])) → not r ≡ true
first_is A x xs true h = let e = h.0 refl in cc
first_is A x xs false h = refl

pub has_tree-view : (r : Bool) (es : List Expr) → (IsTrue r ↔ (es ≡ [])) → not r ≡ has_tree (view_trees es)
has_tree-view r [] h = empty_is _ r h
has_tree-view r (e ∷ es) h = first_is _ e es r h

pub has_arm-view : (r : Bool) (as' : List Arm) → (IsTrue r ↔ (as' ≡ [])) → not r ≡ has_arm (view_arms as')
has_arm-view r [] h = empty_is _ r h
has_arm-view r (a ∷ as') h = first_is _ a as' r h

pub has_order-view : (r : Bool) (os : List OrderItem) → (IsTrue r ↔ (os ≡ [])) → not r ≡ has_order (view_orders os)
has_order-view r [] h = empty_is _ r h
has_order-view r (o ∷ os) h = first_is _ o os r h

has_aggregate-before : (a : Option (Agg × Tree)) (rest : Aggregates) → true ≡ has_aggregate (aggregate_before a rest)
has_aggregate-before None rest = refl
has_aggregate-before (Some a) rest = refl

pub has_aggregate-view : (r : Bool) (as' : List Aggregate) → (IsTrue r ↔ (as' ≡ [])) → not r ≡ has_aggregate (view_aggregates as')
has_aggregate-view r [] h = empty_is _ r h
has_aggregate-view r (a ∷ as') h = first_is _ a as' r h ∙ has_aggregate-before (view_aggregate a) (view_aggregates as')

two_are_not_one : (n : ℕ) → nat_eq (suc (suc n)) 1 ≡ false
two_are_not_one n = grind arith

pub is_one_tree-view : (es : List Expr) → nat_eq (length es) 1 ≡ is_one_tree (view_trees es)
is_one_tree-view [] = refl
is_one_tree-view (e ∷ []) = refl
is_one_tree-view (e ∷ (f ∷ es)) = two_are_not_one (length es)

is_one_aggregate-before : (a : Option (Agg × Tree)) (rest : Aggregates) → not (has_aggregate rest) ≡ is_one_aggregate (aggregate_before a rest)
is_one_aggregate-before None rest = refl
is_one_aggregate-before (Some a) rest = refl

pub is_one_aggregate-view : (as' : List Aggregate) → nat_eq (length as') 1 ≡ is_one_aggregate (view_aggregates as')
is_one_aggregate-view [] = refl
is_one_aggregate-view (a ∷ []) = is_one_aggregate-before (view_aggregate a) no_aggregate
is_one_aggregate-view (a ∷ (b ∷ as')) =
    two_are_not_one (length as') ∙ ap not (has_aggregate-before (view_aggregate b) (view_aggregates as'))
    ∙ is_one_aggregate-before (view_aggregate a) (view_aggregates (b ∷ as'))

-- the same for the lists of statements

pub has_item-view : {A B : Type 0} (f : A → B) (r : Bool) (xs : List A) → (IsTrue r ↔ (xs ≡ [])) → not r ≡ has_item (map f xs)
has_item-view f r [] h = empty_is _ r h
has_item-view f r (x ∷ xs) h = first_is _ x xs r h

pub has_statement-view : (r : Bool) (ss : List Stmt) → (IsTrue r ↔ (ss ≡ [])) → not r ≡ has_statement (view_statements ss)
has_statement-view r [] h = empty_is _ r h
has_statement-view r (s ∷ ss) h = first_is _ s ss r h

pub has_branch-view : (r : Bool) (bs : List Branch) → (IsTrue r ↔ (bs ≡ [])) → not r ≡ has_branch (view_branches bs)
has_branch-view r [] h = empty_is _ r h
has_branch-view r (b ∷ bs) h = first_is _ b bs r h
