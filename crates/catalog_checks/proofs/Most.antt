-- No rank of a list is past that of no error.
use Rattle.std.proofs.Common.{◌≡◌, ℕ, min, List, [], ◌∷◌, refl, arith}
use Rattle.sql_tree.specs.Tree.{Tree, Trees, no_tree, tree, Arms, no_arm, arm, Aggregates, no_aggregate, count_all, aggregate, Orders, no_order, order_by}
use Rattle.sql_tree.specs.Statement.{Declared, Statements, no_statement, statement, Branches, no_branch, branch}
use Rattle.sql_tree.specs.declared.statements.Target.{Target}
use Rattle.catalog_objects.specs.catalog_rules.Nodes.{Sight}
use Rattle.catalog_objects.specs.catalog_rules.Ranks.{Asked, trees_rank, arms_rank, aggregates_rank, orders_rank, rows_rank, sets_rank, assignments_rank, declared_rank, steps_rank, branches_rank}

step : (a k : ℕ) → min 10 k ≡ k → min 10 (min a k) ≡ min a k
step a k e = omega arith

pub trees_most : (asked : Asked) (ts : Trees) (sight : Sight) → min 10 (trees_rank asked ts sight) ≡ trees_rank asked ts sight
trees_most asked no_tree sight = refl
trees_most asked (tree t ts) sight = step _ _ (trees_most asked ts sight)

pub arms_most : (asked : Asked) (arms : Arms) (sight : Sight) → min 10 (arms_rank asked arms sight) ≡ arms_rank asked arms sight
arms_most asked no_arm sight = refl
arms_most asked (arm c v arms) sight = step _ _ (arms_most asked arms sight)

pub aggregates_most : (asked : Asked) (as' : Aggregates) (sight : Sight) → min 10 (aggregates_rank asked as' sight) ≡ aggregates_rank asked as' sight
aggregates_most asked no_aggregate sight = refl
aggregates_most asked (count_all rest) sight = aggregates_most asked rest sight
aggregates_most asked (aggregate f a rest) sight = step _ _ (aggregates_most asked rest sight)

pub orders_most : (asked : Asked) (os : Orders) (sight : Sight) → min 10 (orders_rank asked os sight) ≡ orders_rank asked os sight
orders_most asked no_order sight = refl
orders_most asked (order_by t d os) sight = step _ _ (orders_most asked os sight)

pub rows_most : (asked : Asked) (rs : List Trees) → min 10 (rows_rank asked rs) ≡ rows_rank asked rs
rows_most asked [] = refl
rows_most asked (r ∷ rs) = step _ _ (rows_most asked rs)

pub sets_most : (asked : Asked) (t : List ℕ) (ss : List (List ℕ × Tree)) (sight : Sight) → min 10 (sets_rank asked t ss sight) ≡ sets_rank asked t ss sight
sets_most asked t [] sight = refl
sets_most asked t (s ∷ ss) sight = step _ _ (sets_most asked t ss sight)

pub assignments_most : (asked : Asked) (as' : List (Target × Tree)) → min 10 (assignments_rank asked as') ≡ assignments_rank asked as'
assignments_most asked [] = refl
assignments_most asked (a ∷ as') = step _ _ (assignments_most asked as')

pub declared_most : (asked : Asked) (ds : List Declared) → min 10 (declared_rank asked ds) ≡ declared_rank asked ds
declared_most asked [] = refl
declared_most asked (d ∷ ds) = step _ _ (declared_most asked ds)

pub steps_most : (asked : Asked) (ss : Statements) → min 10 (steps_rank asked ss) ≡ steps_rank asked ss
steps_most asked no_statement = refl
steps_most asked (statement s ss) = step _ _ (steps_most asked ss)

pub branches_most : (asked : Asked) (bs : Branches) → min 10 (branches_rank asked bs) ≡ branches_rank asked bs
branches_most asked no_branch = refl
branches_most asked (branch c ss bs) = step _ _ (branches_most asked bs)
