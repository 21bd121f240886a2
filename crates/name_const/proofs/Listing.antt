-- Lists of expressions with locals closed in, item by item.
use Rattle.std.proofs.Common.{◌≡◌, ℕ, ◌≤◌, List, [], ◌∷◌, map, length, take, Bool, Option, Some, None, refl, ap, ◌∙◌}
use Rattle.std.proofs.lemmas.List.{take_all}
use Rattle.val_types.specs.declared.ops.Agg.{Agg}
use Rattle.sql_tree.specs.Tree.{Tree, tree, arm, aggregate, count_all, order_by}
use Rattle.sql_tree.specs.View.{trees_of, arms_of, aggregates_of, orders_of}
use Rattle.sql_locals.specs.declared.locals.Local.{Local}
use Rattle.name_const_names.specs.name_const_length.Closed.{closed_tree, closed_trees, closed_arms, closed_aggregates, closed_orders}
use Rattle.name_const_names.specs.name_const_length.Items.{closed_arm, closed_aggregate, closed_item}

module _ (locals : List Local) where
  pub trees-items : (ts : List Tree) → closed_trees locals (trees_of ts) ≡ trees_of (map (closed_tree locals) ts)
  trees-items [] = refl
  trees-items (t ∷ ts) = ap (λ rest. tree (closed_tree locals t) rest) (trees-items ts)

  pub arms-items : (as' : List (Tree × Tree)) → closed_arms locals (arms_of as') ≡ arms_of (map (closed_arm locals) as')
  arms-items [] = refl
  arms-items (a ∷ as') = ap (λ rest. arm (closed_tree locals a.0) (closed_tree locals a.1) rest) (arms-items as')

  pub aggregates-items : (as' : List (Option (Agg × Tree))) → closed_aggregates locals (aggregates_of as') ≡ aggregates_of (map (closed_aggregate locals) as')
  aggregates-items [] = refl
  aggregates-items (None ∷ as') = ap count_all (aggregates-items as')
  aggregates-items (Some a ∷ as') = ap (λ rest. aggregate a.0 (closed_tree locals a.1) rest) (aggregates-items as')

  pub orders-items : (os : List (Tree × Bool)) → closed_orders locals (orders_of os) ≡ orders_of (map (closed_item locals) os)
  orders-items [] = refl
  orders-items (o ∷ os) = ap (λ rest. order_by (closed_tree locals o.0) o.1 rest) (orders-items os)

-- what is made of what is made
twice : {X Y Z : Type 0} (f : Y → Z) (g : X → Y) (xs : List X) → map (λ x. f (g x)) xs ≡ map f (map g xs)
twice f g [] = refl
twice f g (x ∷ xs) = ap (λ rest. f (g x) ∷ rest) (twice f g xs)

-- of all items something is made, where it is made of as many as there are
pub all-made : {X Y A : Type 0} (f : X → A) (g : A → A) (h : Y → A) (made : List X) (items : List Y) (k : ℕ)
    → length items ≤ k → map f made ≡ map (λ y. g (h y)) (take k items) → map f made ≡ map g (map h items)
all-made f g h made items k past e = e ∙ ap (λ ys. map (λ y. g (h y)) ys) (take_all k items past) ∙ twice g h items
