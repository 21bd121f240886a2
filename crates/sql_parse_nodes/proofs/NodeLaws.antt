-- What is kept of the nodes of expressions.
use Rattle.std.proofs.Common.{◌≡◌, ℕ, suc, Option, Some}
use Rattle.sql_parse_nodes.specs.declared.kept.Levelled.{Levelled}
use Rattle.sql_parse_nodes.specs.Kept.{kept, IsKept, beside, above, view_beside, depth_beside}
use Rattle.sql_tree.specs.declared.expressions.Expr.{Expr}
use Rattle.sql_tree.specs.Tree.{Tree}
use Rattle.sql_tree.specs.View.{view_tree}
use Rattle.sql_tree.specs.Depth.{depth_of_tree}
use Rattle.sql_parse_nodes.proofs.KeptLaws.{raised, kept_beside}

module _ {X A : Type 0} (view : X → A) (depth_of : A → ℕ) (f : A → Tree) (g : X → Expr) (seen : (x : X) → view_tree (g x) ≡ f (view x)) (more : (a : A) → depth_of_tree (f a) ≡ suc (depth_of a)) where
  -- a node over a part
  pub node : (a : A) (k : Option (Levelled X)) (l : Levelled X) → IsKept view depth_of a k → Some l ≡ above k → kept depth_of_tree (f a) ≡ Some (view_tree (g l.part), l.levels)
  node a k l h e = raised view depth_of view_tree depth_of_tree f g seen a (more a) k l h e

module _ {X Y A B : Type 0} (view_a : X → A) (depth_a : A → ℕ) (view_b : Y → B) (depth_b : B → ℕ) (f : A × B → Tree) (g : X × Y → Expr)
    (seen : (x : X × Y) → view_tree (g x) ≡ f (view_beside view_a view_b x)) (more : (p : A × B) → depth_of_tree (f p) ≡ suc (depth_beside depth_a depth_b p)) where
  -- a node over two parts
  pub node_of_two : (a : A) (b : B) (k : Option (Levelled X)) (l : Option (Levelled Y)) (m : Option (Levelled (X × Y))) (n : Levelled (X × Y))
      → IsKept view_a depth_a a k → IsKept view_b depth_b b l → m ≡ beside k l → Some n ≡ above m → kept depth_of_tree (f (a, b)) ≡ Some (view_tree (g n.part), n.levels)
  node_of_two a b k l m n h i e e' =
      raised (view_beside view_a view_b) (depth_beside depth_a depth_b) view_tree depth_of_tree f g seen (a, b) (more (a, b)) m n (rw e (kept_beside view_a depth_a view_b depth_b a b k l h i)) e'
