use Rattle.std.proofs.Common.{refl, rules}
use Rattle.sql_tree.specs.declared.expressions.Arm.{the_lemmas}
use Rattle.sql_tree.specs.View.{view_tree, view_arm}
use Rattle.sql_tree.specs.Depth.{depth_of_tree}
use Rattle.sql_parse_nodes.specs.Kept.{view_beside, depth_beside}
use Rattle.sql_parse_nodes.proofs.KeptLaws.{placed, kept_beside}
use Rattle.sql_parse_nodes.proofs.nodes.arm.Goals as goal

pub returns : goal.returns
returns c = λ t u h i.
    rw (c.in_ok-part.ensures, c.into_inner.ensures, c.into_inner-2.ensures) (
    placed (view_beside view_tree view_tree) (depth_beside depth_of_tree depth_of_tree) view_arm (depth_beside depth_of_tree depth_of_tree) (λ p. p) (λ p. record { condition = p.0; value = p.1 })
    (λ p. search (rules, the_lemmas)) (t, u) refl _ c.in-Some.k (kept_beside view_tree depth_of_tree view_tree depth_of_tree t u _ _ h i) c.in-Some.ensures)
