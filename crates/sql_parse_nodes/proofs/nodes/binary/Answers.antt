use Rattle.std.proofs.Common.{refl, rules}
use Rattle.sql_tree.specs.declared.expressions.Expr
use Rattle.sql_tree.specs.declared.expressions.Expr.{the_lemmas}
use Rattle.sql_tree.specs.Tree.{binary}
use Rattle.sql_tree.specs.View.{view_tree}
use Rattle.sql_tree.specs.Depth.{depth_of_tree}
use Rattle.sql_parse_nodes.proofs.NodeLaws.{node_of_two}
use Rattle.sql_parse_nodes.proofs.nodes.binary.Goals as goal

pub returns : goal.returns
returns c = λ t u h i.
    let op = c.args.op in
    rw c.in_ok-part.ensures (node_of_two view_tree depth_of_tree view_tree depth_of_tree (λ p. binary op p.0 p.1) (λ p. Expr.Binary op p.0 p.1) (λ p. search (rules, the_lemmas)) (λ p. refl) t u _ _ _ _ h i c.beside.ensures c.in-Some.ensures)
