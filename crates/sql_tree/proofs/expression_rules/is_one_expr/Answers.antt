use Rattle.sql_tree.proofs.Shapes.{is_one_tree-view}
use Rattle.sql_tree.proofs.expression_rules.is_one_expr.Goals as goal

pub returns : goal.returns
returns c = rw c.len.ensures (is_one_tree-view _)
