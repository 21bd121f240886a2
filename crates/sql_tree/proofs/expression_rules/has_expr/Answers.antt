use Rattle.sql_tree.proofs.Shapes.{has_tree-view}
use Rattle.sql_tree.proofs.expression_rules.has_expr.Goals as goal

pub returns : goal.returns
returns c = has_tree-view _ _ c.is_empty.ensures
