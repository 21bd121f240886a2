use Rattle.sql_tree.proofs.Shapes.{has_order-view}
use Rattle.sql_tree.proofs.expression_rules.has_order.Goals as goal

pub returns : goal.returns
returns c = has_order-view _ _ c.is_empty.ensures
