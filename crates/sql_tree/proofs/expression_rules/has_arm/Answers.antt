use Rattle.sql_tree.proofs.Shapes.{has_arm-view}
use Rattle.sql_tree.proofs.expression_rules.has_arm.Goals as goal

pub returns : goal.returns
returns c = has_arm-view _ _ c.is_empty.ensures
