use Rattle.sql_tree.proofs.Shapes.{has_aggregate-view}
use Rattle.sql_tree.proofs.expression_rules.has_aggregate.Goals as goal

pub returns : goal.returns
returns c = has_aggregate-view _ _ c.is_empty.ensures
