use Rattle.sql_tree.proofs.Shapes.{has_item-view}
use Rattle.sql_tree.proofs.statement_rules.has_assignment.Goals as goal

pub returns : goal.returns
returns c = has_item-view _ _ _ c.is_empty.ensures
