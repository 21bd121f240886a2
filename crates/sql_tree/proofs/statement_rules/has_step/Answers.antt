use Rattle.sql_tree.proofs.Shapes.{has_statement-view}
use Rattle.sql_tree.proofs.statement_rules.has_step.Goals as goal

pub returns : goal.returns
returns c = has_statement-view _ _ c.is_empty.ensures
