use Rattle.sql_tree.proofs.Shapes.{has_branch-view}
use Rattle.sql_tree.proofs.statement_rules.has_branch.Goals as goal

pub returns : goal.returns
returns c = has_branch-view _ _ c.is_empty.ensures
