use Rattle.sql_syntax.specs.Expressions.{expression}
use Rattle.sql_parse_changes.proofs.AssignmentNodes.{plain_keeps}
use Rattle.sql_parse_changes.proofs.assignments.assigned.Goals as goal

pub returns-else-is_format : goal.returns-else-is_format
returns-else-is_format c = plain_keeps c.whole.result c.args.rest (expression c.args.depth).read c.args.is_format c.if-is_format.false c.whole.ensures
