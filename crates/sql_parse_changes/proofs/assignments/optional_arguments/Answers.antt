use Rattle.std.proofs.Common.{refl}
use Rattle.sql_tree.specs.Tree.{no_tree}
use Rattle.sql_parse_changes.proofs.assignments.optional_arguments.Goals as goal

pub returns : goal.returns
returns c = (no_tree, rw (← c.if-is_mark.ensures) refl, rw c.new-part.ensures refl)
