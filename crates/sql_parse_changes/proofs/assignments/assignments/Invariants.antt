use Rattle.std.proofs.Common.{◌-◌}
use Rattle.sql_syntax.specs.Sessions.{assignment}
use Rattle.sql_tree.specs.Depth.{depth_of_value}
use Rattle.sql_tree.specs.StatementView.{view_assignment}
use Rattle.sql_syntax.specs.Parts.{list_of}
use Rattle.sql_parse_nodes.proofs.KeptLists.{Listed}
use Rattle.sql_parse_changes.proofs.assignments.assignments.Given as goal

abbrev pub invariant-loop-turn : goal.invariant-loop-turn
invariant-loop-turn l = Listed view_assignment depth_of_value (assignment l.depth) ((list_of (assignment l.depth)).read l.fn.rest) (l._turn-end - l._turn) l.rest l.items
