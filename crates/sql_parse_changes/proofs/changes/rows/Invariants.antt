use Rattle.std.proofs.Common.{◌-◌}
use Rattle.sql_tree.specs.Depth.{depth_of_trees}
use Rattle.sql_tree.specs.View.{view_trees}
use Rattle.sql_syntax.specs.Changes.{a_row}
use Rattle.sql_syntax.specs.Parts.{list_of}
use Rattle.sql_parse_nodes.proofs.KeptLists.{Listed}
use Rattle.sql_parse_changes.proofs.changes.rows.Given as goal

abbrev pub invariant-loop-turn : goal.invariant-loop-turn
invariant-loop-turn l = Listed view_trees depth_of_trees (a_row l.depth) ((list_of (a_row l.depth)).read l.fn.rest) (l._turn-end - l._turn) l.rest l.items
