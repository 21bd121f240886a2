use Rattle.std.proofs.Common.{◌-◌}
use Rattle.sql_syntax.specs.Changes.{set_item}
use Rattle.sql_syntax.specs.Expressions.{expression}
use Rattle.sql_tree.specs.Depth.{depth_of_value}
use Rattle.sql_tree.specs.StatementView.{view_set}
use Rattle.sql_syntax.specs.Parts.{list_of}
use Rattle.sql_parse_nodes.proofs.KeptLists.{Listed}
use Rattle.sql_parse_changes.proofs.changes.sets.Given as goal

abbrev pub invariant-loop-turn : goal.invariant-loop-turn
invariant-loop-turn l = Listed view_set depth_of_value (set_item (expression l.depth)) ((list_of (set_item (expression l.depth))).read l.fn.rest) (l._turn-end - l._turn) l.rest l.items
