-- What stands behind the left operand of a comparison, as the parser keeps it.
use Rattle.std.specs.Prelude.{ℕ}
use Rattle.sql_tree.specs.View.{view_tree, view_trees}
use Rattle.sql_tree.specs.Depth.{depth_of_tree, depth_of_trees}
use Rattle.sql_syntax.specs.Expressions.{Test, compared, null_test, among}
use Rattle.sql_parse_nodes.specs.declared.nodes.Trial.{Trial}
use Rattle.sql_parse_nodes.specs.declared.nodes.Trial.TheVariants as trials

-- as it is seen
abbrev pub view_trial : Trial → Test
view_trial (trials.Compared op a) = compared op (view_tree a)
view_trial (trials.IsNull op) = null_test op
view_trial (trials.Among negated items) = among negated (view_trees items)

-- the levels of its deepest part
abbrev pub depth_of_test : Test → ℕ
depth_of_test (compared op a) = depth_of_tree a
depth_of_test (null_test op) = 0
depth_of_test (among negated items) = depth_of_trees items
