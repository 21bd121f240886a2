use Rattle.std.proofs.Common.{◌≡◌, length}
use Rattle.sql_tree.specs.Depth.{depth_of}
use Rattle.sql_tree.specs.Statement.{Statement}
use Rattle.sql_tree.specs.StatementView.{view}
use Rattle.sql_parse_nodes.specs.Kept.{IsKept}
use Rattle.sql_syntax.specs.Programs.{with_heads}
use Rattle.sql_parse_bodies.proofs.bodies.with_heads.Given as goal

abbrev pub invariant-loop-head : goal.invariant-loop-head
invariant-loop-head l = (s : Statement) → IsKept view depth_of s l.fn.body → (t : Statement) × IsKept view depth_of t l.body × (with_heads l.heads t ≡ with_heads l.fn.heads s)

abbrev pub decreases-loop-head : goal.decreases-loop-head
decreases-loop-head l = length l.heads
