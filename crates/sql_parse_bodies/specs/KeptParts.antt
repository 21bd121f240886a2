-- How many levels the parts of stored programs have.
use Rattle.std.specs.Prelude.{ℕ, max}
use Rattle.sql_tree.specs.Tree.{Tree}
use Rattle.sql_tree.specs.Statement.{Statements}
use Rattle.sql_tree.specs.Depth.{depth_of_statements, depth_of_tree}

-- the levels of a condition and its steps
abbrev pub depth_of_branch : Tree × Statements → ℕ
depth_of_branch b = max (depth_of_tree b.0) (depth_of_statements b.1)
