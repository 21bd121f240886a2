-- Statements with their texts.
use Rattle.std.specs.Prelude.{◌≡◌, ℕ, List}
use Rattle.sql_tree.specs.Statement.{Statement}
use Rattle.sql_tree.specs.Well.{IsWell}
use Rattle.sql_print.specs.StatementSpelling.{spelling}

-- a statement that the parser can give, and its text
abbrev pub IsWellAs : Statement → List ℕ → Type 0
IsWellAs s text = IsWell s × (spelling s ≡ text)
