-- Statements.
use Rattle.std.specs.Prelude.{ℕ, [], ◌∷◌}
use Rattle.sql_lex.specs.declared.keyword.Keyword.TheVariants as words
use Rattle.sql_tree.specs.Statement.{Statement}
use Rattle.sql_grammar.specs.Rule.{Rule, either}
use Rattle.sql_syntax.specs.Tokens.{Tok, kind, code}
use Rattle.sql_syntax.specs.Sessions.{begun, started}
use Rattle.sql_syntax.specs.Programs.{create, common, inner}

-- a statement, with as many constructs as the number says still to be opened
abbrev pub statement : ℕ → Rule Tok Statement
statement n =
    either kind (code words.Create ∷ []) (create n (inner n)) (
    either kind (code words.Begin ∷ []) begun (
    either kind (code words.Start ∷ []) started (common n)))
