-- Statements are read exactly.
use Rattle.std.proofs.Common.{ℕ, List, [], ◌∷◌, refl}
use Rattle.sql_lex.specs.declared.keyword.Keyword.TheVariants as words
use Rattle.sql_grammar.specs.Whole.{IsExact}
use Rattle.sql_grammar.proofs.Lawful.{Lawful}
use Rattle.sql_grammar.proofs.Single.{widened}
use Rattle.sql_grammar.proofs.Choice.{either_lawful}
use Rattle.sql_grammar.proofs.Top.{is_exact}
use Rattle.sql_syntax.specs.Tokens.{kind, code}
use Rattle.sql_syntax.specs.Programs.{common_words}
use Rattle.sql_syntax.specs.Statements.{statement}
use Rattle.sql_syntax.proofs.Shapes.{statements_from}
use Rattle.sql_syntax.proofs.SessionLaws.{begun_lawful, started_lawful}
use Rattle.sql_syntax.proofs.ProgramLaws.{create_lawful, common_lawful, inner_lawful}

-- what a statement begins with
abbrev statement_words : List ℕ
statement_words = code words.Create ∷ code words.Begin ∷ code words.Start ∷ common_words

statement_lawful : (d : ℕ) → Lawful kind (statements_from statement_words) statement d
statement_lawful d =
    let a1 = either_lawful (code words.Start ∷ []) (started_lawful d) (common_lawful d) refl refl refl in
    let a2 = either_lawful (code words.Begin ∷ []) (begun_lawful d) a1 refl refl refl in
    widened (either_lawful (code words.Create ∷ []) (create_lawful (inner_lawful d)) a2 refl refl refl) (statements_from statement_words) refl

pub statement_exact : IsExact statement
statement_exact = is_exact statement_lawful refl
