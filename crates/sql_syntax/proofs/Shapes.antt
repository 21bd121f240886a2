-- What rules begin with, and what goes on with them.
use Rattle.std.proofs.Common.{ℕ, true, false, List, [], ◌∷◌, ◌++◌}
use Rattle.sql_lex.specs.declared.keyword.Keyword.TheVariants as words
use Rattle.sql_lex.specs.declared.token.Symbol.TheVariants as signs
use Rattle.sql_grammar.proofs.Lawful.{Shape, shape}
use Rattle.sql_syntax.specs.Tokens.{code, sign_code, number_code, text_code, tight_code, names, own_names}
use Rattle.sql_syntax.specs.Expressions.{built_in_names, uncalled_names, product_ops, sum_ops, test_kinds}

abbrev pub comma : List ℕ
comma = sign_code signs.Comma ∷ []

abbrev pub primaries : List ℕ
primaries =
    sign_code signs.Open ∷ code words.If ∷ code words.Values ∷ code words.Case ∷ code words.Exists ∷ sign_code signs.At ∷ sign_code signs.AtAt ∷ number_code ∷ text_code ∷ code words.Null
    ∷ (built_in_names ++ (uncalled_names ++ own_names))

abbrev pub operands : List ℕ
operands = tight_code ∷ sign_code signs.Minus ∷ primaries

-- what an expression begins with
abbrev pub starts : List ℕ
starts = code words.Not ∷ operands

abbrev pub behind_operands : List ℕ
behind_operands = sign_code signs.Open ∷ sign_code signs.Dot ∷ []

abbrev pub behind_sums : List ℕ
behind_sums = product_ops ++ (sum_ops ++ behind_operands)

abbrev pub behind_comparisons : List ℕ
behind_comparisons = test_kinds ++ behind_sums

abbrev pub behind_expressions : List ℕ
behind_expressions = code words.And ∷ code words.Or ∷ behind_comparisons

abbrev pub behind_lists : List ℕ
behind_lists = sign_code signs.Comma ∷ behind_expressions

abbrev pub behind_order : List ℕ
behind_order = code words.Order ∷ code words.Asc ∷ code words.Desc ∷ behind_lists

abbrev pub behind_selects : List ℕ
behind_selects = code words.From ∷ code words.Where ∷ code words.Limit ∷ code words.Offset ∷ behind_order

abbrev pub wholes : Shape
wholes = shape starts false behind_expressions true

abbrev pub negations : Shape
negations = shape starts false behind_comparisons true

abbrev pub prefixes : Shape
prefixes = shape operands false behind_operands true

abbrev pub selects : Shape
selects = shape (code words.Select ∷ []) false behind_selects true

-- what may go on with a statement
abbrev pub behind_statements : List ℕ
behind_statements = code words.On ∷ code words.To ∷ (names ++ behind_selects)

abbrev pub statements_from : List ℕ → Shape
statements_from first = shape first false behind_statements true
