use Rattle.sql_lex.specs.declared.token.Symbol.TheVariants as signs
use Rattle.sql_grammar.specs.Rule.{any_of}
use Rattle.sql_syntax.specs.Tokens.{kind, sign_code}
use Rattle.sql_syntax.specs.Parts.{closed}
use Rattle.sql_syntax.specs.Tables.{table_parts}
use Rattle.sql_parse_tokens.proofs.Reading.{opened_gives}
use Rattle.sql_parse_definitions.proofs.tables.parts_in.Goals as goal

pub returns : goal.returns
returns c =
    opened_gives (λ ps. ps) c.closed_parts.result c.args.depth c.in_ok-depth.depth (any_of kind (sign_code signs.Open)) (λ d. closed (table_parts d)) c.args.rest c.in_ok-depth.rest
    (rw c.sign_code.ensures at c.in_ok-depth.ensures.reads) c.in_ok-depth.ensures.one_less c.closed_parts.ensures
