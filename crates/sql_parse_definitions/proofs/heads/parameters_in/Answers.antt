use Rattle.sql_lex.specs.declared.token.Symbol.TheVariants as signs
use Rattle.sql_grammar.specs.Rule.{any_of}
use Rattle.sql_syntax.specs.Tokens.{kind, sign_code}
use Rattle.sql_syntax.specs.Programs.{parameters, parameter_of}
use Rattle.sql_parse_tokens.proofs.Reading.{opened_gives}
use Rattle.sql_parse_definitions.proofs.heads.parameters_in.Goals as goal

pub returns : goal.returns
returns c =
    opened_gives (λ ps. ps) c.parameters.result c.args.depth c.in_ok-depth.depth (any_of kind (sign_code signs.Open)) (λ d. parameters (parameter_of c.args.may_in d)) c.args.rest c.in_ok-depth.rest
    (rw c.sign_code.ensures at c.in_ok-depth.ensures.reads) c.in_ok-depth.ensures.one_less c.parameters.ensures
