use Rattle.std.proofs.Common.{[], ◌∷◌, rules}
use Rattle.sql_syntax.specs.Tokens.{kind, number_code, number_said}
use Rattle.sql_parse_tokens.proofs.Numbers.{number_taken}
use Rattle.sql_parse_tokens.proofs.Reading.{token_said}
use Rattle.sql_parse_tokens.proofs.parts.plain_value.Goals as goal

pub returns-then-is_in : goal.returns-then-is_in
returns-then-is_in c =
    let e = c.integer.ensures (number_taken _ _ _ c.in_ok-word.ensures) in
    rw (← c.if-is_in.ensures, token_said kind (number_code ∷ []) number_said c.args.rest, c.in_ok-word.ensures) (search (rules, e))
