use Rattle.std.proofs.Common.{refl}
use Rattle.sql_syntax.specs.Tokens.{kind, names, name_said}
use Rattle.sql_parse_tokens.proofs.Reading.{token_said}
use Rattle.sql_parse_tokens.proofs.parts.a_name.Goals as goal

pub returns : goal.returns
returns c = rw (token_said kind names name_said c.args.rest, c.in_ok-word.ensures, c.in_ok-name.ensures) refl
