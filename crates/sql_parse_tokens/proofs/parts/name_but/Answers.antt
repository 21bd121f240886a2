use Rattle.std.proofs.Common.{Some}
use Rattle.sql_syntax.specs.Tokens.{kind, names, name_said}
use Rattle.sql_parse_tokens.proofs.Reading.{but_skips, but_keeps}
use Rattle.sql_parse_tokens.proofs.parts.name_but.Goals as goal

pub returns-then-is_in : goal.returns-then-is_in
returns-then-is_in c = but_skips kind names c.args.set.now (λ t. Some (name_said t)) c.args.rest c.if-is_in.ensures

pub returns : goal.returns
returns c = rw (but_keeps kind names c.args.set.now (λ t. Some (name_said t)) c.args.rest c.if-is_in.ensures) c.a_name.ensures
