use Rattle.std.proofs.Common.{◌∙◌}
use Rattle.sql_parse_tokens.proofs.Lexemes.{member_any}
use Rattle.sql_parse_tokens.proofs.rest.has.Goals as goal

pub returns : goal.returns
returns c = c.contains.ensures.value ∙ member_any c.args.kind c.args.kinds.now
