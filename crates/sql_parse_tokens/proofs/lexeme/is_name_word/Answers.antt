use Rattle.sql_parse_tokens.proofs.Names.{name_word}
use Rattle.sql_parse_tokens.proofs.lexeme.is_name_word.Goals as goal

pub returns : goal.returns
returns c = rw c.is_reserved.ensures (name_word c.args.k)
