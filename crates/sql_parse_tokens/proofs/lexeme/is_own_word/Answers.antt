use Rattle.sql_parse_tokens.proofs.Names.{own_word, reserved_word}
use Rattle.sql_parse_tokens.proofs.lexeme.is_own_word.Goals as goal

pub returns-then-not-is_reserved : goal.returns-then-not-is_reserved
returns-then-not-is_reserved c = rw (c.code.ensures, c.code-then-not-is_reserved.ensures) (own_word c.args.k c.if-not-is_reserved.ensures)

pub returns-else-not-is_reserved : goal.returns-else-not-is_reserved
returns-else-not-is_reserved c = rw c.if-not-is_reserved.false (reserved_word c.args.k c.if-not-is_reserved.ensures)
