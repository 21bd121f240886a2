use Rattle.std.proofs.Common.{refl}
use Rattle.sql_parse_tokens.proofs.Lexemes.{kind_seen}
use Rattle.sql_parse_tokens.proofs.word.Word.is_own_name.Goals as goal

pub returns : goal.returns
returns c = rw (c.is_own_name.ensures, ← c.self.view_is, kind_seen c.self.inside.lexeme.now.sort _) refl
