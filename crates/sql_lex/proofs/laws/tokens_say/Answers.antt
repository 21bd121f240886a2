use Rattle.std.proofs.Common.{refl, length}
use Rattle.sql_lex.proofs.SpanLaws.{tokens_say}
use Rattle.sql_lex.proofs.laws.tokens_say.Goals as goal

pub returns : goal.returns
returns c = λ text ts f. tokens_say text ts (length text) f refl
