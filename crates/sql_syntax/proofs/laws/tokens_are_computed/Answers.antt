use Rattle.sql_syntax.proofs.SpokenLaws.{spoken_tokens}
use Rattle.sql_syntax.proofs.laws.tokens_are_computed.Goals as goal

pub returns : goal.returns
returns c = spoken_tokens
