use Rattle.sql_lex.proofs.KeywordLaws.{word_found}
use Rattle.sql_lex.proofs.keyword.keywords_have_words.Goals as goal

pub returns : goal.returns
returns c = word_found
