use Rattle.sql_lex.proofs.Fronts.{one_front}
use Rattle.sql_lex.proofs.SpanLaws.{says_one_list}
use Rattle.sql_lex.proofs.laws.one_reading.Goals as goal

pub returns-clause-front : goal.returns-clause-front
returns-clause-front c = λ text ts us m n f g. one_front f us n g

pub returns-clause-says : goal.returns-clause-says
returns-clause-says c = says_one_list
