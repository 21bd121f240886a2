use Rattle.sql_lex.proofs.SpanLaws.{tokens_spans, tokens_within}
use Rattle.sql_lex.proofs.laws.tokens_are_slices.Goals as goal

pub returns-clause-spans : goal.returns-clause-spans
returns-clause-spans c = tokens_spans

pub returns-clause-within : goal.returns-clause-within
returns-clause-within c = tokens_within
