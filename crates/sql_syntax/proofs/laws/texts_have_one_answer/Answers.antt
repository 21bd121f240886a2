use Rattle.sql_syntax.proofs.TextLaws.{each_decided, statement_once, place_once, deep_once, not_refused, not_deep, not_refused_deep}
use Rattle.sql_syntax.proofs.laws.texts_have_one_answer.Goals as goal

pub returns-clause-decided : goal.returns-clause-decided
returns-clause-decided c = each_decided

pub returns-clause-statement : goal.returns-clause-statement
returns-clause-statement c = statement_once

pub returns-clause-place : goal.returns-clause-place
returns-clause-place c = place_once

pub returns-clause-deep : goal.returns-clause-deep
returns-clause-deep c = deep_once

pub returns-clause-not_refused : goal.returns-clause-not_refused
returns-clause-not_refused c = not_refused

pub returns-clause-not_deep : goal.returns-clause-not_deep
returns-clause-not_deep c = not_deep

pub returns-clause-not_both : goal.returns-clause-not_both
returns-clause-not_both c = not_refused_deep
