use Rattle.sql_grammar.proofs.Worked.{groups, ends_too_soon, opens_too_many, closes_too_soon, marks_twice, scales_too_far, applies, applies_too_deep}
use Rattle.sql_grammar.proofs.laws.worked_texts_are_read.Goals as goal

pub returns-clause-groups : goal.returns-clause-groups
returns-clause-groups c = groups

pub returns-clause-ends : goal.returns-clause-ends
returns-clause-ends c = ends_too_soon

pub returns-clause-deep : goal.returns-clause-deep
returns-clause-deep c = opens_too_many

pub returns-clause-closes : goal.returns-clause-closes
returns-clause-closes c = closes_too_soon

pub returns-clause-twice : goal.returns-clause-twice
returns-clause-twice c = marks_twice

pub returns-clause-far : goal.returns-clause-far
returns-clause-far c = scales_too_far

pub returns-clause-applies : goal.returns-clause-applies
returns-clause-applies c = applies

pub returns-clause-applies_deep : goal.returns-clause-applies_deep
returns-clause-applies_deep c = applies_too_deep
