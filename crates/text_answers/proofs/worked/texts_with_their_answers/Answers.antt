use Rattle.std.proofs.Common.{refl}
use Rattle.sql_grammar.specs.Reader.{steps}
use Rattle.sql_syntax.specs.Tokens.{kind}
use Rattle.sql_syntax.specs.Expressions.{nested}
use Rattle.sql_syntax.specs.Programs.{inner, created_within}
use Rattle.text_answers.specs.Answers.{tokens_from, text_answer}
use Rattle.text_answers.proofs.worked.texts_with_their_answers.Goals as goal

pub returns-clause-whole : goal.returns-clause-whole
unfolding kind steps nested inner created_within tokens_from text_answer
returns-clause-whole c = refl

pub returns-clause-form : goal.returns-clause-form
unfolding kind steps nested inner created_within tokens_from text_answer
returns-clause-form c = refl

pub returns-clause-second : goal.returns-clause-second
unfolding kind steps nested inner created_within tokens_from text_answer
returns-clause-second c = refl

pub returns-clause-nothing : goal.returns-clause-nothing
unfolding kind steps nested inner created_within tokens_from text_answer
returns-clause-nothing c = refl

pub returns-clause-remark : goal.returns-clause-remark
unfolding kind steps nested inner created_within tokens_from text_answer
returns-clause-remark c = refl

pub returns-clause-wide : goal.returns-clause-wide
unfolding kind steps nested inner created_within tokens_from text_answer
returns-clause-wide c = refl

pub returns-clause-behind : goal.returns-clause-behind
unfolding kind steps nested inner created_within tokens_from text_answer
returns-clause-behind c = refl
