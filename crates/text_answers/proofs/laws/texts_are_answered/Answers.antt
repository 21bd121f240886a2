use Rattle.text_answers.proofs.Answers.{answered}
use Rattle.text_answers.proofs.laws.texts_are_answered.Goals as goal

pub returns : goal.returns
returns c = answered
