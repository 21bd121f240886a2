use Rattle.text_answers.proofs.Answers.{answers_well}
use Rattle.text_answers.proofs.laws.answers_are_well.Goals as goal

pub returns : goal.returns
returns c = answers_well c.readings_are_well.ensures
