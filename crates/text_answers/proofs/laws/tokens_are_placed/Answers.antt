use Rattle.text_answers.proofs.Answers.{placed_front}
use Rattle.text_answers.proofs.laws.tokens_are_placed.Goals as goal

pub returns : goal.returns
returns c = placed_front
