-- The answer of a statement, by what is told of it.
use Rattle.std.specs.Prelude.{false}
use Rattle.std.specs.Option.{option_map_or}
use Rattle.answer_text.specs.declared.answer.Answer.{Answer}
use Rattle.prog_work.specs.declared.meter.Outcome.{Outcome}
use Rattle.session_model.specs.Answers.{ok, showing}

abbrev pub told_answer : Outcome → Answer
told_answer told = option_map_or (showing false) told.rows (ok told.affected)
