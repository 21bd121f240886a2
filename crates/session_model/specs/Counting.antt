-- What ROW_COUNT() is behind an answer.
use Rattle.answer_text.specs.declared.answer.Answer.{Answer}
use Rattle.session_ctx.specs.declared.session.SessionVars.{SessionVars}
use Rattle.session_model.specs.Answers.{row_count_after}
use Rattle.session_model.specs.Sessions.{Session}

abbrev pub counted_vars : Answer → SessionVars → SessionVars
counted_vars answer vars = record vars { context = record (vars.context) { row_count = row_count_after answer.end } }

abbrev pub counted : {I : Type 0} → Answer → Session I → Session I
counted answer session = record session { vars = counted_vars answer session.vars }
