-- What a CALL answers, by how its procedure ended.
use Rattle.std.specs.Prelude.{◌≡◌, Result, Ok, Err}
use Rattle.proc_parts.specs.proc_model.Talk.{Refusal}
use Rattle.proc_parts.specs.proc_model.Procedures.{Held, Ending, done, failed, came}
use Rattle.answer_text.specs.declared.answer.Answer.{Answer}
use Rattle.proc_parts.specs.declared.runner.RunRefusal.{RunRefusal}
use Rattle.proc_parts.specs.declared.runner.RunRefusal.TheVariants.{Sql, Device, NoMemory}
use Rattle.proc_parts.specs.Calls.{refusal_of}
use Rattle.proc_run.specs.declared.calls.CallRefusal.{CallRefusal}
use Rattle.proc_run.specs.declared.calls.CallRefusal.TheVariants as stops

abbrev pub refused_call : Refusal → Held → Ending (Unit {0})
refused_call refusal held = failed refusal held

-- the answer of a CALL, by how its procedure ended
abbrev pub AnswersBy : Held → Result (Unit {0}) RunRefusal → Result Answer CallRefusal → Type 0
AnswersBy held (Ok u) answer = answer ≡ Ok (came (done tt held)).answer
AnswersBy held (Err (Sql code holder)) answer = answer ≡ Ok (came (refused_call (refusal_of code holder) held)).answer
AnswersBy held (Err Device) answer = answer ≡ Err stops.Device
AnswersBy held (Err NoMemory) answer = answer ≡ Err stops.NoMemory
