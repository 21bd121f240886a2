-- What a CALL answers.
use Rattle.std.proofs.Common.{◌≡◌, ℕ, List, [], Result, Ok, Err, refl, rules}
use Rattle.std.specs.Prelude.{IfOk}
use Rattle.val_types.specs.declared.value.Value.{Value}
use Rattle.answer_text.specs.declared.answer.Answer.{Answer}
use Rattle.fault_counts.specs.Causes.{Rose}
use Rattle.proc_parts.specs.catalog_rules.Objects.{Object}
use Rattle.exec_state.specs.declared.running.Running.{Nothing, the_lemmas}
use Rattle.exec_state.specs.UnderWay.{under_way}
use Rattle.proc_parts.specs.proc_model.Talk.{Left, Rules, Led, ends}
use Rattle.proc_parts.specs.proc_model.Procedures.{Came, Ending, Held, IsCall, begins, call_at, called, came, done, failed}
use Rattle.proc_parts.proofs.of_proc_model.Leading.{led_then}
use Rattle.proc_run.specs.declared.calls.CallRefusal.{CallRefusal}
use Rattle.proc_run.specs.declared.calls.CallRefusal.TheVariants as stops
use Rattle.proc_parts.specs.declared.runner.RunRefusal.{RunRefusal}
use Rattle.proc_parts.specs.declared.runner.RunRefusal.TheVariants.{Sql, Device, NoMemory}
use Rattle.proc_parts.specs.Calls.{EndsBy, plainly, refusal_of}
use Rattle.proc_run.specs.Answers.{AnswersBy}

pub nobody_runs : (under_way Nothing).functions ≡ []
nobody_runs = search (rules, the_lemmas)

abbrev came_at : Answer → Held → Came
came_at answer held = record { answer = answer; turns = held.turns; uuids = held.uuids }

module _ {S : Type 0} (rules : Rules S) (faults : S → ℕ) (catalog : List Object) (left : Left) (n : List ℕ) (vs : List Value) where
  came_so : (running : List (List ℕ)) (first : Held) (e : Ending (Unit {0})) (before after : S) → running ≡ [] → first ≡ begins left
      → Led rules (call_at catalog left.nesting running n vs first) before e after → Led rules (called catalog left n vs) before (came e) after
  unfolding called
  came_so running first e before after none start h =
      led_then rules (call_at catalog left.nesting [] n vs (begins left)) (λ (x : Ending (Unit {0})). ends (came x)) before after after e (came e) (rw (none, start) at h) (refl, refl)

  -- how a procedure ended, and what is answered of that
  came_by : (running : List (List ℕ)) (first : Held) (r : Result (Unit {0}) RunRefusal) (answer : Answer) (held : Held) (before after : S) → running ≡ [] → first ≡ begins left
      → EndsBy rules faults plainly r held before (call_at catalog left.nesting running n vs first) after → AnswersBy held r (Ok answer)
      → Led rules (called catalog left n vs) before (came_at answer held) after
  came_by running first (Ok u) answer held before after none start h is =
      let same : answer ≡ (came (done tt held)).answer = cc in
      rw same (came_so running first (done tt held) before after none start h)
  came_by running first (Err (Sql code holder)) answer held before after none start h is =
      let same : answer ≡ (came (failed (refusal_of code holder) held)).answer = cc in
      rw same (came_so running first (failed (refusal_of code holder) held) before after none start h)
  came_by running first (Err Device) answer held before after none start h is = cc
  came_by running first (Err NoMemory) answer held before after none start h is = cc

  pub call_comes : (running : List (List ℕ)) (first : Held) (r : Result (Unit {0}) RunRefusal) (result : Result Answer CallRefusal) (held : Held) (before after : S) → running ≡ [] → first ≡ begins left
      → EndsBy rules faults plainly r held before (call_at catalog left.nesting running n vs first) after → AnswersBy held r result
      → IfOk result (λ answer. IsCall rules catalog left n vs before (came_at answer held) after)
  call_comes running first r (Ok answer) held before after none start h is = came_by running first r answer held before after none start h is
  call_comes running first r (Err e) held before after none start h is = tt

  -- a device answers only where a count rose
  pub call_rose : (running : List (List ℕ)) (first : Held) (r : Result (Unit {0}) RunRefusal) (result : Result Answer CallRefusal) (held : Held) (before after : S)
      → EndsBy rules faults plainly r held before (call_at catalog left.nesting running n vs first) after → AnswersBy held r result → result ≡ Err stops.Device
      → Rose (faults before) (faults after)
  call_rose running first (Ok u) result held before after h is stopped = cc
  call_rose running first (Err (Sql code holder)) result held before after h is stopped = cc
  call_rose running first (Err Device) result held before after h is stopped = h
  call_rose running first (Err NoMemory) result held before after h is stopped = cc

pub ruleset answering = (nobody_runs, call_rose)
