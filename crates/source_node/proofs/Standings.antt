-- A node is what the machine's step makes of it, for each run for which it stands.
use Rattle.std.proofs.Common.{◌≡◌, ℕ, List, ◌++◌, map, Result, Ok, Err, IfOk, ap, ◌∙◌, subst}
use Rattle.port_traits.specs.declared.identity.Draw.{Draw}
use Rattle.answer_text.specs.declared.answer.Answer.{Answer}
use Rattle.session_transaction.specs.log_entries.declared.entries.Item.{Item}
use Rattle.session_transaction.specs.log_entries.declared.entries.Entry.{Entry}
use Rattle.session_transaction.specs.log_model.Log.{LogPlace}
use Rattle.session_transaction.specs.session_shared.waiting_entries.declared.waiting.Waiting.{Waiting}
use Rattle.session_transaction.specs.session_shared.waiting_entries.Waiting.{CanWaitAll, all_waiting}
use Rattle.session_model.specs.Sessions.{State}
use Rattle.session_model.specs.Machine.{Machine, Step, StepsAreKept, Whole, kept, kept_entry, kept_step, step, whole}
use Rattle.session_transaction.specs.session_shared.Desk.{place_of}
use Rattle.source_node.specs.Standing.{IsStepped, Kept, Stands, state_of}
use Rattle.session_transaction.specs.session_shared.Logging.{Logs}
use Rattle.session_transaction.proofs.of_session_shared.Logging.{logged_is}

module _ (old new : Kept) (n : ℕ) (text : List ℕ) (draw : Draw) (law : StepsAreKept) (m : Machine) (stands : Stands old m) where
  abbrev whole_step : Step Whole
  whole_step = step whole old.identity m.state n text draw

  same_step : step kept old.identity (state_of old) n text draw ≡ kept_step whole_step
  same_step = ap (λ s. step kept old.identity s n text draw) stands.state ∙ law old.identity m.state n text draw

  count_is : old.desk.committed ≡ m.state.shared.committed
  count_is = ap (λ (s : State Item). s.shared.committed) stands.state

  place_is : place_of old.desk.log ≡ m.state.shared.place
  place_is = ap (λ (s : State Item). s.shared.place) stands.state

  entries_are : (step kept old.identity (state_of old) n text draw).committed ≡ map kept_entry whole_step.committed
  entries_are = ap (λ (s : Step Item). s.committed) same_step

  module _ (logs : Logs (step kept old.identity (state_of old) n text draw).committed old.desk new.desk) where
    waiting_is : new.desk.log.waiting ≡ all_waiting (map kept_entry whole_step.committed) m.state.shared.committed m.state.shared.place
    waiting_is =
        let es : List (Entry Item) = (step kept old.identity (state_of old) n text draw).committed in
        logs.0 ∙ logged_is es old.desk.log.waiting old.desk.committed (place_of old.desk.log)
        ∙ ap (λ (ws : List Waiting). ws ++ all_waiting es old.desk.committed (place_of old.desk.log)) stands.none
        ∙ ap (λ (more : List (Entry Item)). all_waiting more old.desk.committed (place_of old.desk.log)) entries_are
        ∙ ap (λ (k : ℕ). all_waiting (map kept_entry whole_step.committed) k (place_of old.desk.log)) count_is
        ∙ ap (λ (p : LogPlace). all_waiting (map kept_entry whole_step.committed) m.state.shared.committed p) place_is

    can_wait : CanWaitAll (map kept_entry whole_step.committed) m.state.shared.committed m.state.shared.place
    can_wait =
        subst (λ (p : LogPlace). CanWaitAll (map kept_entry whole_step.committed) m.state.shared.committed p) place_is
        (subst (λ (k : ℕ). CanWaitAll (map kept_entry whole_step.committed) k (place_of old.desk.log)) count_is
        (subst (λ (es : List (Entry Item)). CanWaitAll es old.desk.committed (place_of old.desk.log)) entries_are logs.1))

exec_stands : (a : Answer) (old new : Kept) (n : ℕ) (text : List ℕ) (draw : Draw) → StepsAreKept
    → a ≡ (step kept old.identity (state_of old) n text draw).answer
    → state_of new ≡ (step kept old.identity (state_of old) n text draw).state
    → Logs (step kept old.identity (state_of old) n text draw).committed old.desk new.desk
    → (m : Machine) → Stands old m → IsStepped m.state (step whole old.identity m.state n text draw) new a
exec_stands a old new n text draw law answer state logs m stands =
    let same = same_step old new n text draw law m stands in
    record {
      answer = answer ∙ ap (λ (s : Step Item). s.answer) same;
      state = state ∙ ap (λ (s : Step Item). s.state) same;
      waiting = waiting_is old new n text draw law m stands logs;
      can = can_wait old new n text draw law m stands logs;
    }

pub exec_if : {E : Type 0} (r : Result Answer E) (old new : Kept) (n : ℕ) (text : List ℕ) (draw : Draw) → StepsAreKept
    → IfOk r (λ answer. answer ≡ (step kept old.identity (state_of old) n text draw).answer)
    → IfOk r (λ answer. state_of new ≡ (step kept old.identity (state_of old) n text draw).state)
    → IfOk r (λ answer. Logs (step kept old.identity (state_of old) n text draw).committed old.desk new.desk)
    → (m : Machine) → Stands old m → IfOk r (λ answer. IsStepped m.state (step whole old.identity m.state n text draw) new answer)
exec_if (Ok a) old new n text draw law answer state logs m stands = exec_stands a old new n text draw law answer state logs m stands
exec_if (Err e) old new n text draw law answer state logs m stands = tt
