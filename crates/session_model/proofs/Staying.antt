-- In a CALL a step that is refused leaves all where it stands, and what the steps before it did stays.
use Rattle.std.proofs.Common.{◌≡◌, ℕ, Bool, true, false, List, [], ◌∷◌, ◌++◌, Option, Some, None, Result, Ok, Err, ℤ, refl, sym, ◌∙◌, ap, cond, append-nil, append_assoc}
use Rattle.val_types.specs.declared.change.Change.{Change}
use Rattle.val_types.specs.declared.value.Value.{Value}
use Rattle.sql_tree.specs.Statement.{Statement, evaluate}
use Rattle.sql_tree.specs.Tree.{Trees, no_tree, tree}
use Rattle.sql_locals.specs.declared.locals.Local.{Local}
use Rattle.sql_print.specs.StatementSpelling.{spelling}
use Rattle.session_ctx.specs.catalog_rules.Checks.{session_scope}
use Rattle.session_ctx.specs.sql_meaning.Scenes.{Scene, Ending, done, failed}
use Rattle.session_ctx.specs.sql_meaning.Changing.{Did}
use Rattle.session_ctx.specs.sql_meaning.Running.{effect, evaluation, context_after}
use Rattle.proc_model.specs.sql_reach.Closing.{closed}
use Rattle.proc_model.specs.sql_reach.Defining.{number_of_bytes}
use Rattle.proc_model.specs.Talk.{Left, Refusal, Told}
use Rattle.proc_model.specs.Procedures.{scope_of}
use Rattle.proc_model.proofs.Leading.{talk_keeps}
use Rattle.session_model.specs.Sessions.{Open, Session, Shared}
use Rattle.session_model.specs.Running.{Call, full, Turn, Given, items_of, is_other, takes_too_much, undone, ended, scene_for, setting_of, settle, given_by, is_warned, item_of, keep, kept_open, made_behind, with_counters, with_context, statement_run, values_run}
use Rattle.session_model.specs.Calling.{Reached, reached_by, step_check, told_result, told_of, unless_checked, counted_by, with_counted, effect_of, same, run_step, evaluate_step, assign_step, steps_of, arguments_run}
use Rattle.session_model.specs.Machine.{Whole}
use Rattle.session_model.specs.Holding.{is_error, begun, IsLeft, StepsLeaveAll, Stays, CallsKeepSteps}
use Rattle.session_model.proofs.Leaving.{same_left, ended_left}

-- ---- a step that is refused

-- an error that is told is one of the run
error_told : {A B : Type 0} (view : A → B) (r : Result A ℕ) → is_error (told_result view r) ≡ true → is_error r ≡ true
error_told view (Ok a) e = e
error_told view (Err code) e = refl

-- behind what was put out before
behind_left : {A : Type 0} (at : Reached Whole) (t : Turn Whole (Given A)) → IsLeft (begun at.shared at.session) t → IsLeft at (reached_by at t)
behind_left at t l = record {
  base = l.base;
  changes = l.changes;
  writer = l.writer;
  count = l.count;
  place = l.place;
  transaction = l.transaction;
  format = l.format;
  vars = l.vars;
  entries = ap (λ es. at.committed ++ es) l.entries ∙ append-nil at.committed;
}

-- an error does not set ROW_COUNT()
counted_left : (at : Reached Whole) (r : Result Did ℕ) (t : Turn Whole (Given Did)) → IsLeft (begun at.shared at.session) t → is_error r ≡ true
    → IsLeft (begun at.shared at.session) (record t { session = counted_by r t.session })
counted_left at (Ok did) t l e = cc
counted_left at (Err code) t l e =
    record { base = l.base; changes = l.changes; writer = l.writer; count = l.count; place = l.place; transaction = l.transaction; format = l.format; vars = l.vars; entries = l.entries }

step_left : {A B : Type 0} (view : A → B) (refusal : Option Refusal) (left : Left) (at : Reached Whole) (t : Turn Whole (Given A)) → (is_error t.given.result ≡ true → IsLeft (begun at.shared at.session) t)
    → is_error (unless_checked refusal left at (told_of view t.given, reached_by at t)).0.result ≡ true → IsLeft at (unless_checked refusal left at (told_of view t.given, reached_by at t)).1
step_left view None left at t l q = behind_left at t (l (error_told view t.given.result q))
step_left view (Some refusal) left at t l q = same_left at

run_left : (call : Call Whole) (left : Left) (s : Statement) (at : Reached Whole) → is_error (run_step call left s at).0.result ≡ true → IsLeft at (run_step call left s at).1
run_left call left s at q =
    let before = scene_for call.number left at.session.vars.context at.shared in
    let t : Turn Whole (Given Did) = statement_run call left (spelling s) s at.shared at.session in
    step_left effect_of (step_check call.number session_scope s at.shared) left at (with_counted t)
    (λ e. counted_left at t.given.result t
    (ended_left call at.shared at.session left (spelling s) s (λ (did : Did). did.first) (λ (did : Did). did.last_id) before
    (effect (setting_of at.shared.base.catalog at.session.vars.context (number_of_bytes 0 call.draw.uuid)) left.nesting [] s before) e) e) q

gave_left : (call : Call Whole) (left : Left) (text : List ℕ) (item : Statement) (locals : List Local) (ts : Trees) (shared : Shared) (session : Session Whole)
    → is_error (values_run call left text item locals ts shared session).given.result ≡ true → IsLeft (begun shared session) (values_run call left text item locals ts shared session)
gave_left call left text item locals ts shared session q =
    let before = scene_for call.number left session.vars.context shared in
    ended_left call shared session {A = List Value} left text item (λ _. None) (λ _. None) before
    (evaluation (setting_of shared.base.catalog session.vars.context (number_of_bytes 0 call.draw.uuid)) left.nesting locals ts before) q

evaluate_left : (call : Call Whole) (left : Left) (locals : List Local) (ts : Trees) (at : Reached Whole) → is_error (evaluate_step call left locals ts at).0.result ≡ true
    → IsLeft at (evaluate_step call left locals ts at).1
evaluate_left call left locals ts at q =
    let item : Statement = closed (evaluate ts) locals in
    let t : Turn Whole (Given (List Value)) = values_run call left (spelling item) item locals ts at.shared at.session in
    step_left {A = List Value} {B = List Value} same (step_check call.number (scope_of locals) (evaluate ts) at.shared) left at t
    (gave_left call left (spelling item) item locals ts at.shared at.session) q

arguments_left : (call : Call Whole) (text : List ℕ) (ts : Trees) (shared : Shared) (session : Session Whole) → is_error (arguments_run call text ts shared session).given.result ≡ true
    → IsLeft (begun shared session) (arguments_run call text ts shared session)
arguments_left call text no_tree shared session q = cc
arguments_left call text (tree t ts) shared session q = gave_left call full text (evaluate (tree t ts)) [] (tree t ts) shared session q

pub steps_leave_all : StepsLeaveAll
steps_leave_all = record { arguments = arguments_left; statements = run_left; evaluations = evaluate_left }

-- ---- what stays

-- the items of one transaction, and more behind them
abbrev MoreItems : Option (Open Whole) → Option (Open Whole) → Type 0
MoreItems old new = (more : List Whole) × (items_of new ≡ items_of old ++ more)

same_items : (t : Option (Open Whole)) → MoreItems t t
same_items t = ([], sym (append-nil (items_of t)))

kept_items : (item : Whole) (t : Option (Open Whole)) → MoreItems t (kept_open item t)
kept_items item None = ([], refl)
kept_items item (Some open') = (item ∷ [], refl)

ended_items : {A : Type 0} (call : Call Whole) (left : Left) (text : List ℕ) (made_of : Statement) (shared : Shared) (session : Session Whole) (first last_id : A → Option ℤ) (before : Scene) (e : Ending A)
    → MoreItems session.transaction (ended call left text made_of shared session first last_id before e).session.transaction
ended_items {A = A} call left text made_of shared session first last_id before (done a scene) =
    let made = made_behind (is_other call.number shared.writer) before scene in settled (is_warned session.format shared.base.catalog made_of made) made
  where
    after : Session Whole
    after = with_context (context_after session.vars.context made_of scene.seeds (last_id a)) session

    kept_or_not : (warned b : Bool) (item : Whole) → MoreItems session.transaction (cond b (undone {A = A} 1197 made_of shared session scene) (keep call item scene (with_counters scene shared) after (given_by a scene warned))).session.transaction
    kept_or_not warned true item = same_items session.transaction
    kept_or_not warned false item = kept_items item session.transaction

    settled : (warned : Bool) (made : List Change) → MoreItems session.transaction (settle call (item_of call session.format left text made_of session.vars.context shared (first a)) made scene (with_counters scene shared)
        after (given_by a scene warned) (undone 1197 made_of shared session scene)).session.transaction
    settled warned [] = same_items session.transaction
    settled warned (c ∷ cs) =
        let item : Whole = item_of call session.format left text made_of session.vars.context shared (first a) (c ∷ cs) in
        kept_or_not warned (takes_too_much call session.transaction item) item
ended_items call left text made_of shared session first last_id before (failed code scene) = same_items session.transaction

nothing_more : (at : Reached Whole) → Stays at at
nothing_more at = record { more_entries = []; entries = sym (append-nil at.committed); more_items = []; items = sym (append-nil (items_of at.session.transaction)) }

-- what stays behind what stays
stays_on : (a b c : Reached Whole) → Stays a b → Stays b c → Stays a c
stays_on a b c f k = record {
  more_entries = f.more_entries ++ k.more_entries;
  entries = k.entries ∙ ap (λ es. es ++ k.more_entries) f.entries ∙ append_assoc a.committed f.more_entries k.more_entries;
  more_items = f.more_items ++ k.more_items;
  items = k.items ∙ ap (λ is. is ++ k.more_items) f.items ∙ append_assoc (items_of a.session.transaction) f.more_items k.more_items;
}

-- a step behind those before it
reached_stays : {A : Type 0} (at : Reached Whole) (t : Turn Whole (Given A)) → MoreItems at.session.transaction t.session.transaction → Stays at (reached_by at t)
reached_stays at t more = record { more_entries = t.committed; entries = refl; more_items = more.0; items = more.1 }

checked_stays : {A : Type 0} (refusal : Option Refusal) (left : Left) (at : Reached Whole) (next : Told A × Reached Whole) → Stays at next.1 → Stays at (unless_checked refusal left at next).1
checked_stays None left at next k = k
checked_stays (Some refusal) left at next k = nothing_more at

counted_items : (r : Result Did ℕ) (old : Option (Open Whole)) (session : Session Whole) → MoreItems old session.transaction → MoreItems old (counted_by r session).transaction
counted_items (Ok did) old session more = more
counted_items (Err code) old session more = more

module _ (call : Call Whole) where
  run_stays : (left : Left) (s : Statement) (at : Reached Whole) → Stays at (run_step call left s at).1
  run_stays left s at =
      let before = scene_for call.number left at.session.vars.context at.shared in
      let t : Turn Whole (Given Did) = statement_run call left (spelling s) s at.shared at.session in
      checked_stays (step_check call.number session_scope s at.shared) left at _
      (reached_stays at (with_counted t)
      (counted_items t.given.result at.session.transaction t.session
      (ended_items call left (spelling s) s at.shared at.session (λ (did : Did). did.first) (λ (did : Did). did.last_id) before
      (effect (setting_of at.shared.base.catalog at.session.vars.context (number_of_bytes 0 call.draw.uuid)) left.nesting [] s before))))

  evaluate_stays : (left : Left) (locals : List Local) (ts : Trees) (at : Reached Whole) → Stays at (evaluate_step call left locals ts at).1
  evaluate_stays left locals ts at =
      let item : Statement = closed (evaluate ts) locals in
      let before = scene_for call.number left at.session.vars.context at.shared in
      let t : Turn Whole (Given (List Value)) = values_run call left (spelling item) item locals ts at.shared at.session in
      checked_stays (step_check call.number (scope_of locals) (evaluate ts) at.shared) left at _
      (reached_stays at t
      (ended_items {A = List Value} call left (spelling item) item at.shared at.session (λ _. None) (λ _. None) before
      (evaluation (setting_of at.shared.base.catalog at.session.vars.context (number_of_bytes 0 call.draw.uuid)) left.nesting locals ts before)))

  assign_stays : (n : List ℕ) (v : Value) (at : Reached Whole) → Stays at (assign_step n v at)
  assign_stays n v at = record { more_entries = []; entries = sym (append-nil at.committed); more_items = []; items = sym (append-nil (items_of at.session.transaction)) }

pub calls_keep_steps : CallsKeepSteps
calls_keep_steps call talk at =
    talk_keeps (steps_of call) (λ (now : Reached Whole). Stays at now)
    (λ left s now h. stays_on at now (run_step call left s now).1 h (run_stays call left s now))
    (λ left locals ts now h. stays_on at now (evaluate_step call left locals ts now).1 h (evaluate_stays call left locals ts now))
    (λ n v now h. stays_on at now (assign_step n v now) h (assign_stays call n v now))
    talk at (nothing_more at)
