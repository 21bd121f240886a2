-- Steps behind others bring a procedure to its end.
use Rattle.std.proofs.Common.{◌≡◌, ℕ, Bool, List, [], ◌∷◌, ◌++◌, Option, Some, None, Result, Ok, Err, IfOk, refl, sym, ap, ◌∙◌, subst, append-nil}
use Rattle.val_types.specs.declared.value.Value.{Value}
use Rattle.answer_text.specs.declared.answer.Answer.{Answer}
use Rattle.proc_run.specs.log_entries.declared.entries.Item.{Item}
use Rattle.proc_run.specs.log_entries.declared.entries.Entry.{Entry}
use Rattle.sql_locals.specs.declared.locals.Local.{Local}
use Rattle.sql_print.specs.StatementSpelling.{spelling}
use Rattle.sql_tree.specs.Statement.{Statement, evaluate}
use Rattle.sql_tree.specs.Tree.{Trees}
use Rattle.proc_run.specs.sql_meaning.Changing.{Did}
use Rattle.proc_run.specs.sql_reach.Closing.{closed}
use Rattle.proc_run.specs.catalog_rules.Checks.{session_scope}
use Rattle.proc_run.specs.catalog_rules.Objects.{Object}
use Rattle.proc_run.specs.proc_model.Talk.{Effect, Left, Led, Refusal, Talk, Told, brought}
use Rattle.proc_run.specs.proc_model.Procedures.{Came, called, scope_of}
use Rattle.proc_run.proofs.of_proc_model.Leading.{led_stands}
use Rattle.answer_making.specs.session_model.Answers.{with_warning}
use Rattle.answer_making.specs.session_model.Sessions.{Session, Shared}
use Rattle.answer_making.specs.session_model.Running.{Call, Given, Turn, statement_run, values_run}
use Rattle.answer_making.specs.session_model.Calling.{Reached, assign_step, came_to, effect_of, evaluate_step, reached_by, run_step, same, step_check, steps_of, told_of, unless_checked, with_counted}
use Rattle.session_statement.specs.session_shared.Desk.{shared_of}
use Rattle.session_call.specs.Stepping.{AssignedStep, GaveStep, RanStep, Stood, call_by, reached, start_of, step_rules}
use Rattle.session_statement.specs.Turned.{IsTurn, behind_turn}
use Rattle.session_statement.specs.session_shared.declared.desk.Desk.{Desk}
use Rattle.session_call.specs.declared.steps.CallSteps.{CallSteps}
use Rattle.session_call.proofs.Counting.{Counts, checked_counts, none_counted, statement_counts, stood_on, values_count}

-- a turn so far without its entries
abbrev bare : Reached Item → Reached Item
bare at = record at { committed = [] }

-- a step that begins where others ended tells the same, and its entries go behind theirs
behind_checked : {A B : Type 0} (refusal : Option Refusal) (left : Left) (at : Reached Item) (told : Told A) (t : Turn Item (Given B))
    → ((unless_checked refusal left (bare at) (told, reached_by (bare at) t)).0 ≡ (unless_checked refusal left at (told, reached_by at t)).0)
    × (behind_turn at (unless_checked refusal left (bare at) (told, reached_by (bare at) t)).1 ≡ (unless_checked refusal left at (told, reached_by at t)).1)
behind_checked None left at told t = (refl, refl)
behind_checked (Some refusal) left at told t = (refl, ap (λ (es : List (Entry Item)). record { shared = at.shared; session = at.session; committed = es; given = at.given }) (append-nil at.committed))

-- where desk and session stand
bare_is : (old now : Desk) (session : Session Item) (warned : Bool) (at : Reached Item) → IsTurn old now session warned at → reached now session warned ≡ bare at
bare_is old now session warned at turn =
    ap (λ (s : Shared). record { shared = s; session = session; committed = []; given = warned }) turn.0.0
    ∙ ap (λ (s : Session Item). record { shared = at.shared; session = s; committed = []; given = warned }) turn.0.1
    ∙ ap (λ (b : Bool). record { shared = at.shared; session = at.session; committed = []; given = b }) turn.1

module _ (call : Call Item) where
  run_behind : (left : Left) (s : Statement) (at : Reached Item) → ((run_step call left s (bare at)).0 ≡ (run_step call left s at).0) × (behind_turn at (run_step call left s (bare at)).1 ≡ (run_step call left s at).1)
  run_behind left s at =
      let t : Turn Item (Given Did) = with_counted (statement_run call left (spelling s) s at.shared at.session) in
      behind_checked (step_check call.number session_scope s at.shared) left at (told_of effect_of t.given) t

  evaluate_behind : (left : Left) (locals : List Local) (ts : Trees) (at : Reached Item)
      → ((evaluate_step call left locals ts (bare at)).0 ≡ (evaluate_step call left locals ts at).0) × (behind_turn at (evaluate_step call left locals ts (bare at)).1 ≡ (evaluate_step call left locals ts at).1)
  evaluate_behind left locals ts at =
      let item : Statement = closed (evaluate ts) locals in
      let t : Turn Item (Given (List Value)) = values_run call left (spelling item) item locals ts at.shared at.session in
      behind_checked (step_check call.number (scope_of locals) (evaluate ts) at.shared) left at (told_of same t.given) t

-- ---- the entries of a step

counted_run : (s : CallSteps) (left : Left) (statement : Statement) → Counts (shared_of s.desk) (run_step (call_by s) left statement (start_of s)).1
counted_run s left statement =
    let t : Turn Item (Given Did) = statement_run (call_by s) left (spelling statement) statement (shared_of s.desk) s.session in
    let counts = statement_counts s.identity s.draw s.number left (spelling statement) statement (shared_of s.desk) s.session in
    checked_counts (step_check s.number session_scope statement (shared_of s.desk)) left (start_of s) (told_of effect_of t.given) (with_counted t) refl (record { count = counts.count; place = counts.place })

counted_values : (s : CallSteps) (left : Left) (locals : List Local) (ts : Trees) → Counts (shared_of s.desk) (evaluate_step (call_by s) left locals ts (start_of s)).1
counted_values s left locals ts =
    let item : Statement = closed (evaluate ts) locals in
    let t : Turn Item (Given (List Value)) = values_run (call_by s) left (spelling item) item locals ts (shared_of s.desk) s.session in
    checked_counts (step_check s.number (scope_of locals) (evaluate ts) (shared_of s.desk)) left (start_of s) (told_of same t.given) t refl
    (values_count s.identity s.draw s.number left (spelling item) item locals ts (shared_of s.desk) s.session)

-- ---- a procedure

module _ (call : Call Item) (old : Desk) where
  -- who carries it out stands where a turn so far left it
  abbrev Stands : CallSteps → Reached Item → Type 0
  Stands s at = (call_by s ≡ call) × Stood old s.desk s.session s.warned at

  -- a step there is the step from there on
  step_from : {A : Type 0} (step : Reached Item → Told A × Reached Item) (before after : CallSteps) (at : Reached Item) (told : Told A) → Stands before at
      → ((step (bare at)).0 ≡ (step at).0) × (behind_turn at (step (bare at)).1 ≡ (step at).1)
      → call_by after ≡ call_by before → (told ≡ (step (start_of before)).0) → IsTurn before.desk after.desk after.session after.warned (step (start_of before)).1 → Counts (shared_of before.desk) (step (start_of before)).1
      → (told ≡ (step at).0) × Stands after (step at).1
  step_from step before after at told stands behind who said turn counts =
      let here : start_of before ≡ bare at = bare_is old before.desk before.session before.warned at stands.1.turn in
      let stood : Stood old after.desk after.session after.warned (behind_turn at (step (start_of before)).1) =
      stood_on old before.desk after.desk before.session after.session before.warned after.warned at (step (start_of before)).1 stands.1 turn counts in (
        said ∙ ap (λ (r : Reached Item). (step r).0) here ∙ behind.0,
        (
          who ∙ stands.0,
          subst (λ (r : Reached Item). Stood old after.desk after.session after.warned r) (ap (λ (r : Reached Item). behind_turn at (step r).1) here ∙ behind.1) stood,
        ),
      )

  run_stands : (before after : CallSteps) (left : Left) (s : Statement) (told : Told Effect) (at : Reached Item) → RanStep before left s told after → Stands before at
      → (told ≡ (run_step call left s at).0) × Stands after (run_step call left s at).1
  run_stands before after left s told at ran stands =
      let said : told ≡ (run_step call left s (start_of before)).0 = ran.1.0 ∙ ap (λ (c : Call Item). (run_step c left s (start_of before)).0) stands.0 in
      step_from (run_step call left s) before after at told stands (run_behind call left s at) ran.0 said
      (subst (λ (c : Call Item). IsTurn before.desk after.desk after.session after.warned (run_step c left s (start_of before)).1) stands.0 ran.1.1)
      (subst (λ (c : Call Item). Counts (shared_of before.desk) (run_step c left s (start_of before)).1) stands.0 (counted_run before left s))

  evaluate_stands : (before after : CallSteps) (left : Left) (locals : List Local) (ts : Trees) (told : Told (List Value)) (at : Reached Item) → GaveStep before left locals ts told after → Stands before at
      → (told ≡ (evaluate_step call left locals ts at).0) × Stands after (evaluate_step call left locals ts at).1
  evaluate_stands before after left locals ts told at gave stands =
      let said : told ≡ (evaluate_step call left locals ts (start_of before)).0 = gave.1.0 ∙ ap (λ (c : Call Item). (evaluate_step c left locals ts (start_of before)).0) stands.0 in
      step_from (evaluate_step call left locals ts) before after at told stands (evaluate_behind call left locals ts at) gave.0 said
      (subst (λ (c : Call Item). IsTurn before.desk after.desk after.session after.warned (evaluate_step c left locals ts (start_of before)).1) stands.0 gave.1.1)
      (subst (λ (c : Call Item). Counts (shared_of before.desk) (evaluate_step c left locals ts (start_of before)).1) stands.0 (counted_values before left locals ts))

  assign_stands : (before after : CallSteps) (n : List ℕ) (v : Value) (at : Reached Item) → AssignedStep before n v after → Stands before at → Stands after (assign_step n v at)
  assign_stands before after n v at assigned stands =
      let here : start_of before ≡ bare at = bare_is old before.desk before.session before.warned at stands.1.turn in
      let stood : Stood old after.desk after.session after.warned (behind_turn at (assign_step n v (start_of before))) =
      stood_on old before.desk after.desk before.session after.session before.warned after.warned at (assign_step n v (start_of before)) stands.1 assigned.1 (none_counted (shared_of before.desk) (assign_step n v (start_of before)) refl refl refl) in (
        assigned.0 ∙ stands.0,
        subst (λ (r : Reached Item). Stood old after.desk after.session after.warned r)
            (ap (λ (r : Reached Item). behind_turn at (assign_step n v r)) here ∙ ap (λ (es : List (Entry Item)). record (assign_step n v at) { committed = es }) (append-nil at.committed)) stood,
      )

  -- what led it is what the machine's steps bring
  pub call_turns : (catalog : List Object) (left : Left) (name : List ℕ) (vs : List Value) (before after : CallSteps) (came : Came) (at : Reached Item) → call_by before ≡ call
      → Led step_rules (called catalog left name vs) before came after → Stood old before.desk before.session before.warned at
      → IsTurn old after.desk after.session (with_warning after.warned came.answer) (came_to (brought (steps_of call) (called catalog left name vs) at))
  call_turns catalog left name vs before after came at who led stood =
      let ends = led_stands step_rules (steps_of call) Stands run_stands evaluate_stands assign_stands (called catalog left name vs) before after came at led (who, stood) in
      (ends.1.1.turn.0, ap (λ (c : Came). with_warning after.warned c.answer) ends.0 ∙ ap (λ (b : Bool). with_warning b (brought (steps_of call) (called catalog left name vs) at).0.answer) ends.1.1.turn.1)

-- as the code has it: who carries it out begins with the desk and the session, and with an equal catalog
pub call_so : (call : Call Item) (catalog : List Object) (left : Left) (name : List ℕ) (vs : List Value) (before after : CallSteps) (came : Came) (desk last : Desk) (session left' : Session Item) (was warned : Bool) (answer : Answer)
    → call_by before ≡ call → before.desk ≡ desk → before.session ≡ session → before.warned ≡ was → catalog ≡ (shared_of desk).base.catalog → Led step_rules (called catalog left name vs) before came after
    → last ≡ after.desk → left' ≡ after.session → warned ≡ after.warned → answer ≡ with_warning warned came.answer → (old : Desk) (at : Reached Item) → Stood old desk session was at
    → IsTurn old last left' answer (came_to (brought (steps_of call) (called at.shared.base.catalog left name vs) at))
call_so call catalog left name vs before after came desk last session left' was warned answer who desks sessions warns objects led back backs told said old at stood =
    let begun : Stood old before.desk before.session before.warned at =
    subst (λ (d : Desk). Stood old d before.session before.warned at) (sym desks)
    (subst (λ (s : Session Item). Stood old desk s before.warned at) (sym sessions) (subst (λ (b : Bool). Stood old desk session b at) (sym warns) stood)) in
    let same : catalog ≡ at.shared.base.catalog = objects ∙ ap (λ (s : Shared). s.base.catalog) stood.turn.0.0 in
    let turn : IsTurn old after.desk after.session (with_warning after.warned came.answer) (came_to (brought (steps_of call) (called at.shared.base.catalog left name vs) at)) =
    subst (λ (os : List Object). IsTurn old after.desk after.session (with_warning after.warned came.answer) (came_to (brought (steps_of call) (called os left name vs) at))) same
    (call_turns call old catalog left name vs before after came at who led begun) in
    subst (λ (a : Answer). IsTurn old last left' a (came_to (brought (steps_of call) (called at.shared.base.catalog left name vs) at))) (sym (said ∙ ap (λ (b : Bool). with_warning b came.answer) told))
    (subst (λ (d : Desk). IsTurn old d left' (with_warning after.warned came.answer) (came_to (brought (steps_of call) (called at.shared.base.catalog left name vs) at))) (sym back)
    (subst (λ (s : Session Item). IsTurn old after.desk s (with_warning after.warned came.answer) (came_to (brought (steps_of call) (called at.shared.base.catalog left name vs) at))) (sym backs) turn))
