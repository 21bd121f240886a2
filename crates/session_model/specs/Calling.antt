-- CALL: each statement of a procedure is one statement of its session.
use Rattle.std.specs.Prelude.{ℕ, Bool, false, ◌||◌, if◌then◌else◌, List, [], ◌++◌, Option, Some, None, Result, Ok, Err}
use Rattle.std.specs.Option.{option_map}
use Rattle.val_types.specs.declared.value.Value.{Value}
use Rattle.sql_tree.specs.Statement.{Statement, evaluate, call_procedure}
use Rattle.sql_tree.specs.Tree.{Trees, no_tree, tree}
use Rattle.sql_locals.specs.declared.locals.Local.{Local}
use Rattle.sql_print.specs.StatementSpelling.{spelling}
use Rattle.session_ctx.specs.catalog_rules.Checks.{Scope, session_scope, statement_refusal}
use Rattle.answer_text.specs.declared.answer.Answer.{Answer}
use Rattle.session_ctx.specs.sql_meaning.Changing.{Did}
use Rattle.session_ctx.specs.sql_meaning.Running.{most_nested}
use Rattle.proc_model.specs.sql_reach.Closing.{closed}
use Rattle.proc_model.specs.Talk.{Left, Refusal, Effect, Told, Steps, brought}
use Rattle.proc_model.specs.Procedures.{Came, plain_refusal, scope_of, called}
use Rattle.session_model.specs.Answers.{refused, with_warning}
use Rattle.session_model.specs.Sessions.{Session, Shared}
use Rattle.session_model.specs.Running.{Call, full, Fuel, Turn, Given, lock_check, lock_refusal, statement_run, values_run, expressions_run, did_answer}
use Rattle.session_model.specs.Counting.{counted}
use Rattle.session_model.specs.Commands.{answered, with_answer, code_answer, is_too_long, unless_refused, with_variable, with_vars}

-- ---- what a procedure asks, as steps of its session

-- Where a CALL stands: what is shared, its session, the entries that it has put out, and whether an item of it is warned.
abbrev pub Reached : Type 0 → Type 0
Reached I = Turn I Bool

-- a step behind those before it
abbrev pub reached_by : {I A : Type 0} → Reached I → Turn I (Given A) → Reached I
reached_by at t = record {
  shared = t.shared;
  session = t.session;
  committed = at.committed ++ t.committed;
  given = at.given || t.given.warned;
}

-- the first of two checks that refuses
abbrev pub first_check : Option Refusal → Option Refusal → Option Refusal
first_check None next = next
first_check (Some refusal) next = Some refusal

-- the catalog's checks, then the lock
abbrev pub step_check : ℕ → Scope → Statement → Shared → Option Refusal
step_check n scope s shared =
    first_check (option_map plain_refusal (statement_refusal shared.base.catalog scope s)) (lock_check n shared s)

abbrev pub told_result : {A B : Type 0} → (A → B) → Result A ℕ → Result B Refusal
told_result view (Ok a) = Ok (view a)
told_result view (Err code) = Err (plain_refusal code)

-- what is told of a statement that was run
abbrev pub told_of : {A B : Type 0} → (A → B) → Given A → Told B
told_of view given = record { result = told_result view given.result; turns = given.fuel.turns; uuids = given.fuel.uuids }

-- and of one that was refused before
abbrev pub told_refused : {A : Type 0} → Refusal → Left → Told A
told_refused refusal left = record { result = Err refusal; turns = left.turns; uuids = left.uuids }

-- where a check refuses, nothing is done
abbrev pub unless_checked : {I A : Type 0} → Option Refusal → Left → Reached I → Told A × Reached I → Told A × Reached I
unless_checked None left at next = next
unless_checked (Some refusal) left at next = (told_refused refusal left, at)

-- ROW_COUNT() behind a statement; an error ends the CALL, which counts it
abbrev pub counted_by : {I : Type 0} → Result Did ℕ → Session I → Session I
counted_by (Ok did) session = counted (did_answer false did) session
counted_by (Err code) session = session

abbrev pub with_counted : {I : Type 0} → Turn I (Given Did) → Turn I (Given Did)
with_counted t = record t { session = counted_by t.given.result t.session }

abbrev pub effect_of : Did → Effect
effect_of did = record { affected = did.affected; shown = did.shown }

abbrev pub same : {A : Type 0} → A → A
same a = a

-- a change, a SELECT or a DO of a procedure: logged as its canonical text
abbrev pub run_step : {I : Type 0} → Call I → Left → Statement → Reached I → Told Effect × Reached I
run_step call left s at =
    let t = with_counted (statement_run call left (spelling s) s at.shared at.session) in
    unless_checked (step_check call.number session_scope s at.shared) left at (told_of effect_of t.given, reached_by at t)

-- expressions of a procedure: logged as the DO over them, with locals closed in; ROW_COUNT() stays
abbrev pub evaluate_step : {I : Type 0} → Call I → Left → List Local → Trees → Reached I → Told (List Value) × Reached I
evaluate_step call left locals ts at =
    let item = closed (evaluate ts) locals in
    let t = values_run call left (spelling item) item locals ts at.shared at.session in
    unless_checked (step_check call.number (scope_of locals) (evaluate ts) at.shared) left at (told_of same t.given, reached_by at t)

-- a user variable of the session
abbrev pub assign_step : {I : Type 0} → List ℕ → Value → Reached I → Reached I
assign_step n v at = record at { session = with_vars (with_variable n v at.session.vars) at.session }

abbrev pub steps_of : {I : Type 0} → Call I → Steps (Reached I)
steps_of call = record { run = run_step call; evaluate = evaluate_step call; assign = assign_step }

-- ---- CALL of a session

-- what is left to it behind its arguments
abbrev pub left_with : Fuel → Left
left_with fuel = record { nesting = most_nested; turns = fuel.turns; uuids = fuel.uuids }

-- the values of the arguments; where there is none, nothing is evaluated
abbrev pub arguments_run : {I : Type 0} → Call I → List ℕ → Trees → Shared → Session I → Turn I (Given (List Value))
arguments_run call text no_tree shared session = record {
  shared = shared;
  session = session;
  committed = [];
  given = record { result = Ok []; fuel = record { turns = full.turns; uuids = full.uuids }; warned = false };
}
arguments_run call text (tree t ts) shared session = expressions_run call full text (tree t ts) shared session

-- what a CALL came to: its line shows whether one of its items is warned, that of its arguments too
abbrev pub came_to : {I : Type 0} → Came × Reached I → Turn I Answer
came_to b = with_answer (with_warning b.1.given b.0.answer) b.1

-- the procedure is carried out, or the arguments were refused
abbrev pub called_by : {I : Type 0} → Call I → List ℕ → Result (List Value) ℕ → Turn I (Given (List Value)) → Turn I Answer
called_by call name (Err code) t = with_answer (refused code) t
called_by call name (Ok vs) t =
    came_to (brought (steps_of call) (called t.shared.base.catalog (left_with t.given.fuel) name vs)
    (record { shared = t.shared; session = t.session; committed = t.committed; given = t.given.warned }))

abbrev pub called_with : {I : Type 0} → Call I → List ℕ → Turn I (Given (List Value)) → Turn I Answer
called_with call name t = called_by call name t.given.result t

-- CALL: 1153 for the printed DO of its arguments, the catalog's checks, the lock for the arguments, their values, then the
-- procedure
abbrev pub call_turn : {I : Type 0} → Call I → List ℕ → Trees → Shared → Session I → Turn I Answer
call_turn call name ts shared session =
    let text = spelling (evaluate ts) in
    if is_too_long text then answered (refused 1153) shared session
    else
    unless_refused (code_answer (statement_refusal shared.base.catalog session_scope (call_procedure name ts))) shared session
    (unless_refused (lock_refusal call.number shared (evaluate ts)) shared session (called_with call name (arguments_run call text ts shared session)))
