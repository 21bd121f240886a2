-- A step puts out transactions and definitions, and no beginning of a log.
use Rattle.std.proofs.Common.{ℕ, Bool, true, false, List, [], ◌∷◌, ◌++◌, Option, Some, None, Result, Ok, Err}
use Rattle.std.specs.Prelude.{if◌then◌else◌, find, is_some, slice_index_or, ℤ}
use Rattle.std.specs.Option.{option_map}
use Rattle.val_types.specs.declared.change.Change.{Change}
use Rattle.val_types.specs.declared.value.Value.{Value}
use Rattle.port_traits.specs.declared.identity.Identity.{Identity}
use Rattle.port_traits.specs.declared.identity.Draw.{Draw}
use Rattle.sql_tree.specs.Tree.{Tree, Trees, no_tree, tree}
use Rattle.sql_locals.specs.declared.locals.Local.{Local}
use Rattle.sql_tree.specs.Statement.{Statement, evaluate, set_all, call_procedure, begin, commit, rollback, savepoint, rollback_to, release_savepoint}
use Rattle.sql_tree.specs.declared.statements.Target.{Target}
use Rattle.apply_laws.specs.catalog_rules.Bases.{Base, defined}
use Rattle.apply_laws.specs.catalog_rules.Checks.{session_scope, statement_refusal}
use Rattle.apply_laws.specs.catalog_rules.Creating.{ddl_refusal}
use Rattle.apply_laws.specs.log_entries.declared.entries.Entry.{Entry}
use Rattle.apply_laws.specs.log_entries.declared.entries.Entry.TheVariants.{Transaction, Definition, LogStart}
use Rattle.answer_text.specs.declared.answer.Answer.{Answer}
use Rattle.apply_laws.specs.sql_meaning.Frames.{Context}
use Rattle.apply_laws.specs.sql_meaning.Scenes.{Scene, Ending, done, failed}
use Rattle.apply_laws.specs.sql_meaning.Changing.{Did}
use Rattle.apply_laws.specs.sql_meaning.Running.{effect, evaluation, context_after}
use Rattle.apply_laws.specs.sql_reach.Closing.{closed}
use Rattle.apply_laws.specs.sql_reach.Defining.{number_of_bytes}
use Rattle.apply_laws.specs.sql_reach.Reach.{is_definition}
use Rattle.sql_print.specs.StatementSpelling.{spelling}
use Rattle.apply_laws.specs.proc_model.Talk.{Left, Refusal, Told}
use Rattle.apply_laws.specs.proc_model.Procedures.{scope_of, called}
use Rattle.apply_laws.proofs.of_proc_model.Leading.{talk_keeps}
use Rattle.apply_laws.specs.text_answers.Answers.{TextAnswer, a_statement, a_syntax_error, too_deep, text_answer}
use Rattle.apply_laws.specs.session_model.Answers.{ok, refused}
use Rattle.apply_laws.specs.session_model.Sessions.{Save, Open, Session, Shared, State}
use Rattle.apply_laws.specs.session_model.Running.{Call, full, Turn, Given, is_other, items_of, commit_open, commit_entries, kept_entries, keep, settle, ended, takes_too_much, undone, setting_of, scene_for, made_behind, item_of, with_counters, with_context, given_by, is_warned, statement_run, values_run, fitted, fitted_run, writing_refusal, lock_refusal}
use Rattle.apply_laws.specs.session_model.Commands.{is_too_long, definition_turn, define_turn, made_turn, unless_answered, unless_refused, code_answer, is_open, set_by, set_given, set_misfit, set_turn, set_expressions, plain_turn, given_turn, answered, back_in, back_to_save, release_in, definition_entry, is_save_of, saves_but}
use Rattle.apply_laws.specs.session_model.Calling.{Reached, reached_by, step_check, unless_checked, with_counted, steps_of, left_with, arguments_run, called_by, called_with, call_turn}
use Rattle.apply_laws.specs.session_model.Machine.{Whole, whole, step, text_turn, statement_turn, at_work}
use Rattle.run_model.specs.Following.{AreCommitted}

-- entries behind others
pub committed_behind : (front back : List (Entry Whole)) → AreCommitted front → AreCommitted back → AreCommitted (front ++ back)
committed_behind [] back f k = k
committed_behind (Transaction stamp server items ∷ es) back f k = committed_behind es back f k
committed_behind (Definition stamp server i ∷ es) back f k = committed_behind es back f k
committed_behind (LogStart stamp server ∷ es) back f k = f

-- what a turn puts out
abbrev Puts : {A : Type 0} → Turn Whole A → Type 0
Puts t = AreCommitted t.committed

by_test : {A : Type 0} (b : Bool) (x y : Turn Whole A) → Puts x → Puts y → Puts (if b then x else y)
by_test true x y p q = p
by_test false x y p q = q

-- ---- transactions

commit_puts : (call : Call Whole) (context : Context) (items : List Whole) → AreCommitted (commit_entries call context items)
commit_puts call context [] = tt
commit_puts call context (i ∷ is) = tt

opened_puts : (call : Call Whole) (shared : Shared) (session : Session Whole) → Puts (commit_open call shared session)
opened_puts call shared session = commit_puts call session.vars.context (items_of session.transaction)

back_puts : (call : Call Whole) (name : List ℕ) (open' : Open Whole) (save : Option Save) (shared : Shared) (session : Session Whole) → Puts (back_to_save call name open' save shared session)
back_puts call name open' None shared session = tt
back_puts call name open' (Some save) shared session = tt

back_in_puts : (call : Call Whole) (name : List ℕ) (t : Option (Open Whole)) (shared : Shared) (session : Session Whole) → Puts (back_in call name t shared session)
back_in_puts call name None shared session = tt
back_in_puts call name (Some open') shared session = back_puts call name open' (find (is_save_of name) open'.saves) shared session

release_puts : (name : List ℕ) (t : Option (Open Whole)) (shared : Shared) (session : Session Whole) → Puts (release_in name t shared session)
release_puts name None shared session = tt
release_puts name (Some open') shared session =
    by_test (is_some (find (is_save_of name) open'.saves)) (answered (ok 0) shared (record session { transaction = Some (record open' { saves = saves_but name open'.saves }) }))
    (answered (refused 1305) shared session) tt tt

-- ---- definitions

unless_puts : {A : Type 0} (o : Option Answer) (t : Turn Whole A) (next : Turn Whole Answer) → Puts t → Puts next → Puts (unless_answered o t next)
unless_puts None t next p q = q
unless_puts (Some answer) t next p q = p

made_puts : (call : Call Whole) (text : List ℕ) (s : Statement) (o : Option Base) (t : Turn Whole (Unit {0})) → Puts t → Puts (made_turn call text s o t)
made_puts call text s None t p = p
made_puts call text s (Some base) t p = committed_behind t.committed (definition_entry call text s t.session.vars.context t.shared ∷ []) p tt

define_puts : (call : Call Whole) (text : List ℕ) (s : Statement) (t : Turn Whole (Unit {0})) → Puts t → Puts (define_turn call text s t)
define_puts call text s t p =
    let made : Turn Whole Answer = made_turn call text s (defined s t.shared.base) t in
    unless_puts (option_map refused (ddl_refusal t.shared.base.catalog s)) t (unless_answered (writing_refusal call.number t.shared) t made) p
    (unless_puts (writing_refusal call.number t.shared) t made p (made_puts call text s (defined s t.shared.base) t p))

definition_puts : (call : Call Whole) (text : List ℕ) (s : Statement) (shared : Shared) (session : Session Whole) → Puts (definition_turn call text s shared session)
definition_puts call text s shared session =
    define_puts call text s (commit_open call shared session) (opened_puts call shared session)

-- ---- statements that run

kept_puts : (call : Call Whole) (context : Context) (item : Whole) (t : Option (Open Whole)) → AreCommitted (kept_entries call context item t)
kept_puts call context item None = tt
kept_puts call context item (Some open') = tt

settle_puts : {A : Type 0} (call : Call Whole) (item : List Change → Whole) (changes : List Change) (scene : Scene) (shared : Shared) (session : Session Whole) (given : Given A) (refusal : Turn Whole (Given A)) → Puts refusal
    → Puts (settle call item changes scene shared session given refusal)
settle_puts call item [] scene shared session given refusal p = tt
settle_puts call item (c ∷ cs) scene shared session given refusal p =
    by_test (takes_too_much call session.transaction (item (c ∷ cs))) refusal (keep call (item (c ∷ cs)) scene shared session given) p
    (kept_puts call session.vars.context (item (c ∷ cs)) session.transaction)

ended_puts : {A : Type 0} (call : Call Whole) (left : Left) (text : List ℕ) (made_of : Statement) (shared : Shared) (session : Session Whole) (first last_id : A → Option ℤ) (before : Scene) (ending : Ending A)
    → Puts (ended call left text made_of shared session first last_id before ending)
ended_puts call left text made_of shared session first last_id before (done a scene) =
    let made : List Change = made_behind (is_other call.number shared.writer) before scene in
    settle_puts call (item_of call session.format left text made_of session.vars.context shared (first a)) made scene (with_counters scene shared)
    (with_context (context_after session.vars.context made_of scene.seeds (last_id a)) session)
    (given_by a scene (is_warned session.format shared.base.catalog made_of made)) (undone 1197 made_of shared session scene) tt
ended_puts call left text made_of shared session first last_id before (failed code scene) = tt

statement_puts : (call : Call Whole) (left : Left) (text : List ℕ) (s : Statement) (shared : Shared) (session : Session Whole) → Puts (statement_run call left text s shared session)
statement_puts call left text s shared session =
    ended_puts call left text s shared session (λ (did : Did). did.first) (λ (did : Did). did.last_id) (scene_for call.number left session.vars.context shared)
    (effect (setting_of shared.base.catalog session.vars.context (number_of_bytes 0 call.draw.uuid)) left.nesting [] s (scene_for call.number left session.vars.context shared))

values_put : (call : Call Whole) (left : Left) (text : List ℕ) (made_of : Statement) (locals : List Local) (ts : Trees) (shared : Shared) (session : Session Whole)
    → Puts (values_run call left text made_of locals ts shared session)
values_put call left text made_of locals ts shared session =
    ended_puts call left text made_of shared session (λ _. None) (λ _. None) (scene_for call.number left session.vars.context shared)
    (evaluation (setting_of shared.base.catalog session.vars.context (number_of_bytes 0 call.draw.uuid)) left.nesting locals ts (scene_for call.number left session.vars.context shared))

fitted_put : (call : Call Whole) (left : Left) (text : List ℕ) (ts : Trees) (misfit : List Value → Option ℕ) (shared : Shared) (session : Session Whole) → Puts (fitted_run call left text ts misfit shared session)
fitted_put call left text ts misfit shared session =
    ended_puts {A = List Value} call left text (evaluate ts) shared session (λ _. None) (λ _. None) (scene_for call.number left session.vars.context shared)
    (fitted misfit (evaluation (setting_of shared.base.catalog session.vars.context (number_of_bytes 0 call.draw.uuid)) left.nesting [] ts (scene_for call.number left session.vars.context shared)))

-- ---- CALL

reached_puts : {A : Type 0} (at : Reached Whole) (t : Turn Whole (Given A)) → Puts at → Puts t → Puts (reached_by at t)
reached_puts at t p q = committed_behind at.committed t.committed p q

checked_puts : {A : Type 0} (refusal : Option Refusal) (left : Left) (at : Reached Whole) (next : Told A × Reached Whole) → Puts at → Puts next.1 → Puts (unless_checked refusal left at next).1
checked_puts None left at next p q = q
checked_puts (Some refusal) left at next p q = p

called_puts : (call : Call Whole) (name : List ℕ) (r : Result (List Value) ℕ) (t : Turn Whole (Given (List Value))) → Puts t → Puts (called_by call name r t)
called_puts call name (Err code) t p = p
called_puts call name (Ok vs) t p =
    talk_keeps (steps_of call) (λ (at : Reached Whole). Puts at) ran gave (λ n v at h. h) (called t.shared.base.catalog (left_with t.given.fuel) name vs)
    (record { shared = t.shared; session = t.session; committed = t.committed; given = t.given.warned }) p
  where
    ran : (left : Left) (s : Statement) (at : Reached Whole) → Puts at → Puts ((steps_of call).run left s at).1
    ran left s at h =
        checked_puts (step_check call.number session_scope s at.shared) left at _ h
        (reached_puts at (with_counted (statement_run call left (spelling s) s at.shared at.session)) h (statement_puts call left (spelling s) s at.shared at.session))

    gave : (left : Left) (locals : List Local) (ts : Trees) (at : Reached Whole) → Puts at → Puts ((steps_of call).evaluate left locals ts at).1
    gave left locals ts at h =
        let item : Statement = closed (evaluate ts) locals in
        checked_puts (step_check call.number (scope_of locals) (evaluate ts) at.shared) left at _ h
        (reached_puts at (values_run call left (spelling item) item locals ts at.shared at.session) h (values_put call left (spelling item) item locals ts at.shared at.session))

arguments_put : (call : Call Whole) (text : List ℕ) (ts : Trees) (shared : Shared) (session : Session Whole) → Puts (arguments_run call text ts shared session)
arguments_put call text no_tree shared session = tt
arguments_put call text (tree t ts) shared session = values_put call full text (evaluate (tree t ts)) [] (tree t ts) shared session

-- ---- commands

refused_puts : (o : Option Answer) (shared : Shared) (session : Session Whole) (t : Turn Whole Answer) → Puts t → Puts (unless_refused o shared session t)
refused_puts None shared session t p = p
refused_puts (Some answer) shared session t p = tt

set_by_puts : (as' : List (Target × Tree)) (r : Result (List Value) ℕ) (t : Turn Whole (Given (List Value))) → Puts t → Puts (set_by as' r t)
set_by_puts as' (Err code) t p = p
set_by_puts as' (Ok vs) t p = p

set_puts : (call : Call Whole) (as' : List (Target × Tree)) (shared : Shared) (session : Session Whole) → Puts (set_turn call as' shared session)
set_puts call as' shared session =
    let ts : Trees = set_expressions as' in
    let text : List ℕ = spelling (evaluate ts) in
    let misfit : List Value → Option ℕ = set_misfit (is_open session) as' in
    let t : Turn Whole (Given (List Value)) = fitted_run call full text ts misfit shared session in
    let given : Turn Whole Answer = set_given as' t in
    let locked : Turn Whole Answer = unless_refused (lock_refusal call.number shared (evaluate ts)) shared session given in
    let checked : Turn Whole Answer = unless_refused (code_answer (statement_refusal shared.base.catalog session_scope (set_all as'))) shared session locked in
    by_test (is_too_long text) (answered (refused 1153) shared session) checked tt
    (refused_puts (code_answer (statement_refusal shared.base.catalog session_scope (set_all as'))) shared session locked
    (refused_puts (lock_refusal call.number shared (evaluate ts)) shared session given (set_by_puts as' t.given.result t (fitted_put call full text ts misfit shared session))))

call_puts : (call : Call Whole) (name : List ℕ) (ts : Trees) (shared : Shared) (session : Session Whole) → Puts (call_turn call name ts shared session)
call_puts call name ts shared session =
    let text : List ℕ = spelling (evaluate ts) in
    let t : Turn Whole (Given (List Value)) = arguments_run call text ts shared session in
    let made : Turn Whole Answer = called_with call name t in
    let locked : Turn Whole Answer = unless_refused (lock_refusal call.number shared (evaluate ts)) shared session made in
    let refusal : Option Answer = code_answer (statement_refusal shared.base.catalog session_scope (call_procedure name ts)) in
    by_test (is_too_long text) (answered (refused 1153) shared session) (unless_refused refusal shared session locked) tt
    (refused_puts refusal shared session locked
    (refused_puts (lock_refusal call.number shared (evaluate ts)) shared session made (called_puts call name t.given.result t (arguments_put call text ts shared session))))

plain_puts : (call : Call Whole) (text : List ℕ) (s : Statement) (shared : Shared) (session : Session Whole) → Puts (plain_turn call text s shared session)
plain_puts call text s shared session =
    let given : Turn Whole Answer = given_turn (statement_run call full text s shared session) in
    let locked : Turn Whole Answer = unless_refused (lock_refusal call.number shared s) shared session given in
    refused_puts (code_answer (statement_refusal shared.base.catalog session_scope s)) shared session locked
    (refused_puts (lock_refusal call.number shared s) shared session given (statement_puts call full text s shared session))

turn_puts : (call : Call Whole) (text : List ℕ) (s : Statement) (shared : Shared) (session : Session Whole) → Puts (statement_turn call text s shared session)
turn_puts call text begin shared session = opened_puts call shared session
turn_puts call text commit shared session = opened_puts call shared session
turn_puts call text rollback shared session = tt
turn_puts call text (savepoint name) shared session = tt
turn_puts call text (rollback_to name) shared session = back_in_puts call name session.transaction shared session
turn_puts call text (release_savepoint name) shared session = release_puts name session.transaction shared session
turn_puts call text (set_all as') shared session = set_puts call as' shared session
turn_puts call text (call_procedure name ts) shared session = call_puts call name ts shared session
turn_puts call text s shared session = by_test (is_definition s) (definition_turn call text s shared session) (plain_turn call text s shared session) (definition_puts call text s shared session) (plain_puts call text s shared session)

text_puts : (call : Call Whole) (text : List ℕ) (answer : TextAnswer) (shared : Shared) (session : Session Whole) → Puts (text_turn call text answer shared session)
text_puts call text (a_statement s) shared session = turn_puts call text s shared session
text_puts call text (a_syntax_error place) shared session = tt
text_puts call text too_deep shared session = tt

pub step_puts : (identity : Identity) (state : State Whole) (n : ℕ) (text : List ℕ) (draw : Draw) → AreCommitted (step whole identity state n text draw).committed
unfolding step
step_puts identity state n text draw =
    let call : Call Whole = record { identity = identity; draw = draw; number = n; known = whole } in
    text_puts call text (text_answer text) state.shared (at_work call (slice_index_or state.sessions n None))
