-- A statement that is refused leaves all tables, its transaction and what was committed.
use Rattle.std.proofs.Common.{◌≡◌, ℕ, Bool, true, false, List, [], ◌∷◌, find, Option, Some, None, Result, Ok, Err, ℤ, refl, ap, cond}
use Rattle.std.specs.Prelude.{is_some}
use Rattle.std.specs.Option.{option_map, option_map_or}
use Rattle.val_types.specs.declared.change.Change.{Change}
use Rattle.val_types.specs.declared.value.Value.{Value}
use Rattle.answer_text.specs.declared.answer.Answer.{Answer}
use Rattle.session_ctx.specs.catalog_rules.Bases.{Base, defined}
use Rattle.session_ctx.specs.catalog_rules.Checks.{session_scope, statement_refusal}
use Rattle.session_ctx.specs.catalog_rules.Creating.{ddl_refusal}
use Rattle.proc_model.specs.Talk.{Left}
use Rattle.sql_print.specs.StatementSpelling.{spelling}
use Rattle.sql_tree.specs.Statement.{Statement, create_table, create_function, create_procedure, create_trigger, drop_table, drop_function, drop_procedure, drop_trigger, truncate, insert_into, replace_into, update_rows, delete_rows, select, evaluate, set_all, call_procedure, begin, commit, rollback, savepoint, rollback_to, release_savepoint, block, if_steps, while_steps, return_value}
use Rattle.sql_tree.specs.Tree.{Tree}
use Rattle.sql_tree.specs.declared.statements.Target.{Target}
use Rattle.session_ctx.specs.sql_meaning.Scenes.{Scene, Ending, done, failed}
use Rattle.session_ctx.specs.sql_meaning.Changing.{Did}
use Rattle.session_ctx.specs.sql_meaning.Running.{effect, evaluation, most_nested, context_after}
use Rattle.proc_model.specs.sql_reach.Defining.{number_of_bytes}
use Rattle.session_model.specs.Answers.{ok, ok_warned, refused, showing}
use Rattle.session_model.specs.Sessions.{Save, Open, Session, Shared, tables_with}
use Rattle.session_model.specs.Running.{Call, full, Fuel, Turn, Given, commit_open, is_other, lock_refusal, writing_refusal, takes_too_much, undone, ended, scene_for, setting_of, settle, item_of, given_by, is_warned, made_behind, with_counters, with_context, fitted, fitted_run, given_answer}
use Rattle.session_model.specs.Commands.{answered, with_answer, unless_refused, unless_answered, is_save_of, saves_but, back_to_save, back_in, release_in, code_answer, made_turn, define_turn, definition_turn, is_open, is_too_long, set_by, set_expressions, set_misfit, set_turn, given_turn, plain_turn}
use Rattle.session_model.specs.Machine.{Whole}
use Rattle.session_model.specs.Holding.{is_error, is_refused, begun, IsLeft, ErrorsLeaveAll, DefinitionsLeaveAll, ReadersSeeCommitted}

differ : {b : Bool} → b ≡ true → b ≡ false → ⊥
differ x y = cc

-- nothing was done
pub same_left : {A : Type 0} (t : Turn Whole A) → IsLeft t t
same_left t = record { base = refl; changes = refl; writer = refl; count = refl; place = refl; transaction = refl; format = refl; vars = refl; entries = refl }

-- the same with another answer
answered_left : {A B : Type 0} (old : Turn Whole A) (t : Turn Whole B) (answer : Answer) → IsLeft old t → IsLeft old (with_answer answer t)
answered_left old t answer l =
    record { base = l.base; changes = l.changes; writer = l.writer; count = l.count; place = l.place; transaction = l.transaction; format = l.format; vars = l.vars; entries = l.entries }

module _ (call : Call Whole) (shared : Shared) (session : Session Whole) where
  -- ---- a run that ends with an error

  taken_back : {A : Type 0} (code : ℕ) (tree : Statement) (scene : Scene) → IsLeft (begun shared session) (undone {A = A} code tree shared session scene)
  taken_back code tree scene = record { base = refl; changes = refl; writer = refl; count = refl; place = refl; transaction = refl; format = refl; vars = refl; entries = refl }

  pub ended_left : {A : Type 0} (left : Left) (text : List ℕ) (tree : Statement) (first last_id : A → Option ℤ) (before : Scene) (e : Ending A)
      → let t = ended call left text tree shared session first last_id before e in is_error t.given.result ≡ true → IsLeft (begun shared session) t
  ended_left {A = A} left text tree first last_id before (done a scene) q =
      let made = made_behind (is_other call.number shared.writer) before scene in settled (is_warned session.format shared.base.catalog tree made) made q
    where
      -- an item is kept, or too much
      kept_or_not : (b : Bool) (t : Turn Whole (Given A)) → is_error t.given.result ≡ false → is_error (cond b (undone 1197 tree shared session scene) t).given.result ≡ true
          → IsLeft (begun shared session) (cond b (undone 1197 tree shared session scene) t)
      kept_or_not true t l x = taken_back 1197 tree scene
      kept_or_not false t l x = absurd (differ x l)

      settled : (warned : Bool) (made : List Change) → let t = settle call (item_of call session.format left text tree session.vars.context shared (first a)) made scene (with_counters scene shared)
          (with_context (context_after session.vars.context tree scene.seeds (last_id a)) session) (given_by a scene warned) (undone 1197 tree shared session scene) in
          is_error t.given.result ≡ true → IsLeft (begun shared session) t
      settled warned [] x = absurd (differ x refl)
      settled warned (c ∷ cs) x = kept_or_not (takes_too_much call session.transaction (item_of call session.format left text tree session.vars.context shared (first a) (c ∷ cs))) _ refl x
  ended_left left text tree first last_id before (failed code scene) q = taken_back code tree scene

  -- ---- before a run

  as_it_was : (answer : Answer) → IsLeft (begun shared session) (answered answer shared session)
  as_it_was answer = record { base = refl; changes = refl; writer = refl; count = refl; place = refl; transaction = refl; format = refl; vars = refl; entries = refl }

  unless_as_it_was : (refusal : Option Answer) (t : Turn Whole Answer) → (is_refused t.given.end ≡ true → IsLeft (begun shared session) t)
      → is_refused (unless_refused refusal shared session t).given.end ≡ true → IsLeft (begun shared session) (unless_refused refusal shared session t)
  unless_as_it_was None t l e = l e
  unless_as_it_was (Some answer) t l e = as_it_was answer

  long_as_it_was : (b : Bool) (answer : Answer) (t : Turn Whole Answer) → (is_refused t.given.end ≡ true → IsLeft (begun shared session) t)
      → is_refused (cond b (answered answer shared session) t).given.end ≡ true → IsLeft (begun shared session) (cond b (answered answer shared session) t)
  long_as_it_was true answer t l e = as_it_was answer
  long_as_it_was false answer t l e = l e

  -- ---- a change, a SELECT or a DO

  -- a statement that was done is not refused
  shown_or_counted : (warned : Bool) (did : Did) (shown : Option (List (List Value))) → did.shown ≡ shown → is_refused (option_map_or (showing warned) shown (ok_warned warned did.affected)).end ≡ false
  shown_or_counted warned did None e = refl
  shown_or_counted warned did (Some rows) e = refl

  error_answered : (r : Result Did ℕ) (fuel : Fuel) (warned : Bool) → is_refused (given_answer (record { result = r; fuel = fuel; warned = warned })).end ≡ true → is_error r ≡ true
  error_answered (Ok did) fuel warned e = absurd (differ e (shown_or_counted warned did did.shown refl))
  error_answered (Err code) fuel warned e = refl

  given_left : (t : Turn Whole (Given Did)) → (is_error t.given.result ≡ true → IsLeft (begun shared session) t) → is_refused (given_turn t).given.end ≡ true
      → IsLeft (begun shared session) (given_turn t)
  given_left t l q = answered_left (begun shared session) t (given_answer t.given) (l (error_answered t.given.result t.given.fuel t.given.warned q))

  plain_left : (text : List ℕ) (s : Statement) → is_refused (plain_turn call text s shared session).given.end ≡ true → IsLeft (begun shared session) (plain_turn call text s shared session)
  plain_left text s q =
      let before = scene_for call.number full session.vars.context shared in
      unless_as_it_was (code_answer (statement_refusal shared.base.catalog session_scope s)) _
      (unless_as_it_was (lock_refusal call.number shared s) _
      (given_left _
      (ended_left full text s (λ (did : Did). did.first) (λ (did : Did). did.last_id) before
      (effect (setting_of shared.base.catalog session.vars.context (number_of_bytes 0 call.draw.uuid)) most_nested [] s before)))) q

  -- ---- SET

  set_by_left : (as' : List (Target × Tree)) (r : Result (List Value) ℕ) (t : Turn Whole (Given (List Value))) → (is_error r ≡ true → IsLeft (begun shared session) t)
      → is_refused (set_by as' r t).given.end ≡ true → IsLeft (begun shared session) (set_by as' r t)
  set_by_left as' (Err code) t l q = answered_left (begun shared session) t (refused code) (l refl)
  set_by_left as' (Ok vs) t l q = cc

  set_left : (as' : List (Target × Tree)) → is_refused (set_turn call as' shared session).given.end ≡ true → IsLeft (begun shared session) (set_turn call as' shared session)
  set_left as' q =
      let ts = set_expressions as' in
      let text = spelling (evaluate ts) in
      let before = scene_for call.number full session.vars.context shared in
      let run = fitted_run call full text ts (set_misfit (is_open session) as') shared session in
      long_as_it_was (is_too_long text) (refused 1153) _
      (unless_as_it_was (code_answer (statement_refusal shared.base.catalog session_scope (set_all as'))) _
      (unless_as_it_was (lock_refusal call.number shared (evaluate ts)) _
      (set_by_left as' run.given.result run
      (ended_left {A = List Value} full text (evaluate ts) (λ _. None) (λ _. None) before
      (fitted (set_misfit (is_open session) as') (evaluation (setting_of shared.base.catalog session.vars.context (number_of_bytes 0 call.draw.uuid)) most_nested [] ts before)))))) q

  -- ---- savepoints

  cut_left : (name : List ℕ) (open' : Open Whole) (found : Option Save) → is_refused (back_to_save call name open' found shared session).given.end ≡ true
      → IsLeft (begun shared session) (back_to_save call name open' found shared session)
  cut_left name open' None q = as_it_was (refused 1305)
  cut_left name open' (Some save) q = cc

  back_left : (name : List ℕ) (t : Option (Open Whole)) → is_refused (back_in call name t shared session).given.end ≡ true → IsLeft (begun shared session) (back_in call name t shared session)
  back_left name None q = as_it_was (refused 1305)
  back_left name (Some open') q = cut_left name open' (find (is_save_of name) open'.saves) q

  released_left : (name : List ℕ) (open' : Open Whole) (b : Bool)
      → is_refused (cond b (answered (ok 0) shared (record session { transaction = Some (record open' { saves = saves_but name open'.saves }) })) (answered (refused 1305) shared session)).given.end ≡ true
      → IsLeft (begun shared session) (cond b (answered (ok 0) shared (record session { transaction = Some (record open' { saves = saves_but name open'.saves }) })) (answered (refused 1305) shared session))
  released_left name open' true q = cc
  released_left name open' false q = as_it_was (refused 1305)

  release_left : (name : List ℕ) (t : Option (Open Whole)) → is_refused (release_in name t shared session).given.end ≡ true → IsLeft (begun shared session) (release_in name t shared session)
  release_left name None q = as_it_was (refused 1305)
  release_left name (Some open') q = released_left name open' (is_some (find (is_save_of name) open'.saves)) q

-- ---- definitions

unless_left : (refusal : Option Answer) (t : Turn Whole (Unit {0})) (next : Turn Whole Answer) → (is_refused next.given.end ≡ true → IsLeft t next)
    → is_refused (unless_answered refusal t next).given.end ≡ true → IsLeft t (unless_answered refusal t next)
unless_left None t next l q = l q
unless_left (Some answer) t next l q = answered_left t t answer (same_left t)

made_left : (call : Call Whole) (text : List ℕ) (s : Statement) (made : Option Base) (t : Turn Whole (Unit {0})) → is_refused (made_turn call text s made t).given.end ≡ true
    → IsLeft t (made_turn call text s made t)
made_left call text s None t q = answered_left t t (refused 30005) (same_left t)
made_left call text s (Some base) t q = cc

define_left : (call : Call Whole) (text : List ℕ) (s : Statement) (t : Turn Whole (Unit {0})) → is_refused (define_turn call text s t).given.end ≡ true → IsLeft t (define_turn call text s t)
define_left call text s t q =
    unless_left (option_map refused (ddl_refusal t.shared.base.catalog s)) t _
    (unless_left (writing_refusal call.number t.shared) t _ (made_left call text s (defined s t.shared.base) t)) q

definition_left : (call : Call Whole) (text : List ℕ) (s : Statement) (shared : Shared) (session : Session Whole) → is_refused (definition_turn call text s shared session).given.end ≡ true
    → IsLeft (commit_open call shared session) (definition_turn call text s shared session)
definition_left call text s shared session q = define_left call text s (commit_open call shared session) q

-- ---- the laws

pub errors_leave_all : ErrorsLeaveAll
errors_leave_all call text commit shared session l e = cc
errors_leave_all call text rollback shared session l e = cc
errors_leave_all call text (savepoint name) shared session l e = cc
errors_leave_all call text (rollback_to name) shared session l e = back_left call shared session name session.transaction e
errors_leave_all call text (release_savepoint name) shared session l e = release_left call shared session name session.transaction e
errors_leave_all call text begin shared session l e = cc
errors_leave_all call text (set_all as') shared session l e = set_left call shared session as' e
errors_leave_all call text (call_procedure name ts) shared session l e = cc
errors_leave_all call text (create_table t) shared session l e = cc
errors_leave_all call text (create_function p) shared session l e = cc
errors_leave_all call text (create_procedure p) shared session l e = cc
errors_leave_all call text (create_trigger t) shared session l e = cc
errors_leave_all call text (drop_table n) shared session l e = cc
errors_leave_all call text (drop_function n) shared session l e = cc
errors_leave_all call text (drop_procedure n) shared session l e = cc
errors_leave_all call text (drop_trigger n) shared session l e = cc
errors_leave_all call text (truncate n) shared session l e = cc
errors_leave_all call text (insert_into ignore t names supply sets) shared session l e = plain_left call shared session text (insert_into ignore t names supply sets) e
errors_leave_all call text (replace_into t names supply) shared session l e = plain_left call shared session text (replace_into t names supply) e
errors_leave_all call text (update_rows t sets condition os limit) shared session l e = plain_left call shared session text (update_rows t sets condition os limit) e
errors_leave_all call text (delete_rows t condition os limit) shared session l e = plain_left call shared session text (delete_rows t condition os limit) e
errors_leave_all call text (select q) shared session l e = plain_left call shared session text (select q) e
errors_leave_all call text (evaluate ts) shared session l e = plain_left call shared session text (evaluate ts) e
errors_leave_all call text (block ds ss) shared session l e = plain_left call shared session text (block ds ss) e
errors_leave_all call text (if_steps bs o) shared session l e = plain_left call shared session text (if_steps bs o) e
errors_leave_all call text (while_steps c ss) shared session l e = plain_left call shared session text (while_steps c ss) e
errors_leave_all call text (return_value v) shared session l e = plain_left call shared session text (return_value v) e

pub definitions_leave_all : DefinitionsLeaveAll
definitions_leave_all call text (create_table t) shared session l e = definition_left call text (create_table t) shared session e
definitions_leave_all call text (create_function p) shared session l e = definition_left call text (create_function p) shared session e
definitions_leave_all call text (create_procedure p) shared session l e = definition_left call text (create_procedure p) shared session e
definitions_leave_all call text (create_trigger t) shared session l e = definition_left call text (create_trigger t) shared session e
definitions_leave_all call text (drop_table n) shared session l e = definition_left call text (drop_table n) shared session e
definitions_leave_all call text (drop_function n) shared session l e = definition_left call text (drop_function n) shared session e
definitions_leave_all call text (drop_procedure n) shared session l e = definition_left call text (drop_procedure n) shared session e
definitions_leave_all call text (drop_trigger n) shared session l e = definition_left call text (drop_trigger n) shared session e
definitions_leave_all call text (truncate n) shared session l e = definition_left call text (truncate n) shared session e
definitions_leave_all call text begin shared session l e = cc
definitions_leave_all call text commit shared session l e = cc
definitions_leave_all call text rollback shared session l e = cc
definitions_leave_all call text (savepoint name) shared session l e = cc
definitions_leave_all call text (rollback_to name) shared session l e = cc
definitions_leave_all call text (release_savepoint name) shared session l e = cc
definitions_leave_all call text (set_all as') shared session l e = cc
definitions_leave_all call text (call_procedure name ts) shared session l e = cc
definitions_leave_all call text (insert_into ignore t names supply sets) shared session l e = cc
definitions_leave_all call text (replace_into t names supply) shared session l e = cc
definitions_leave_all call text (update_rows t sets condition os limit) shared session l e = cc
definitions_leave_all call text (delete_rows t condition os limit) shared session l e = cc
definitions_leave_all call text (select q) shared session l e = cc
definitions_leave_all call text (evaluate ts) shared session l e = cc
definitions_leave_all call text (block ds ss) shared session l e = cc
definitions_leave_all call text (if_steps bs o) shared session l e = cc
definitions_leave_all call text (while_steps c ss) shared session l e = cc
definitions_leave_all call text (return_value v) shared session l e = cc

pub readers_see_committed : ReadersSeeCommitted
readers_see_committed n left context shared other = ap (λ (b : Bool). cond b shared.base.tables (tables_with shared.changes shared.base.tables)) other
