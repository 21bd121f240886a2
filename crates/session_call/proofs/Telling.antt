-- What a procedure is told, by what the code did.
use Rattle.std.proofs.Common.{◌≡◌, ℕ, List, [], Bool, true, false, ◌||◌, Option, Some, None, Result, Ok, Err, refl, sym, ap, ◌∙◌, subst}
use Rattle.val_types.specs.declared.value.Value.{Value}
use Rattle.val_types.specs.declared.refusal.SqlRefusal.{SqlRefusal}
use Rattle.val_types.specs.declared.refusal.SqlRefusal.TheVariants as sql
use Rattle.answer_text.specs.declared.answer.Answer.{Answer}
use Rattle.proc_run.specs.log_entries.declared.entries.Item.{Item}
use Rattle.sql_locals.specs.declared.locals.Local.{Local}
use Rattle.sql_print.specs.StatementSpelling.{spelling}
use Rattle.sql_tree.specs.Statement.{Statement, evaluate, insert_into, replace_into, update_rows, delete_rows, select, create_table, create_function, create_procedure, create_trigger, drop_table, drop_function, drop_procedure, drop_trigger, truncate, set_all, call_procedure, begin, commit, rollback, savepoint, rollback_to, release_savepoint, block, if_steps, while_steps, return_value}
use Rattle.sql_tree.specs.Tree.{Trees}
use Rattle.proc_run.specs.sql_meaning.Changing.{Did}
use Rattle.proc_run.specs.sql_reach.Closing.{closed}
use Rattle.proc_run.specs.sql_reach.Reach.{is_definition}
use Rattle.proc_run.specs.catalog_rules.Checks.{Scope}
use Rattle.answer_making.specs.prog_work.declared.meter.Meter.{Meter}
use Rattle.answer_making.specs.prog_work.declared.meter.Outcome.{Outcome}
use Rattle.answer_making.specs.prog_work.Outcomes.{outcome_of}
use Rattle.proc_run.specs.proc_model.Talk.{Effect, Left, Refusal, Told}
use Rattle.proc_run.specs.proc_model.Procedures.{is_plain, scope_of}
use Rattle.proc_run.specs.proc_parts.Calls as asks
use Rattle.proc_run.specs.proc_parts.declared.runner.RunRefusal.{RunRefusal}
use Rattle.proc_run.specs.proc_parts.declared.runner.RunRefusal.TheVariants as refuses
use Rattle.answer_making.specs.Telling.{told_answer}
use Rattle.proc_run.specs.catalog_rules.Checks.{session_scope}
use Rattle.answer_making.specs.session_model.Sessions.{Session, Shared}
use Rattle.answer_making.specs.session_model.Running.{Call, Fuel, Given, Turn, statement_run, values_run}
use Rattle.answer_making.specs.session_model.Calling.{Reached, counted_by, effect_of, evaluate_step, reached_by, run_step, same, step_check, told_of, told_refused, told_result, unless_checked, with_counted}
use Rattle.answer_making.specs.session_model.Counting.{counted}
use Rattle.session_statement.specs.session_shared.Desk.{shared_of}
use Rattle.session_statement.specs.Ran as outcomes
use Rattle.session_statement.specs.Ran.{fuel_at, told_given}
use Rattle.session_call.specs.Stepping.{Stepped, reached}
use Rattle.session_statement.specs.Turned.{EndsWith, Moves, giving}
use Rattle.session_statement.specs.declared.keeping.Kept.{Kept}
use Rattle.session_statement.specs.session_shared.declared.desk.Desk.{Desk}

-- a change, a SELECT or a DO is no definition
pub plain_is_none : (s : Statement) → is_plain s ≡ true → is_definition s ≡ false
plain_is_none (insert_into ignore t names supply sets) e = refl
plain_is_none (replace_into t names supply) e = refl
plain_is_none (update_rows t sets condition os limit) e = refl
plain_is_none (delete_rows t condition os limit) e = refl
plain_is_none (select q) e = refl
plain_is_none (evaluate ts) e = refl
plain_is_none (create_table t) e = cc
plain_is_none (create_function p) e = cc
plain_is_none (create_procedure p) e = cc
plain_is_none (create_trigger t) e = cc
plain_is_none (drop_table name) e = cc
plain_is_none (drop_function name) e = cc
plain_is_none (drop_procedure name) e = cc
plain_is_none (drop_trigger name) e = cc
plain_is_none (truncate name) e = cc
plain_is_none (set_all as') e = refl
plain_is_none (call_procedure name ts) e = refl
plain_is_none begin e = refl
plain_is_none commit e = refl
plain_is_none rollback e = refl
plain_is_none (savepoint name) e = refl
plain_is_none (rollback_to name) e = refl
plain_is_none (release_savepoint name) e = refl
plain_is_none (block ds ss) e = refl
plain_is_none (if_steps bs o) e = refl
plain_is_none (while_steps c ss) e = refl
plain_is_none (return_value t) e = refl

-- ---- what is told

-- what is told of a run, by what is left of it
abbrev told_with : {A : Type 0} → Result A Refusal → Meter → Told A
told_with result m = record { result = result; turns = m.turns; uuids = m.uuids }

ran_told : (result : Result Did ℕ) (fuel : Fuel) (warned said : Bool) (told : Outcome) (m : Meter) (session : Session Item)
    → told_given (record { result = result; fuel = fuel; warned = warned }) ≡ record { result = Ok told; fuel = fuel_at m; warned = said }
    → (told_with (Ok (asks.effect_of told)) m ≡ told_of effect_of (record { result = result; fuel = fuel; warned = warned })) × (counted (told_answer told) session ≡ counted_by result session)
ran_told (Ok did) fuel warned said told m session e =
    let one : outcomes.told_of (Ok did) ≡ Ok told = ap (λ (g : Given Outcome). g.result) e in
    let same : outcome_of did ≡ told = cc in
    let left : fuel ≡ fuel_at m = ap (λ (g : Given Outcome). g.fuel) e in (
      sym (ap (λ (o : Outcome). told_with (Ok (asks.effect_of o)) m) same)
          ∙ sym (ap (λ (f : Fuel). record { result = Ok (effect_of did); turns = f.turns; uuids = f.uuids }) left),
      sym (ap (λ (o : Outcome). counted (told_answer o) session) same),
    )
ran_told (Err code) fuel warned said told m session e =
    let one : outcomes.told_of (Err code) ≡ Ok told = ap (λ (g : Given Outcome). g.result) e in cc

failed_told : (result : Result Did ℕ) (fuel : Fuel) (warned : Bool) (code : ℕ) (m : Meter) (session : Session Item)
    → told_given (record { result = result; fuel = fuel; warned = warned }) ≡ record { result = Err code; fuel = fuel_at m; warned = false }
    → (told_with (Err (asks.refusal_of code None)) m ≡ told_of effect_of (record { result = result; fuel = fuel; warned = warned })) × (session ≡ counted_by result session)
failed_told (Ok did) fuel warned code m session e =
    let one : outcomes.told_of (Ok did) ≡ Err code = ap (λ (g : Given Outcome). g.result) e in cc
failed_told (Err other) fuel warned code m session e =
    let one : outcomes.told_of (Err other) ≡ Err code = ap (λ (g : Given Outcome). g.result) e in
    let same : other ≡ code = cc in
    let left : fuel ≡ fuel_at m = ap (λ (g : Given Outcome). g.fuel) e in (
      sym (ap (λ (k : ℕ). told_with (Err (asks.refusal_of k None)) m) same)
          ∙ sym (ap (λ (f : Fuel). record { result = Err (asks.refusal_of other None); turns = f.turns; uuids = f.uuids }) left),
      refl,
    )

-- ---- a step that no check refuses

-- nothing is warned by what is not
still : (was : Bool) → was ≡ was || false
still true = refl
still false = refl

unchecked : {A B : Type 0} (refusal : Option Refusal) (left : Left) (old new : Desk) (session after : Session Item) (was warned : Bool) (told said : Told A) (t : Turn Item (Given B)) → None ≡ refusal → said ≡ told
    → warned ≡ was || t.given.warned → Moves old new after t → Stepped (unless_checked refusal left (reached old session was) (told, reached_by (reached old session was) t)) said old new after warned
unchecked {A} refusal left old new session after was warned told said t free is warns moves =
    subst (λ (r : Option Refusal). Stepped (unless_checked r left (reached old session was) (told, reached_by (reached old session was) t)) said old new after warned) free (is, (moves, warns))

refused_step : {A B : Type 0} (refusal : Option Refusal) (why : Refusal) (left : Left) (desk : Desk) (session : Session Item) (was : Bool) (told : Told A) (t : Turn Item (Given B)) → Some why ≡ refusal
    → Stepped (unless_checked refusal left (reached desk session was) (told, reached_by (reached desk session was) t)) (record { result = Err why; turns = left.turns; uuids = left.uuids }) desk desk session was
refused_step {A} refusal why left desk session was told t is =
    subst (λ (r : Option Refusal). Stepped (unless_checked r left (reached desk session was) (told, reached_by (reached desk session was) t)) (record { result = Err why; turns = left.turns; uuids = left.uuids }) desk desk session was) is
    (refl, ((refl, refl, (refl, tt)), refl))

module _ (call : Call Item) (left : Left) (s : Statement) (old new : Desk) (session ran : Session Item) (was : Bool) (m : Meter) where
  abbrev the_run : Turn Item (Given Did)
  the_run = statement_run call left (spelling s) s (shared_of old) session

  pub run_ok : (kept : Kept Outcome) (after : Session Item) (warned : Bool) → None ≡ step_check call.number session_scope s (shared_of old) → EndsWith (Ok kept) (fuel_at m) old new ran (giving told_given the_run)
      → after ≡ counted (told_answer kept.value) ran → warned ≡ was || kept.warned → Stepped (run_step call left s (reached old session was)) (told_with (Ok (asks.effect_of kept.value)) m) old new after warned
  run_ok kept after warned free ends is warns =
      let both = ran_told the_run.given.result the_run.given.fuel the_run.given.warned kept.warned kept.value m ran ends.1 in
      unchecked (step_check call.number session_scope s (shared_of old)) left old new session after was warned (told_of effect_of the_run.given) (told_with (Ok (asks.effect_of kept.value)) m) (with_counted the_run) free both.0
      (warns ∙ ap (λ (g : Given Outcome). was || g.warned) (sym ends.1)) (ends.0.0, is ∙ both.1 ∙ ap (counted_by the_run.given.result) ends.0.1, ends.0.2)

  pub run_err : (code : ℕ) → None ≡ step_check call.number session_scope s (shared_of old) → EndsWith {A = Outcome} (Err (sql.Sql code)) (fuel_at m) old new ran (giving told_given the_run)
      → Stepped (run_step call left s (reached old session was)) (told_with (Err (asks.refusal_of code None)) m) old new ran was
  run_err code free ends =
      let both = failed_told the_run.given.result the_run.given.fuel the_run.given.warned code m ran ends.1 in
      unchecked (step_check call.number session_scope s (shared_of old)) left old new session ran was was (told_of effect_of the_run.given) (told_with (Err (asks.refusal_of code None)) m) (with_counted the_run) free both.0
      (still was ∙ ap (λ (g : Given Outcome). was || g.warned) (sym ends.1)) (ends.0.0, both.1 ∙ ap (counted_by the_run.given.result) ends.0.1, ends.0.2)

  -- whatever refused it
  by_refusal : (rose : Type 0) (e : SqlRefusal) → None ≡ step_check call.number session_scope s (shared_of old) → EndsWith {A = Outcome} (Err e) (fuel_at m) old new ran (giving told_given the_run)
      → asks.Tells (λ told. Stepped (run_step call left s (reached old session was)) told old new ran was) rose asks.effect_of (Err (asks.widened e)) m
  by_refusal rose (sql.Sql code) free ends = run_err code free ends
  by_refusal rose sql.NoMemory free ends = tt

  pub run_refused : (rose : Type 0) (e : SqlRefusal) (answer : RunRefusal) → answer ≡ asks.widened e → None ≡ step_check call.number session_scope s (shared_of old) → EndsWith {A = Outcome} (Err e) (fuel_at m) old new ran (giving told_given the_run)
      → asks.Tells (λ told. Stepped (run_step call left s (reached old session was)) told old new ran was) rose asks.effect_of (Err answer) m
  run_refused rose e answer is free ends =
      subst (λ (a : RunRefusal). asks.Tells (λ told. Stepped (run_step call left s (reached old session was)) told old new ran was) rose asks.effect_of (Err a) m) (sym is) (by_refusal rose e free ends)

-- one that a check refuses
pub run_checked : (rose : Type 0) (call : Call Item) (s : Statement) (desk : Desk) (session : Session Item) (was : Bool) (m : Meter) (why : Refusal) (answer : RunRefusal) → Some why ≡ step_check call.number session_scope s (shared_of desk) → answer ≡ refuses.Sql why.code why.holder
    → asks.Tells (λ told. Stepped (run_step call (asks.left_of m) s (reached desk session was)) told desk desk session was) rose asks.effect_of (Err answer) m
run_checked rose call s desk session was m why answer found is =
    let t : Turn Item (Given Did) = statement_run call (asks.left_of m) (spelling s) s (shared_of desk) session in
    subst (λ (a : RunRefusal). asks.Tells (λ told. Stepped (run_step call (asks.left_of m) s (reached desk session was)) told desk desk session was) rose asks.effect_of (Err a) m) (sym is)
    (refused_step (step_check call.number session_scope s (shared_of desk)) why (asks.left_of m) desk session was (told_of effect_of t.given) (with_counted t) found)

-- ---- expressions

module _ (call : Call Item) (left : Left) (locals : List Local) (ts : Trees) (old new : Desk) (session after : Session Item) (was : Bool) (m : Meter) where
  abbrev the_item : Statement
  the_item = closed (evaluate ts) locals

  abbrev the_values : Turn Item (Given (List Value))
  the_values = values_run call left (spelling the_item) the_item locals ts (shared_of old) session

  pub gave_ok : (kept : Kept (List Value)) (warned : Bool) → None ≡ step_check call.number (scope_of locals) (evaluate ts) (shared_of old) → EndsWith (Ok kept) (fuel_at m) old new after the_values
      → warned ≡ was || kept.warned → Stepped (evaluate_step call left locals ts (reached old session was)) (told_with (Ok kept.value) m) old new after warned
  gave_ok kept warned free ends warns =
      unchecked (step_check call.number (scope_of locals) (evaluate ts) (shared_of old)) left old new session after was warned (told_of same the_values.given) (told_with (Ok kept.value) m) the_values free
      (sym (ap (told_of same) ends.1)) (warns ∙ ap (λ (g : Given (List Value)). was || g.warned) (sym ends.1)) ends.0

  by_cause : (rose : Type 0) (e : SqlRefusal) → None ≡ step_check call.number (scope_of locals) (evaluate ts) (shared_of old) → EndsWith {A = List Value} (Err e) (fuel_at m) old new after the_values
      → asks.Tells {A = List Value} (λ told. Stepped (evaluate_step call left locals ts (reached old session was)) told old new after was) rose asks.plainly (Err (asks.widened e)) m
  by_cause rose (sql.Sql code) free ends =
      unchecked (step_check call.number (scope_of locals) (evaluate ts) (shared_of old)) left old new session after was was (told_of same the_values.given) (told_with (Err (asks.refusal_of code None)) m) the_values free
      (sym (ap (told_of same) ends.1)) (still was ∙ ap (λ (g : Given (List Value)). was || g.warned) (sym ends.1)) ends.0
  by_cause rose sql.NoMemory free ends = tt

  pub gave_refused : (rose : Type 0) (e : SqlRefusal) (answer : RunRefusal) → answer ≡ asks.widened e → None ≡ step_check call.number (scope_of locals) (evaluate ts) (shared_of old) → EndsWith {A = List Value} (Err e) (fuel_at m) old new after the_values
      → asks.Tells {A = List Value} (λ told. Stepped (evaluate_step call left locals ts (reached old session was)) told old new after was) rose asks.plainly (Err answer) m
  gave_refused rose e answer is free ends =
      subst (λ (a : RunRefusal). asks.Tells {A = List Value} (λ told. Stepped (evaluate_step call left locals ts (reached old session was)) told old new after was) rose asks.plainly (Err a) m) (sym is) (by_cause rose e free ends)

pub gave_checked : (rose : Type 0) (call : Call Item) (locals : List Local) (ts : Trees) (desk : Desk) (session : Session Item) (was : Bool) (m : Meter) (why : Refusal) (answer : RunRefusal) → Some why ≡ step_check call.number (scope_of locals) (evaluate ts) (shared_of desk) → answer ≡ refuses.Sql why.code why.holder
    → asks.Tells {A = List Value} (λ told. Stepped (evaluate_step call (asks.left_of m) locals ts (reached desk session was)) told desk desk session was) rose asks.plainly (Err answer) m
gave_checked rose call locals ts desk session was m why answer found is =
    let item : Statement = closed (evaluate ts) locals in
    let t : Turn Item (Given (List Value)) = values_run call (asks.left_of m) (spelling item) item locals ts (shared_of desk) session in
    subst (λ (a : RunRefusal). asks.Tells {A = List Value} (λ told. Stepped (evaluate_step call (asks.left_of m) locals ts (reached desk session was)) told desk desk session was) rose asks.plainly (Err a) m) (sym is)
    (refused_step (step_check call.number (scope_of locals) (evaluate ts) (shared_of desk)) why (asks.left_of m) desk session was (told_of same t.given) t found)

-- ---- who carries it out

-- what is told, with what else holds of it
pub tells_too : {A B : Type 0} (extra : Type 0) (says : Told B → Type 0) (rose now : Type 0) (view : A → B) (result : Result A RunRefusal) (m : Meter) → extra → (rose → now)
    → asks.Tells says rose view result m → asks.Tells (λ told. extra × says told) now view result m
tells_too extra says rose now view (Ok a) m x f tells = (x, tells)
tells_too extra says rose now view (Err (refuses.Sql code holder)) m x f tells = (x, tells)
tells_too extra says rose now view (Err refuses.Device) m x f tells = f tells
tells_too extra says rose now view (Err refuses.NoMemory) m x f tells = tt

pub ruleset running = (plain_is_none, run_ok, run_refused, run_checked)

pub ruleset evaluating = (gave_ok, gave_refused, gave_checked)
