-- Procedures at a level of nesting.
use Rattle.std.proofs.Common.{◌≡◌, ◌≤◌, ◌<◌, ◌-◌, ◌==◌, ℕ, zero, suc, List, [], ◌∷◌, Bool, true, false, Option, Some, None, Result, Ok, Err, length, refl, sym, ap, ◌∙◌, rules, arith}
use Rattle.std.specs.Prelude.{zip}
use Rattle.std.specs.Borrow.{Bor}
use Rattle.val_types.specs.declared.value.Value.{Value}
use Rattle.val_types.specs.declared.refusal.SqlRefusal.{SqlRefusal}
use Rattle.sql_tree.specs.Tree.{Tree}
use Rattle.sql_tree.specs.Statement.{Program, program, Statement, Statements, Trigger}
use Rattle.sql_tree.specs.StatementView.{view, view_program, statement_step, branch_step, program_step, trigger_step}
use Rattle.sql_tree.specs.declared.statements.Routine.{Routine, out-Routine}
use Rattle.sql_tree.specs.declared.statements.Stmt.TheFolds.{fold_out-Routine}
use Rattle.sql_locals.specs.declared.locals.Local.{Local}
use Rattle.proc_parts.specs.catalog_objects.Keys.{objects_of}
use Rattle.proc_parts.specs.catalog_rules.Names.{is_among}
use Rattle.proc_parts.specs.catalog_rules.Objects.{Object, procedure_in, parameters_of}
use Rattle.exec_state.specs.declared.running.Running.{Running as Chain, Function, the_lemmas}
use Rattle.exec_state.specs.UnderWay.{under_way}
use Rattle.proc_parts.specs.sql_evaluation.Seen.{running_of}
use Rattle.proc_parts.specs.proc_model.Talk.{Rules}
use Rattle.proc_parts.specs.proc_model.Procedures.{Held, Action, World as Around, done, ◌>>=◌, pure, fail, answered, all_tried, add_parameter, call_at, free_procedure, procedure_body, started}
use Rattle.proc_parts.specs.declared.runner.RunRefusal.{RunRefusal}
use Rattle.proc_parts.specs.declared.runner.RunRefusal.TheVariants.{Sql}
use Rattle.proc_parts.specs.declared.world.World.{World}
use Rattle.proc_parts.specs.Calls.{EndsBy, Tries, always, plainly, widened, world_of}
use Rattle.proc_parts.specs.Parts.{step_at}
use Rattle.proc_run.specs.Steps.{body_at}
use Rattle.proc_parts.proofs.Behind.{onto_done, onto_ends, failed_ends, tried_onto, untried_ends}

-- ---- what is round it

pub procedure_inside : (name : Bor (List ℕ)) (outer : Bor Chain) → (under_way (Function name outer)).functions ≡ name.now ∷ (under_way outer.now).functions
procedure_inside name outer = search (rules, the_lemmas)

-- ---- what a CALL starts

started_as : List (List ℕ) → List ℕ → List Value → Option Program → Result Program ℕ
started_as running n vs o = elim o [ None ↦ Err 1305 | Some p ↦ free_procedure running n vs p ]

starts : (catalog : List Object) (running : List (List ℕ)) (n : List ℕ) (vs : List Value) (o : Option Program) → o ≡ procedure_in catalog n
    → started catalog running n vs ≡ started_as running n vs o
unfolding started_as
starts catalog running n vs o is = ap (λ (p : Option Program). started_as running n vs p) (sym is)

absent : (catalog : List Object) (running : List (List ℕ)) (n : List ℕ) (vs : List Value) → None ≡ procedure_in catalog n → started catalog running n vs ≡ Err 1305
unfolding started_as
absent catalog running n vs is = starts catalog running n vs None is

miscounted : (catalog : List Object) (running : List (List ℕ)) (n : List ℕ) (vs : List Value) (p : Program) → Some p ≡ procedure_in catalog n
    → (length (parameters_of p) == length vs) ≡ false → started catalog running n vs ≡ Err 1318
unfolding started_as
miscounted catalog running n vs p is counted = starts catalog running n vs (Some p) is ∙ (rw counted refl)

under_way_already : (catalog : List Object) (running : List (List ℕ)) (n : List ℕ) (vs : List Value) (p : Program) → Some p ≡ procedure_in catalog n
    → (length (parameters_of p) == length vs) ≡ true → is_among running n ≡ true → started catalog running n vs ≡ Err 1456
unfolding started_as
under_way_already catalog running n vs p is counted called = starts catalog running n vs (Some p) is ∙ (rw (counted, called) refl)

free : (catalog : List Object) (running : List (List ℕ)) (n : List ℕ) (vs : List Value) (p : Program) → Some p ≡ procedure_in catalog n
    → (length (parameters_of p) == length vs) ≡ true → is_among running n ≡ false → started catalog running n vs ≡ Ok p
unfolding started_as
free catalog running n vs p is counted called = starts catalog running n vs (Some p) is ∙ (rw (counted, called) refl)

program_of_out : (r : Routine) → view_program r ≡ program (out-Routine r).name (out-Routine r).parameters (out-Routine r).returns (view (out-Routine r).body)
program_of_out r = fold_out-Routine Statement (Tree × Statements) Program Trigger statement_step branch_step program_step trigger_step r

-- as many arguments as parameters, or not
pub counted_is : (r : Routine) (vs : List Value) (n m : ℕ) (b : Bool) → n ≡ length (out-Routine r).parameters → m ≡ length vs → (n == m) ≡ b → (length (parameters_of (view_program r)) == length vs) ≡ b
counted_is r vs n m b e f t =
    let seen : (length (parameters_of (view_program r)) == length vs) ≡ (length (out-Routine r).parameters == length vs) = ap (λ (p : Program). (length (parameters_of p) == length vs)) (program_of_out r) in
    let same : (length (out-Routine r).parameters == length vs) ≡ (n == m) = λ i. ((sym e) i == (sym f) i) in
    seen ∙ same ∙ t

-- ---- a CALL

-- what is round a procedure, one level further down
abbrev around_of : List Object → ℕ → List (List ℕ) → Around
around_of catalog below running = record { catalog = catalog; nesting = below; call = call_at catalog below running }

behind_start : List Object → ℕ → List (List ℕ) → List ℕ → List Value → Program → Action (Unit {0})
behind_start catalog zero running n vs p = fail 30003
behind_start catalog (suc below) running n vs p = procedure_body (around_of catalog below (n ∷ running)) p vs

call_is : (catalog : List Object) (level : ℕ) (running : List (List ℕ)) (n : List ℕ) (vs : List Value) (held : Held)
    → call_at catalog level running n vs held ≡ (answered (started catalog running n vs) >>= behind_start catalog level running n vs) held
unfolding call_at behind_start
call_is catalog zero running n vs held = refl
call_is catalog (suc below) running n vs held = refl

body_is : (catalog : List Object) (level : ℕ) (running : List (List ℕ)) (n : List ℕ) (vs : List Value) (p : Program) → 0 < level
    → behind_start catalog level running n vs p ≡ procedure_body (around_of catalog (level - 1) (n ∷ running)) p vs
unfolding behind_start
body_is catalog zero running n vs p some = absurd (omega arith)
body_is catalog (suc below) running n vs p some = let same : suc below - 1 ≡ below = omega arith in rw same refl

module _ {S : Type 0} (rules : Rules S) (faults : S → ℕ) (w : World) (n : List ℕ) (vs : List Value) where
  -- the procedures that are running
  abbrev running : List (List ℕ)
  running = (running_of w.running.now).functions

  refused_by : {A : Type 0} (view' : A → Unit {0}) (code : ℕ) (held : Held) (here : S) → started (objects_of w.catalog.now) running n vs ≡ Err code
      → EndsBy rules faults view' (Err (Sql code None)) held here ((world_of w).call n vs held) here
  refused_by view' code held here is = rw (call_is (objects_of w.catalog.now) w.nesting running n vs held, is) (refl, refl)

  pub call_absent : {A : Type 0} (view' : A → Unit {0}) (held : Held) (here : S) → None ≡ procedure_in (objects_of w.catalog.now) n
      → EndsBy rules faults view' (Err (Sql 1305 None)) held here ((world_of w).call n vs held) here
  call_absent view' held here is = refused_by view' 1305 held here (absent (objects_of w.catalog.now) running n vs is)

  pub call_miscounted : {A : Type 0} (view' : A → Unit {0}) (p : Program) (held : Held) (here : S) → Some p ≡ procedure_in (objects_of w.catalog.now) n
      → (length (parameters_of p) == length vs) ≡ false → EndsBy rules faults view' (Err (Sql 1318 None)) held here ((world_of w).call n vs held) here
  call_miscounted view' p held here is counted = refused_by view' 1318 held here (miscounted (objects_of w.catalog.now) running n vs p is counted)

  pub call_running : {A : Type 0} (view' : A → Unit {0}) (p : Program) (held : Held) (here : S) → Some p ≡ procedure_in (objects_of w.catalog.now) n
      → (length (parameters_of p) == length vs) ≡ true → is_among running n ≡ true → EndsBy rules faults view' (Err (Sql 1456 None)) held here ((world_of w).call n vs held) here
  call_running view' p held here is counted called = refused_by view' 1456 held here (under_way_already (objects_of w.catalog.now) running n vs p is counted called)

  pub call_too_deep : {A : Type 0} (view' : A → Unit {0}) (p : Program) (held : Held) (here : S) → Some p ≡ procedure_in (objects_of w.catalog.now) n
      → (length (parameters_of p) == length vs) ≡ true → is_among running n ≡ false → w.nesting ≡ 0
      → EndsBy rules faults view' (Err (Sql 30003 None)) held here ((world_of w).call n vs held) here
  unfolding behind_start
  call_too_deep view' p held here is counted called none =
      rw (call_is (objects_of w.catalog.now) w.nesting running n vs held, free (objects_of w.catalog.now) running n vs p is counted called, none) (refl, refl)

  around_is : (inner : World) → objects_of inner.catalog.now ≡ objects_of w.catalog.now → inner.nesting ≡ w.nesting - 1 → (running_of inner.running.now).functions ≡ n ∷ running
      → world_of inner ≡ around_of (objects_of w.catalog.now) (w.nesting - 1) (n ∷ running)
  around_is inner same nesting inside = λ i. around_of (same i) (nesting i) (inside i)

  pub call_ends : (inner : World) (p : Program) (r : Result (Unit {0}) RunRefusal) (held held' : Held) (before after : S) → Some p ≡ procedure_in (objects_of w.catalog.now) n
      → (length (parameters_of p) == length vs) ≡ true → is_among running n ≡ false → 0 < w.nesting
      → objects_of inner.catalog.now ≡ objects_of w.catalog.now → inner.nesting ≡ w.nesting - 1 → (running_of inner.running.now).functions ≡ n ∷ running
      → EndsBy rules faults plainly r held' before (body_at inner p vs held) after → EndsBy rules faults plainly r held' before ((world_of w).call n vs held) after
  unfolding body_at
  call_ends inner p r held held' before after is counted called some same nesting inside h =
      rw (call_is (objects_of w.catalog.now) w.nesting running n vs held, free (objects_of w.catalog.now) running n vs p is counted called, body_is (objects_of w.catalog.now) w.nesting running n vs p some, ← around_is inner same nesting inside) h

pub ruleset nested = (call_absent)

-- ---- the body of a procedure

module _ {S : Type 0} (rules : Rules S) (faults : S → ℕ) (w : World) (r : Routine) (vs : List Value) where
  behind_step : List Local → Action (Unit {0})
  behind_step locals = pure tt

  behind_parameters : List Local → Action (Unit {0})
  behind_parameters locals = step_at w locals (view (out-Routine r).body) >>= behind_step

  body_at_is : (held : Held) → body_at w (view_program r) vs held ≡ (answered (all_tried add_parameter [] (zip (out-Routine r).parameters vs)) >>= behind_parameters) held
  unfolding body_at step_at behind_parameters behind_step
  body_at_is held = ap (λ (p : Program). procedure_body (world_of w) p vs held) (program_of_out r)

  pub body_unfit : {A B : Type 0} (view' : A → List Local) (other : B → Unit {0}) (e : SqlRefusal) (held : Held) (here : S)
      → Tries view' (Err e) (all_tried add_parameter [] (zip (out-Routine r).parameters vs))
      → EndsBy rules faults other (Err (widened e)) held here (body_at w (view_program r) vs held) here
  body_unfit view' other e held here h =
      rw (body_at_is held) (untried_ends rules faults (all_tried add_parameter [] (zip (out-Routine r).parameters vs)) behind_parameters view' other e held here h)

  pub body_ends : (locals last : List Local) (u : Unit {0}) (o : Result (Unit {0}) RunRefusal) (held held' : Held) (before after : S)
      → Tries (always locals) (Ok u) (all_tried add_parameter [] (zip (out-Routine r).parameters vs)) → faults before ≤ faults after
      → EndsBy rules faults (always last) o held' before (step_at w locals (view (out-Routine r).body) held) after
      → EndsBy rules faults plainly o held' before (body_at w (view_program r) vs held) after
  unfolding behind_parameters behind_step
  body_ends locals last u (Ok x) held held' before after h later k =
      rw (body_at_is held)
      ((tried_onto rules faults (all_tried add_parameter [] (zip (out-Routine r).parameters vs)) behind_parameters (always locals) u held before h).on (done x held') after
      ((onto_done rules faults (step_at w locals (view (out-Routine r).body)) behind_step last held held' before after later k).on (done x held') after (refl, refl)))
  body_ends locals last u (Err e) held held' before after h later k =
      rw (body_at_is held)
      (onto_ends rules faults plainly (Err e) held' (behind_parameters locals held) _ before before after
      (tried_onto rules faults (all_tried add_parameter [] (zip (out-Routine r).parameters vs)) behind_parameters (always locals) u held before h)
      (failed_ends rules faults (step_at w locals (view (out-Routine r).body)) behind_step (always last) plainly e held held' before after k))

pub ruleset bodies = (body_unfit, body_ends)
