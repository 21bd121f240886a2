-- Functions and triggers, one step at a time.
use Rattle.std.proofs.Common.{◌≡◌, ℕ, ◌+◌, ◌<◌, ◌≤◌, List, [], ◌∷◌, ◌++◌, length, get_or, drop, zip, Option, Some, None, refl, sym, ap, ◌∙◌, subst, Result, Ok, Err, append_assoc, append-nil}
use Rattle.std.proofs.lemmas.List.{drop_all}
use Rattle.val_types.specs.declared.value.Value.{Value}
use Rattle.val_types.specs.declared.refusal.SqlRefusal.{SqlRefusal}
use Rattle.val_types.specs.declared.refusal.SqlRefusal.TheVariants.{Sql, NoMemory}
use Rattle.val_types.specs.declared.definitions.ColType.{ColType}
use Rattle.val_types.specs.declared.definitions.TableDef.{TableDef}
use Rattle.sql_tree.specs.Tree.{Tree}
use Rattle.sql_tree.specs.Statement.{Statement, Statements, Program, Trigger, program, trigger}
use Rattle.sql_tree.specs.StatementView.{view, view_program, view_trigger, statement_step, branch_step, program_step, trigger_step}
use Rattle.sql_tree.specs.declared.statements.Parameter.{Parameter}
use Rattle.sql_tree.specs.declared.statements.Routine.{Routine, out-Routine}
use Rattle.sql_tree.specs.declared.statements.TriggerDef.{TriggerDef, out-TriggerDef}
use Rattle.sql_tree.specs.declared.statements.Stmt.TheFolds.{fold_out-Routine, fold_out-TriggerDef}
use Rattle.sql_tree.specs.declared.statements.SqlType.{SqlType}
use Rattle.sql_locals.specs.declared.locals.Local.{Local}
use Rattle.sql_locals.specs.Types.{column_type}
use Rattle.sql_statements.specs.sql_meaning.Scenes.{Scene, Ending, Action, done, failed, then_do, pure, each, needed, ◌>>=◌}
use Rattle.sql_statements.specs.sql_meaning.Frames.{View}
use Rattle.sql_statements.specs.sql_meaning.Changing.{fitted}
use Rattle.sql_statements.specs.sql_meaning.Running.{Body, Ended, fitted_result, function_body, local_for, row_left, seen_as, step}
use Rattle.exec_state.specs.Stage.{EndsAs}
use Rattle.sql_evaluation.specs.declared.world.Around.{Around}
use Rattle.sql_evaluation.specs.declared.world.View.{View as Shown}
use Rattle.sql_evaluation.specs.Seen.{Anywhere, world_of}
use Rattle.sql_evaluation.proofs.Branching.{rest_is}
use Rattle.sql_statements.specs.changed_rows.Firing.{left_of}
use Rattle.stored_programs.specs.Bodies.{ended_at, view_in}
use Rattle.stored_programs.specs.Steps.{locals_for, row_of_view, step_in, triggered_in}
use Rattle.stored_programs.proofs.Acting.{Same, ends_so}

-- ---- a parameter

then_local : (q : Parameter) (k : ColType) → Value → Action Local
then_local q k fit = pure (record { name = q.name; kind = k; value = fit })

pub parameter_unfit : (q : Parameter) (v : Value) (k : ColType) (code : ℕ) → k ≡ column_type (q.kind) → Anywhere {A = Value} (Err (Sql code)) (fitted k v)
    → Anywhere {A = Local} (Err (Sql code)) (local_for (q, v))
parameter_unfit q v k code is h =
    let here : Anywhere {A = Value} (Err (Sql code)) (fitted (column_type (q.kind)) v) = rw is at h in
    record { ends = λ scene. ap (λ (x : Ending Value). then_do x (λ fit. pure {A = Local} (record { name = q.name; kind = column_type (q.kind); value = fit }))) (here.ends scene) }

pub parameter_fits : (q : Parameter) (v fit : Value) (k : ColType) (n : List ℕ) → k ≡ column_type (q.kind) → Anywhere (Ok fit) (fitted k v) → n ≡ q.name
    → Anywhere (Ok (record { name = n; kind = k; value = fit })) (local_for (q, v))
parameter_fits q v fit k n is h named =
    let here : Anywhere (Ok fit) (fitted (column_type (q.kind)) v) = rw is at h in
    record {
      ends = λ scene.
          ap (λ (x : Ending Value). then_do x (λ fit. pure {A = Local} (record { name = q.name; kind = column_type (q.kind); value = fit }))) (here.ends scene)
          ∙ (λ i. done (record { name = (sym named) i; kind = (sym is) i; value = fit }) scene);
    }

pub ruleset parameters = (parameter_unfit, parameter_fits)

-- ---- parameters, one after the other

-- what is left of them, behind the first ones
unfoldable pub locals_left : List Local → List Parameter → List Value → Action (List Local)
locals_left out qs vs scene = then_do (each local_for (zip qs vs) scene) (λ ls. pure (out ++ ls))

nothing_before : (e : Ending (List Local)) → then_do e (λ ls. pure ([] ++ ls)) ≡ e
nothing_before (done ls scene) = refl
nothing_before (failed code scene) = refl

put_behind : (e : Ending (List Local)) (out : List Local) (l : Local)
    → then_do (then_do e (λ ls. pure (l ∷ ls))) (λ ls. pure (out ++ ls)) ≡ then_do e (λ ls. pure ((out ++ l ∷ []) ++ ls))
put_behind (done ls scene) out l = ap (λ (xs : List Local). done xs scene) (sym (append_assoc out (l ∷ []) ls))
put_behind (failed code scene) out l = refl

pub locals_start : (qs : List Parameter) (vs : List Value) → Same (locals_left [] qs vs) (locals_for qs vs)
unfolding locals_left
locals_start qs vs = record { same = λ scene. nothing_before (each local_for (zip qs vs) scene) }

locals_next : (out : List Local) (qs : List Parameter) (i : ℕ) (q : Parameter) (v : Value) (vs vs' : List Value) (scene : Scene) → i < length qs → q ≡ get_or qs i q → vs ≡ v ∷ vs'
    → locals_left out (drop i qs) vs scene ≡ then_do (then_do (local_for (q, v) scene) (λ l. each local_for (zip (drop (i + 1) qs) vs') >>= λ ls. pure (l ∷ ls))) (λ ls. pure (out ++ ls))
unfolding locals_left
locals_next out qs i q v vs vs' scene within is first =
    ap (λ (ps : List Parameter). then_do (each local_for (zip ps vs) scene) (λ ls. pure (out ++ ls))) (rest_is qs i q within is)
    ∙ ap (λ (ws : List Value). then_do (each local_for (zip (q ∷ drop (i + 1) qs) ws) scene) (λ ls. pure (out ++ ls))) first

-- what stands behind a local
abbrev behind_local : List Local → List Parameter → List Value → Local → Action (List Local)
behind_local out qs vs l = each local_for (zip qs vs) >>= λ ls. pure (l ∷ ls)

pub locals_more : (out : List Local) (qs : List Parameter) (i : ℕ) (q : Parameter) (v : Value) (l : Local) (vs vs' : List Value) (o : Action (List Local))
    → i < length qs → q ≡ get_or qs i q → vs ≡ v ∷ vs' → Anywhere (Ok l) (local_for (q, v))
    → Same (locals_left out (drop i qs) vs) o → Same (locals_left (out ++ l ∷ []) (drop (i + 1) qs) vs') o
unfolding locals_left
locals_more out qs i q v l vs vs' o within is first h before = record {
  same = λ scene.
      sym (locals_next out qs i q v vs vs' scene within is first
      ∙ ap (λ (x : Ending Local). then_do (then_do x (behind_local out (drop (i + 1) qs) vs')) (λ ls. pure (out ++ ls))) (h.ends scene)
      ∙ put_behind (each local_for (zip (drop (i + 1) qs) vs') scene) out l)
      ∙ before.same scene;
}

pub locals_fail : (out : List Local) (qs : List Parameter) (i : ℕ) (q : Parameter) (v : Value) (vs vs' : List Value) (e : SqlRefusal) (o : Action (List Local))
    → i < length qs → q ≡ get_or qs i q → vs ≡ v ∷ vs' → Anywhere {A = Local} (Err e) (local_for (q, v))
    → Same (locals_left out (drop i qs) vs) o → Anywhere {A = List Local} (Err e) o
locals_fail out qs i q v vs vs' NoMemory o within is first h before = record { ends = λ scene. tt }
locals_fail out qs i q v vs vs' (Sql code) o within is first h before = record {
  ends = λ scene.
      sym (before.same scene) ∙ locals_next out qs i q v vs vs' scene within is first
      ∙ ap (λ (x : Ending Local). then_do (then_do x (behind_local out (drop (i + 1) qs) vs')) (λ ls. pure (out ++ ls))) (h.ends scene);
}

none_left : (out : List Local) (qs : List Parameter) (scene : Scene) → then_do (each local_for (zip qs []) scene) (λ ls. pure (out ++ ls)) ≡ done out scene
none_left out [] scene = ap (λ (ls : List Local). done ls scene) (append-nil out)
none_left out (q ∷ qs) scene = ap (λ (ls : List Local). done ls scene) (append-nil out)

pub locals_short : (out : List Local) (qs : List Parameter) (vs : List Value) (o : Action (List Local)) → vs ≡ [] → Same (locals_left out qs vs) o → Anywhere (Ok out) o
unfolding locals_left
locals_short out qs vs o none before = record {
  ends = λ scene. sym (before.same scene) ∙ ap (λ (ws : List Value). then_do (each local_for (zip qs ws) scene) (λ ls. pure (out ++ ls))) none ∙ none_left out qs scene;
}

pub locals_end : (out : List Local) (qs : List Parameter) (i : ℕ) (vs : List Value) (o : Action (List Local)) → length qs ≤ i → Same (locals_left out (drop i qs) vs) o → Anywhere (Ok out) o
unfolding locals_left
locals_end out qs i vs o past before = record {
  ends = λ scene.
      sym (before.same scene) ∙ ap (λ (ps : List Parameter). then_do (each local_for (zip ps vs) scene) (λ ls. pure (out ++ ls))) (drop_all i qs past)
      ∙ ap (λ (ls : List Local). done ls scene) (append-nil out);
}

pub ruleset all_parameters = (locals_start, locals_more, locals_short, locals_end)

-- ---- a result

pub result_none : (v : Value) → Anywhere (Ok v) (fitted_result None v)
result_none v = record { ends = λ scene. refl }

pub result_some : (kind : SqlType) (k : ColType) (v : Value) (r : Result Value SqlRefusal) → k ≡ column_type kind → Anywhere r (fitted k v) → Anywhere r (fitted_result (Some kind) v)
result_some kind k v r is h = subst (λ (c : ColType). Anywhere r (fitted c v)) is h

pub ruleset results = (result_none, result_some)

-- ---- functions

pub program_of_out : (r : Routine) → view_program r ≡ program (out-Routine r).name (out-Routine r).parameters (out-Routine r).returns (view (out-Routine r).body)
program_of_out r = fold_out-Routine Statement (Tree × Statements) Program Trigger statement_step branch_step program_step trigger_step r

-- where a function begins
abbrev begins : List Local → Body
begins locals = record { locals = locals; new_row = None; old_row = None }

abbrev behind_step : Option SqlType → Ended → Action Value
behind_step returns ended = needed 1321 ended.returned >>= fitted_result returns

abbrev behind_locals : Around → Routine → List Local → Action Value
behind_locals a r locals = step_in a (begins locals) (view (out-Routine r).body) >>= behind_step (out-Routine r).returns

function_is : (a : Around) (r : Routine) (vs : List Value) (scene : Scene)
    → function_body (world_of a) (view_program r) vs scene ≡ then_do (locals_for (out-Routine r).parameters vs scene) (behind_locals a r)
unfolding step_in
function_is a r vs scene = ap (λ (p : Program). function_body (world_of a) p vs scene) (program_of_out r)

pub function_not_fitted : (a : Around) (r : Routine) (vs : List Value) (code : ℕ) (scene : Scene) → Anywhere {A = List Local} (Err (Sql code)) (locals_for (out-Routine r).parameters vs)
    → function_body (world_of a) (view_program r) vs scene ≡ failed code scene
function_not_fitted a r vs code scene h = function_is a r vs scene ∙ ap (λ (x : Ending (List Local)). then_do x (behind_locals a r)) (h.ends scene)

function_from : (a : Around) (r : Routine) (vs : List Value) (locals : List Local) (scene : Scene) → Anywhere (Ok locals) (locals_for (out-Routine r).parameters vs)
    → function_body (world_of a) (view_program r) vs scene ≡ then_do (step_in a (begins locals) (view (out-Routine r).body) scene) (behind_step (out-Routine r).returns)
function_from a r vs locals scene h = function_is a r vs scene ∙ ap (λ (x : Ending (List Local)). then_do x (behind_locals a r)) (h.ends scene)

pub function_fails : (a : Around) (r : Routine) (vs : List Value) (locals : List Local) (code : ℕ) (scene next : Scene) → Anywhere (Ok locals) (locals_for (out-Routine r).parameters vs)
    → step_in a (begins locals) (view (out-Routine r).body) scene ≡ failed code next → function_body (world_of a) (view_program r) vs scene ≡ failed code next
function_fails a r vs locals code scene next h e = function_from a r vs locals scene h ∙ ap (λ (x : Ending Ended). then_do x (behind_step (out-Routine r).returns)) e

pub function_silent : (a : Around) (r : Routine) (vs : List Value) (locals : List Local) (b : Body) (scene next : Scene) → Anywhere (Ok locals) (locals_for (out-Routine r).parameters vs)
    → step_in a (begins locals) (view (out-Routine r).body) scene ≡ done (ended_at b None) next → function_body (world_of a) (view_program r) vs scene ≡ failed 1321 next
function_silent a r vs locals b scene next h e = function_from a r vs locals scene h ∙ ap (λ (x : Ending Ended). then_do x (behind_step (out-Routine r).returns)) e

pub function_returns : (a : Around) (r : Routine) (vs : List Value) (locals : List Local) (b : Body) (v : Value) (result : Result Value SqlRefusal) (scene next : Scene) → Anywhere (Ok locals) (locals_for (out-Routine r).parameters vs)
    → step_in a (begins locals) (view (out-Routine r).body) scene ≡ done (ended_at b (Some v)) next → Anywhere result (fitted_result (out-Routine r).returns v)
    → EndsAs result next (function_body (world_of a) (view_program r) vs scene)
function_returns a r vs locals b v result scene next h e fit =
    ends_so result next _ _ (function_from a r vs locals scene h ∙ ap (λ (x : Ending Ended). then_do x (behind_step (out-Routine r).returns)) e) (fit.ends next)

pub ruleset functions = (function_not_fitted, function_fails, function_silent, function_returns)

-- ---- triggers

trigger_of_out : (t : TriggerDef) → view_trigger t ≡ trigger (out-TriggerDef t).name (out-TriggerDef t).time (out-TriggerDef t).event (out-TriggerDef t).table (view (out-TriggerDef t).body)
trigger_of_out t = fold_out-TriggerDef Statement (Tree × Statements) Program Trigger statement_step branch_step program_step trigger_step t

-- where a trigger begins
abbrev sees_rows : Option View → Option View → Body
sees_rows new old = record { locals = []; new_row = new; old_row = old }

trigger_is : (a : Around) (d : TableDef) (new old : Option (List Value)) (t : TriggerDef) (n m : Option View) (scene : Scene) → n ≡ seen_as d new → m ≡ seen_as d old
    → triggered_in a d new old (view_trigger t) scene ≡ then_do (step_in a (sees_rows n m) (view (out-TriggerDef t).body) scene) (λ ended. pure (row_left ended))
unfolding triggered_in step_in
trigger_is a d new old t n m scene given before =
    ap (λ (u : Trigger). then_do (step (world_of a) (sees_rows (seen_as d new) (seen_as d old)) (Rattle.sql_statements.specs.catalog_rules.Objects.trigger_body u) scene) (λ ended. pure (row_left ended))) (trigger_of_out t)
    ∙ (λ i. then_do (step (world_of a) (sees_rows ((sym given) i) ((sym before) i)) (view (out-TriggerDef t).body) scene) (λ ended. pure (row_left ended)))

pub trigger_fails : (a : Around) (d : TableDef) (new old : Option (List Value)) (t : TriggerDef) (n m : Option View) (code : ℕ) (scene next : Scene) → n ≡ seen_as d new → m ≡ seen_as d old
    → step_in a (sees_rows n m) (view (out-TriggerDef t).body) scene ≡ failed code next → triggered_in a d new old (view_trigger t) scene ≡ failed code next
trigger_fails a d new old t n m code scene next given before h =
    trigger_is a d new old t n m scene given before ∙ ap (λ (x : Ending Ended). then_do x (λ ended. pure (row_left ended))) h

pub trigger_leaves : (a : Around) (d : TableDef) (new old : Option (List Value)) (t : TriggerDef) (n m : Option View) (b : Body) (returned : Option Value) (row : Option (List Value)) (scene next : Scene) → n ≡ seen_as d new → m ≡ seen_as d old
    → step_in a (sees_rows n m) (view (out-TriggerDef t).body) scene ≡ done (ended_at b returned) next → left_of new row ≡ row_of_view b.new_row
    → triggered_in a d new old (view_trigger t) scene ≡ done (left_of new row) next
trigger_leaves a d new old t n m b returned row scene next given before h is =
    trigger_is a d new old t n m scene given before ∙ ap (λ (x : Ending Ended). then_do x (λ ended. pure (row_left ended))) h
    ∙ ap (λ (r : Option (List Value)). done r next) (sym is)

pub ruleset triggers = (trigger_fails, trigger_leaves)

-- ---- the row that is left

pub left_same : (given : List Value) (view : Shown) → given ≡ view.row → left_of (Some given) None ≡ row_of_view (view_in (Some view))
left_same given view same = ap (λ (r : List Value). Some r) same

pub ruleset leaving = (left_same)
