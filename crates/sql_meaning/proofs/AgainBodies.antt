-- Bodies of functions and triggers are done again with more levels of nesting and more turns, and so are statements.
use Rattle.std.proofs.Common.{ℕ, zero, suc, ◌==◌, List, [], map, length, zip, Bool, not, Option, Some, None, ℤ, ◌≤◌, arith, ◌++◌, true, false}
use Rattle.std.specs.List.{list_any}
use Rattle.val_types.specs.declared.value.Value.{Value}
use Rattle.val_types.specs.declared.value.Value.TheVariants.{Null}
use Rattle.val_types.specs.declared.definitions.TableDef.{TableDef}
use Rattle.sql_tree.specs.Tree.{Tree, Part, no_part, part}
use Rattle.sql_tree.specs.Statement.{Declared, Program, Trigger}
use Rattle.sql_tree.specs.Statement.{Statement, create_table, create_function, create_procedure, create_trigger, drop_table, drop_function, drop_procedure, drop_trigger, truncate, insert_into, replace_into, update_rows, delete_rows, select, evaluate, set_all, call_procedure, begin, commit, rollback, savepoint, rollback_to, release_savepoint, block, if_steps, while_steps, return_value}
use Rattle.sql_tree.specs.Statement.{Statements, no_statement, statement, Branches, no_branch, branch, Otherwise, no_else, else_steps}
use Rattle.sql_locals.specs.Locals.{find_local}
use Rattle.sql_locals.specs.declared.locals.Local.{Local}
use Rattle.sql_tree.specs.declared.statements.SqlType.{SqlType}
use Rattle.sql_tree.specs.declared.statements.Parameter.{Parameter}
use Rattle.sql_tree.specs.declared.statements.Target.{Target}
use Rattle.sql_tree.specs.declared.statements.Time.{Time}
use Rattle.sql_tree.specs.declared.statements.Cause.{Cause}
use Rattle.log_entries.specs.catalog_rules.Names.{is_among, place_among}
use Rattle.log_entries.specs.catalog_rules.Objects.{function_in, trigger_for, parameters_of, result_of, body_of, trigger_body, columns_of}
use Rattle.sql_locals.specs.Types.{column_type}
use Rattle.log_entries.specs.catalog_rules.Nodes.{Node, no_sight, nodes_of, nodes_of_tree, nodes_of_trees}
use Rattle.log_entries.specs.catalog_rules.Checks.{statement_refusal, expression_refusal}
use Rattle.sql_meaning.specs.Scenes.{Action, ◌>>=◌, pure, fail, needed, require, each, carried_on, spend_turn, Scene}
use Rattle.sql_meaning.specs.Frames.{Setting, Running, Below, Frame, only_locals}
use Rattle.sql_meaning.specs.Values.{value, values, holds, rows_of_query}
use Rattle.sql_meaning.specs.Changing.{fitted, put_at, replacing}
use Rattle.sql_meaning.specs.Running.{manner_of, perform, Body, Ended, unless_returned, frame_of, scope_of, is_ill_limit, also_running, let_through, checked, body_value, changes_running, body_checked, body_perform, assign_local, assign_new, assign_one, body_set, declare_name, preset_value, declare, turns, turns_left, step, steps, step_of_branches, steps_otherwise, local_for, fitted_result, function_body, in_function, start_function, call_function, seen_as, run_trigger, fire_trigger, level_of, world_of, forced_for, effect, evaluation, tables_named}
use Rattle.sql_meaning.specs.Fuel.{HasMore, StatementsKeep, EvaluationsKeep}
use Rattle.sql_meaning.proofs.Again.{Again, bind_again, pure_again, fail_again, needed_again, require_again, if_again, each_again, carried_again, spend_again, undone_again}
use Rattle.sql_meaning.proofs.AgainValues.{AgainBelow, around, value_again, values_again, query_again, holds_again}
use Rattle.sql_meaning.proofs.AgainChanges.{fitted_again, put_at_again, insert_into_again, update_table_again, delete_from_again}

module _ (extra : ℕ) where
  at_least : (a b : Scene) → HasMore extra a b → a.turns ≤ b.turns
  at_least a b h = let e = h.turns in omega (arith, e)

  -- ---- statements without the checks round them

  module _ (setting : Setting) (running : Running) (below below' : Below) (h : AgainBelow extra below below') where
    perform_again : (frame : Frame) (forced : Option ℤ) (s : Statement) → Again extra (perform (around setting below running) frame forced s) (perform (around setting below' running) frame forced s)
    perform_again frame forced (insert_into ignore t names supply sets) = insert_into_again extra setting running below below' h frame forced t names supply (manner_of ignore sets)
    perform_again frame forced (replace_into t names supply) = insert_into_again extra setting running below below' h frame forced t names supply replacing
    perform_again frame forced (update_rows t sets condition os limit) = update_table_again extra setting running below below' h frame t sets condition os limit
    perform_again frame forced (delete_rows t condition os limit) = delete_from_again extra setting running below below' h frame t condition os limit
    perform_again frame forced (select q) = bind_again extra (rows_of_query (around setting below running) frame q) (rows_of_query (around setting below' running) frame q) _ _ (query_again extra setting running below below' h frame q) (λ shown. pure_again extra _)
    perform_again frame forced (evaluate ts) = bind_again extra (values (around setting below running) frame ts) (values (around setting below' running) frame ts) _ _ (values_again extra setting running below below' h frame ts) (λ vs. pure_again extra _)
    perform_again frame forced (create_table t) = pure_again extra _
    perform_again frame forced (create_function p) = pure_again extra _
    perform_again frame forced (create_procedure p) = pure_again extra _
    perform_again frame forced (create_trigger t) = pure_again extra _
    perform_again frame forced (drop_table n) = pure_again extra _
    perform_again frame forced (drop_function n) = pure_again extra _
    perform_again frame forced (drop_procedure n) = pure_again extra _
    perform_again frame forced (drop_trigger n) = pure_again extra _
    perform_again frame forced (truncate n) = pure_again extra _
    perform_again frame forced (set_all as') = pure_again extra _
    perform_again frame forced (call_procedure n ts) = pure_again extra _
    perform_again frame forced begin = pure_again extra _
    perform_again frame forced commit = pure_again extra _
    perform_again frame forced rollback = pure_again extra _
    perform_again frame forced (savepoint n) = pure_again extra _
    perform_again frame forced (rollback_to n) = pure_again extra _
    perform_again frame forced (release_savepoint n) = pure_again extra _
    perform_again frame forced (block ds ss) = pure_again extra _
    perform_again frame forced (if_steps bs o) = pure_again extra _
    perform_again frame forced (while_steps c ss) = pure_again extra _
    perform_again frame forced (return_value e) = pure_again extra _

  -- ---- steps of a body

  through_again : (o : Option ℕ) → Again extra (let_through o) (let_through o)
  through_again None = pure_again extra tt
  through_again (Some code) = fail_again extra _ code (fail code)

  checked_again : (refusal : Option ℕ) (locals : List Local) (nodes : List Node) → Again extra (checked refusal locals nodes) (checked refusal locals nodes)
  checked_again refusal locals nodes = bind_again extra (let_through refusal) (let_through refusal) _ _ (through_again refusal) (λ _. require_again extra 30002 (not (list_any (is_ill_limit locals) nodes)))

  returned_again : (ended : Ended) (next next' : Body → Action Ended) → ((body : Body) → Again extra (next body) (next' body)) → (returned : Option Value)
      → Again extra (elim returned as (λ _. Action Ended) [ None ↦ next ended.body | Some v ↦ pure ended ]) (elim returned as (λ _. Action Ended) [ None ↦ next' ended.body | Some v ↦ pure ended ])
  returned_again ended next next' again None = again ended.body
  returned_again ended next next' again (Some v) = pure_again extra ended

  unless_again : (ended : Ended) (next next' : Body → Action Ended) → ((body : Body) → Again extra (next body) (next' body)) → Again extra (unless_returned ended next) (unless_returned ended next')
  unless_again ended next next' again = returned_again ended next next' again ended.returned

  -- turns that are there, of more that are there
  turns_again : (n m : ℕ) → n ≤ m → (test test' : Body → Action Bool) (do_steps do_steps' : Body → Action Ended) → ((body : Body) → Again extra (test body) (test' body)) → ((body : Body) → Again extra (do_steps body) (do_steps' body)) → (body : Body) → Again extra (turns n test do_steps body) (turns m test' do_steps' body)
  turns_again zero zero l test test' do_steps do_steps' tested stepped body =
      bind_again extra (test body) (test' body) _ _ (tested body) (λ goes. if_again extra goes _ _ _ _ (fail_again extra Ended 30004 (fail 30004)) (pure_again extra _))
  turns_again zero (suc m) l test test' do_steps do_steps' tested stepped body =
      bind_again extra (test body) (test' body) _ _ (tested body) (λ goes. if_again extra goes (fail 30004) _ _ _ (fail_again extra Ended 30004 _) (pure_again extra _))
  turns_again (suc n) zero l test test' do_steps do_steps' tested stepped body = absurd (omega (arith, l))
  turns_again (suc n) (suc m) l test test' do_steps do_steps' tested stepped body =
      bind_again extra (test body) (test' body) _ _ (tested body) (λ goes. if_again extra goes _ _ _ _
      (bind_again extra spend_turn spend_turn _ _ (spend_again extra) (λ _. bind_again extra (do_steps body) (do_steps' body) _ _ (stepped body) (λ ended. unless_again ended _ _ (turns_again n m (omega (arith, l)) test test' do_steps do_steps' tested stepped))))
      (pure_again extra _))

  turns_left_again : (test test' : Body → Action Bool) (do_steps do_steps' : Body → Action Ended) → ((body : Body) → Again extra (test body) (test' body)) → ((body : Body) → Again extra (do_steps body) (do_steps' body)) → (body : Body) → Again extra (turns_left test do_steps body) (turns_left test' do_steps' body)
  turns_left_again test test' do_steps do_steps' tested stepped body = record {
    again = λ a b h. (turns_again a.turns b.turns (at_least a b h) test test' do_steps do_steps' tested stepped body).again a b h;
  }

  assign_local_again : (body : Body) (n : List ℕ) (v : Value) → Again extra (assign_local body n v) (assign_local body n v)
  assign_local_again body n v =
      bind_again extra (needed 1193 (find_local body.locals n)) (needed 1193 (find_local body.locals n)) _ _ (needed_again extra 1193 (find_local body.locals n)) (λ l.
      bind_again extra (fitted l.kind v) (fitted l.kind v) _ _ (fitted_again extra l.kind v) (λ fit. pure_again extra _))

  assign_new_again : (body : Body) (c : List ℕ) (v : Value) → Again extra (assign_new body c v) (assign_new body c v)
  assign_new_again body c v =
      bind_again extra (needed 1193 body.new_row) (needed 1193 body.new_row) _ _ (needed_again extra 1193 body.new_row) (λ view.
      bind_again extra (needed 1054 (place_among (columns_of view.definition) c)) (needed 1054 (place_among (columns_of view.definition) c)) _ _ (needed_again extra 1054 (place_among (columns_of view.definition) c)) (λ place.
      bind_again extra (put_at view.definition view.row (place, v)) (put_at view.definition view.row (place, v)) _ _ (put_at_again extra view.definition view.row (place, v)) (λ row. pure_again extra _)))

  assign_one_again : (body : Body) (a : Target × Value) → Again extra (assign_one body a) (assign_one body a)
  assign_one_again body (Target.Plain n, v) = assign_local_again body n v
  assign_one_again body (Target.New c, v) = assign_new_again body c v
  assign_one_again body (Target.User n, v) = fail_again extra Body 30005 (fail 30005)
  assign_one_again body (Target.System n, v) = fail_again extra Body 30005 (fail 30005)

  declare_name_again : (kind : SqlType) (v : Value) (body : Body) (n : List ℕ) → Again extra (declare_name kind v body n) (declare_name kind v body n)
  declare_name_again kind v body n = bind_again extra (fitted (column_type kind) v) (fitted (column_type kind) v) _ _ (fitted_again extra (column_type kind) v) (λ fit. pure_again extra _)

  abbrev more_running : List Node → Running → Running
  more_running nodes running = record { tables = tables_named nodes ++ running.tables; functions = running.functions }

  module _ (setting : Setting) (running : Running) (below below' : Below) (h : AgainBelow extra below below') where
    body_value_again : (body : Body) (e : Tree) → Again extra (body_value (around setting below running) body e) (body_value (around setting below' running) body e)
    body_value_again body e =
        bind_again extra (checked (expression_refusal setting.catalog (scope_of body) e) body.locals (nodes_of_tree e no_sight)) (checked (expression_refusal setting.catalog (scope_of body) e) body.locals (nodes_of_tree e no_sight)) _ _ (checked_again (expression_refusal setting.catalog (scope_of body) e) body.locals (nodes_of_tree e no_sight)) (λ _.
        value_again extra setting (more_running (nodes_of_tree e no_sight) running) below below' h (frame_of body) e)

    body_checked_again : (body : Body) (s : Statement) → Again extra (body_checked (around setting below running) body s) (body_checked (around setting below' running) body s)
    body_checked_again body s =
        bind_again extra (checked (statement_refusal setting.catalog (scope_of body) s) body.locals (nodes_of s)) (checked (statement_refusal setting.catalog (scope_of body) s) body.locals (nodes_of s)) _ _ (checked_again (statement_refusal setting.catalog (scope_of body) s) body.locals (nodes_of s)) (λ _.
        require_again extra 1442 (not (changes_running (around setting below running) s)))

    body_perform_again : (body : Body) (s : Statement) → Again extra (body_perform (around setting below running) body s) (body_perform (around setting below' running) body s)
    body_perform_again body s =
        bind_again extra (body_checked (around setting below running) body s) (body_checked (around setting below' running) body s) _ _ (body_checked_again body s) (λ _.
        bind_again extra (perform (also_running (nodes_of s) (around setting below running)) (frame_of body) None s) (perform (also_running (nodes_of s) (around setting below' running)) (frame_of body) None s) _ _ (perform_again setting (more_running (nodes_of s) running) below below' h (frame_of body) None s) (λ did. pure_again extra _))

    set_again : (body : Body) (as' : List (Target × Tree)) → Again extra (body_set (around setting below running) body as') (body_set (around setting below' running) body as')
    set_again body as' =
        bind_again extra (body_checked (around setting below running) body (set_all as')) (body_checked (around setting below' running) body (set_all as')) _ _ (body_checked_again body (set_all as')) (λ _.
        bind_again extra (each (λ (a : Target × Tree). value (also_running (nodes_of (set_all as')) (around setting below running)) (frame_of body) a.1) as') (each (λ (a : Target × Tree). value (also_running (nodes_of (set_all as')) (around setting below' running)) (frame_of body) a.1) as') _ _ (each_again extra _ _ (λ (a : Target × Tree). value_again extra setting (more_running (nodes_of (set_all as')) running) below below' h (frame_of body) a.1) as') (λ vs.
        bind_again extra (carried_on assign_one body (zip (map (λ (a : Target × Tree). a.0) as') vs)) (carried_on assign_one body (zip (map (λ (a : Target × Tree). a.0) as') vs)) _ _ (carried_again extra assign_one assign_one assign_one_again body (zip (map (λ (a : Target × Tree). a.0) as') vs)) (λ after. pure_again extra _)))

    preset_again : (body : Body) (p : Part) → Again extra (preset_value (around setting below running) body p) (preset_value (around setting below' running) body p)
    preset_again body no_part = pure_again extra Null
    preset_again body (part e) = body_value_again body e

    declare_again : (body : Body) (d : Declared) → Again extra (declare (around setting below running) body d) (declare (around setting below' running) body d)
    declare_again body d = bind_again extra (preset_value (around setting below running) body d.preset) (preset_value (around setting below' running) body d.preset) _ _ (preset_again body d.preset) (λ v. carried_again extra (declare_name d.kind v) (declare_name d.kind v) (declare_name_again d.kind v) body d.names)

    condition_again : (c : Tree) (body : Body) → Again extra (body_value (around setting below running) body c >>= holds) (body_value (around setting below' running) body c >>= holds)
    condition_again c body = bind_again extra (body_value (around setting below running) body c) (body_value (around setting below' running) body c) _ _ (body_value_again body c) (holds_again extra)

    mutual
      step_again : (body : Body) (s : Statement) → Again extra (step (around setting below running) body s) (step (around setting below' running) body s)
      step_again body (block ds ss) =
          bind_again extra (carried_on (declare (around setting below running)) body ds) (carried_on (declare (around setting below' running)) body ds) _ _ (carried_again extra (declare (around setting below running)) (declare (around setting below' running)) declare_again body ds) (λ inner.
          bind_again extra (steps (around setting below running) inner ss) (steps (around setting below' running) inner ss) _ _ (steps_again inner ss) (λ ended. pure_again extra _))
      step_again body (if_steps bs o) = branches_again body bs (steps_otherwise (around setting below running) body o) (steps_otherwise (around setting below' running) body o) (otherwise_again body o)
      step_again body (while_steps c ss) = turns_left_again _ _ _ _ (condition_again c) (λ now. steps_again now ss) body
      step_again body (return_value e) = bind_again extra (body_value (around setting below running) body e) (body_value (around setting below' running) body e) _ _ (body_value_again body e) (λ v. pure_again extra _)
      step_again body (set_all as') = set_again body as'
      step_again body (insert_into ignore t names supply sets) = body_perform_again body (insert_into ignore t names supply sets)
      step_again body (replace_into t names supply) = body_perform_again body (replace_into t names supply)
      step_again body (update_rows t sets condition os limit) = body_perform_again body (update_rows t sets condition os limit)
      step_again body (delete_rows t condition os limit) = body_perform_again body (delete_rows t condition os limit)
      step_again body (select q) = body_perform_again body (select q)
      step_again body (evaluate ts) = body_perform_again body (evaluate ts)
      step_again body (create_table t) = body_perform_again body (create_table t)
      step_again body (create_function p) = body_perform_again body (create_function p)
      step_again body (create_procedure p) = body_perform_again body (create_procedure p)
      step_again body (create_trigger t) = body_perform_again body (create_trigger t)
      step_again body (drop_table n) = body_perform_again body (drop_table n)
      step_again body (drop_function n) = body_perform_again body (drop_function n)
      step_again body (drop_procedure n) = body_perform_again body (drop_procedure n)
      step_again body (drop_trigger n) = body_perform_again body (drop_trigger n)
      step_again body (truncate n) = body_perform_again body (truncate n)
      step_again body (call_procedure n ts) = body_perform_again body (call_procedure n ts)
      step_again body begin = body_perform_again body begin
      step_again body commit = body_perform_again body commit
      step_again body rollback = body_perform_again body rollback
      step_again body (savepoint n) = body_perform_again body (savepoint n)
      step_again body (rollback_to n) = body_perform_again body (rollback_to n)
      step_again body (release_savepoint n) = body_perform_again body (release_savepoint n)

      steps_again : (body : Body) (ss : Statements) → Again extra (steps (around setting below running) body ss) (steps (around setting below' running) body ss)
      steps_again body no_statement = pure_again extra _
      steps_again body (statement s ss) = bind_again extra (step (around setting below running) body s) (step (around setting below' running) body s) _ _ (step_again body s) (λ ended. unless_again ended _ _ (λ now. steps_again now ss))

      branches_again : (body : Body) (bs : Branches) (otherwise otherwise' : Action Ended) → Again extra otherwise otherwise' → Again extra (step_of_branches (around setting below running) body bs otherwise) (step_of_branches (around setting below' running) body bs otherwise')
      branches_again body no_branch otherwise otherwise' led = led
      branches_again body (branch c ss bs) otherwise otherwise' led =
          bind_again extra (body_value (around setting below running) body c >>= holds) (body_value (around setting below' running) body c >>= holds) _ _ (condition_again c body) (λ is_true. if_again extra is_true _ _ _ _ (steps_again body ss) (branches_again body bs otherwise otherwise' led))

      otherwise_again : (body : Body) (o : Otherwise) → Again extra (steps_otherwise (around setting below running) body o) (steps_otherwise (around setting below' running) body o)
      otherwise_again body no_else = pure_again extra _
      otherwise_again body (else_steps ss) = steps_again body ss

  -- ---- functions and triggers

  local_again : (p : Parameter × Value) → Again extra (local_for p) (local_for p)
  local_again p = bind_again extra (fitted (column_type p.0.kind) p.1) (fitted (column_type p.0.kind) p.1) _ _ (fitted_again extra (column_type p.0.kind) p.1) (λ fit. pure_again extra _)

  result_again : (kind : Option SqlType) (v : Value) → Again extra (fitted_result kind v) (fitted_result kind v)
  result_again None v = pure_again extra v
  result_again (Some kind) v = fitted_again extra (column_type kind) v

  function_again : (setting : Setting) (running : Running) (below below' : Below) (h : AgainBelow extra below below') (p : Program) (arguments : List Value)
      → Again extra (function_body (around setting below running) p arguments) (function_body (around setting below' running) p arguments)
  function_again setting running below below' h p arguments =
      bind_again extra (each local_for (zip (parameters_of p) arguments)) (each local_for (zip (parameters_of p) arguments)) _ _ (each_again extra local_for local_for local_again (zip (parameters_of p) arguments)) (λ locals.
      bind_again extra (step (around setting below running) (record { locals = locals; new_row = None; old_row = None }) (body_of p)) (step (around setting below' running) (record { locals = locals; new_row = None; old_row = None }) (body_of p)) _ _
      (step_again setting running below below' h (record { locals = locals; new_row = None; old_row = None }) (body_of p)) (λ ended.
      bind_again extra (needed 1321 ended.returned) (needed 1321 ended.returned) _ _ (needed_again extra 1321 ended.returned) (result_again (result_of p))))

  -- what a level below does is done again by the other one; where there is none, nothing is asked
  AgainIf : Option Below → Option Below → Type 0
  AgainIf None other = Unit {0}
  AgainIf (Some below) None = ⊥
  AgainIf (Some below) (Some below') = AgainBelow extra below below'

  no_level : (setting : Setting) (running : Running) (name : List ℕ) (arguments : List Value) (p : Program) (other : Action Value)
      → Again extra (start_function setting None running name arguments p) other
  no_level setting running name arguments p other = never (length (parameters_of p) == length arguments) (not (is_among running.functions name)) other
    where
      never : (a b : Bool) (other : Action Value) → Again extra (require 1318 a >>= λ _. require 1424 b >>= λ _. fail 30003) other
      never true true other = fail_again extra Value 30003 other
      never true false other = fail_again extra Value 1424 other
      never false b other = fail_again extra Value 1318 other

  start_again : (setting : Setting) (below below' : Option Below) → AgainIf below below' → (running : Running) (name : List ℕ) (arguments : List Value) (p : Program)
      → Again extra (start_function setting below running name arguments p) (start_function setting below' running name arguments p)
  unfolding AgainIf
  start_again setting None other h running name arguments p = no_level setting running name arguments p (start_function setting other running name arguments p)
  start_again setting (Some below) None h running name arguments p = absurd h
  start_again setting (Some below) (Some below') h running name arguments p =
      bind_again extra (require 1318 (length (parameters_of p) == length arguments)) (require 1318 (length (parameters_of p) == length arguments)) _ _ (require_again extra 1318 (length (parameters_of p) == length arguments)) (λ _.
      bind_again extra (require 1424 (not (is_among running.functions name))) (require 1424 (not (is_among running.functions name))) _ _ (require_again extra 1424 (not (is_among running.functions name))) (λ _.
      function_again setting (in_function name running) below below' h p arguments))

  call_again : (setting : Setting) (below below' : Option Below) → AgainIf below below' → (running : Running) (name : List ℕ) (arguments : List Value)
      → Again extra (call_function setting below running name arguments) (call_function setting below' running name arguments)
  call_again setting below below' h running name arguments =
      bind_again extra (needed 1305 (function_in setting.catalog name)) (needed 1305 (function_in setting.catalog name)) _ _ (needed_again extra 1305 (function_in setting.catalog name)) (start_again setting below below' h running name arguments)

  run_trigger_again : (setting : Setting) (running : Running) (definition : TableDef) (new old : Option (List Value)) (t : Trigger) (below below' : Below) → AgainBelow extra below below'
      → Again extra (run_trigger setting running definition new old t below) (run_trigger setting running definition new old t below')
  run_trigger_again setting running definition new old t below below' h =
      bind_again extra (step (around setting below running) (record { locals = []; new_row = seen_as definition new; old_row = seen_as definition old }) (trigger_body t)) (step (around setting below' running) (record { locals = []; new_row = seen_as definition new; old_row = seen_as definition old }) (trigger_body t)) _ _
      (step_again setting running below below' h (record { locals = []; new_row = seen_as definition new; old_row = seen_as definition old }) (trigger_body t)) (λ ended. pure_again extra _)

  fired_again : (setting : Setting) (below below' : Option Below) → AgainIf below below' → (running : Running) (definition : TableDef) (new old : Option (List Value)) (o : Option Trigger)
      → Again extra
      (elim o as (λ _. Action (Option (List Value))) [
        | None ↦ pure new
        | Some t ↦ elim below as (λ _. Action (Option (List Value))) [ None ↦ fail 30003 | Some lower ↦ run_trigger setting running definition new old t lower ]
      ])
      (elim o as (λ _. Action (Option (List Value))) [
        | None ↦ pure new
        | Some t ↦ elim below' as (λ _. Action (Option (List Value))) [ None ↦ fail 30003 | Some lower ↦ run_trigger setting running definition new old t lower ]
      ])
  unfolding AgainIf
  fired_again setting below below' h running definition new old None = pure_again extra new
  fired_again setting None other h running definition new old (Some t) = fail_again extra (Option (List Value)) 30003 _
  fired_again setting (Some lower) None h running definition new old (Some t) = absurd h
  fired_again setting (Some lower) (Some lower') h running definition new old (Some t) = run_trigger_again setting running definition new old t lower lower' h

  fire_again : (setting : Setting) (below below' : Option Below) → AgainIf below below' → (running : Running) (time : Time) (event : Cause) (definition : TableDef) (new old : Option (List Value))
      → Again extra (fire_trigger setting below running time event definition new old) (fire_trigger setting below' running time event definition new old)
  fire_again setting below below' h running time event definition new old =
      fired_again setting below below' h running definition new old (trigger_for setting.catalog definition.name time event)

  level_again : (setting : Setting) (n m : ℕ) → n ≤ m → AgainBelow extra (level_of setting n) (level_of setting m)
  unfolding level_of AgainIf
  level_again setting zero zero l = record { calls = call_again setting None None tt; fires = fire_again setting None None tt }
  level_again setting zero (suc m) l = record { calls = call_again setting None (Some (level_of setting m)) tt; fires = fire_again setting None (Some (level_of setting m)) tt }
  level_again setting (suc n) zero l = absurd (omega (arith, l))
  level_again setting (suc n) (suc m) l =
      let lower = level_again setting n m (omega (arith, l)) in
      record { calls = call_again setting (Some (level_of setting n)) (Some (level_of setting m)) lower; fires = fire_again setting (Some (level_of setting n)) (Some (level_of setting m)) lower }

-- ---- what a session runs

abbrev session_running : List Node → Running
session_running nodes = record { tables = tables_named nodes; functions = [] }

pub statements_keep : StatementsKeep
unfolding effect
statements_keep setting nesting more extra locals s a b l h =
    (undone_again extra (perform (world_of setting nesting (nodes_of s)) (only_locals locals) (forced_for setting.context s) s) (perform (world_of setting more (nodes_of s)) (only_locals locals) (forced_for setting.context s) s)
    (perform_again extra setting (session_running (nodes_of s)) (level_of setting nesting) (level_of setting more) (level_again extra setting nesting more l) (only_locals locals) (forced_for setting.context s) s)).again a b h

pub evaluations_keep : EvaluationsKeep
unfolding evaluation
evaluations_keep setting nesting more extra locals ts a b l h =
    (undone_again extra (values (world_of setting nesting (nodes_of_trees ts no_sight)) (only_locals locals) ts) (values (world_of setting more (nodes_of_trees ts no_sight)) (only_locals locals) ts)
    (values_again extra setting (session_running (nodes_of_trees ts no_sight)) (level_of setting nesting) (level_of setting more) (level_again extra setting nesting more l) (only_locals locals) ts)).again a b h
