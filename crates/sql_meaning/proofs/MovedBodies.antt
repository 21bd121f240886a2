-- What holds of each change that is made holds of what bodies of functions and triggers do, and of statements without the checks round them.
use Rattle.std.proofs.Common.{ℕ, zero, suc, ◌==◌, List, [], map, length, zip, Bool, not, Option, Some, None, ℤ}
use Rattle.std.specs.List.{list_any}
use Rattle.val_types.specs.declared.value.Value.{Value}
use Rattle.val_types.specs.declared.value.Value.TheVariants.{Null}
use Rattle.val_types.specs.declared.definitions.TableDef.{TableDef}
use Rattle.sql_tree.specs.Tree.{Tree, Part, no_part, part}
use Rattle.sql_tree.specs.Statement.{Declared, Program, Trigger}
use Rattle.sql_tree.specs.Statement.{Statement, create_table, create_function, create_procedure, create_trigger, drop_table, drop_function, drop_procedure, drop_trigger, truncate, insert_into, replace_into, update_rows, delete_rows, select, evaluate, set_all, call_procedure, begin, commit, rollback, savepoint, rollback_to, release_savepoint, block, if_steps, while_steps, return_value}
use Rattle.sql_tree.specs.Statement.{Statements, no_statement, statement, Branches, no_branch, branch, Otherwise, no_else, else_steps}
use Rattle.sql_locals.specs.Locals.{find_local}
use Rattle.sql_locals.specs.declared.locals.Local.{Local}
use Rattle.sql_tree.specs.declared.statements.SqlType.{SqlType}
use Rattle.sql_tree.specs.declared.statements.Parameter.{Parameter}
use Rattle.sql_tree.specs.declared.statements.Target.{Target}
use Rattle.sql_tree.specs.declared.statements.Time.{Time}
use Rattle.sql_tree.specs.declared.statements.Cause.{Cause}
use Rattle.log_entries.specs.catalog_rules.Names.{is_among, place_among}
use Rattle.log_entries.specs.catalog_rules.Objects.{function_in, trigger_for, parameters_of, result_of, body_of, trigger_body, columns_of}
use Rattle.sql_locals.specs.Types.{column_type}
use Rattle.log_entries.specs.catalog_rules.Nodes.{Node, no_sight, nodes_of, nodes_of_tree}
use Rattle.log_entries.specs.catalog_rules.Checks.{statement_refusal, expression_refusal}
use Rattle.sql_meaning.specs.Scenes.{Scene, Action, ◌>>=◌, pure, fail, needed, require, each, carried_on, spend_turn}
use Rattle.sql_meaning.specs.Frames.{Setting, Running, Below, World, Frame}
use Rattle.sql_meaning.specs.Values.{value, values, holds, rows_of_query}
use Rattle.sql_meaning.specs.Changing.{fitted, put_at, replacing}
use Rattle.sql_meaning.specs.Running.{manner_of, perform, Body, Ended, unless_returned, frame_of, scope_of, is_ill_limit, also_running, let_through, checked, body_value, changes_running, body_checked, body_perform, assign_local, assign_new, assign_one, body_set, declare_name, preset_value, declare, turns, turns_left, step, steps, step_of_branches, steps_otherwise, local_for, fitted_result, function_body, in_function, start_function, call_function, seen_as, run_trigger, fire_trigger, level_of}
use Rattle.sql_meaning.proofs.Steps.{IsWork, IsMoved, bind_moved, pure_moved, fail_moved, needed_moved, require_moved, if_moved, each_moved, carried_moved, spend_moved}
use Rattle.sql_meaning.proofs.Moved.{value_moved, values_moved, query_moved, holds_moved}
use Rattle.sql_meaning.proofs.MovedChanges.{ProgramsMoved, fitted_moved, put_at_moved, insert_into_moved, update_table_moved, delete_from_moved}

-- so it is with the level below, if there is one
abbrev MovedIf : (Scene → Scene → Type 0) → Option Below → Type 0
MovedIf R None = Unit {0}
MovedIf R (Some below) = ProgramsMoved R below

module _ {R : Scene → Scene → Type 0} (law : IsWork R) where
  -- ---- statements without the checks round them

  pub perform_moved : (world : World) → ProgramsMoved R world.below → (frame : Frame) (forced : Option ℤ) (s : Statement) → IsMoved R (perform world frame forced s)
  perform_moved world below frame forced (insert_into ignore t names supply sets) = insert_into_moved law world below frame forced t names supply (manner_of ignore sets)
  perform_moved world below frame forced (replace_into t names supply) = insert_into_moved law world below frame forced t names supply replacing
  perform_moved world below frame forced (update_rows t sets condition os limit) = update_table_moved law world below frame t sets condition os limit
  perform_moved world below frame forced (delete_rows t condition os limit) = delete_from_moved law world below frame t condition os limit
  perform_moved world below frame forced (select q) = bind_moved law.move (rows_of_query world frame q) _ (query_moved law.move world below.calls frame q) (λ shown. pure_moved law.move _)
  perform_moved world below frame forced (evaluate ts) = bind_moved law.move (values world frame ts) _ (values_moved law.move world below.calls frame ts) (λ vs. pure_moved law.move _)
  perform_moved world below frame forced (create_table t) = pure_moved law.move _
  perform_moved world below frame forced (create_function p) = pure_moved law.move _
  perform_moved world below frame forced (create_procedure p) = pure_moved law.move _
  perform_moved world below frame forced (create_trigger t) = pure_moved law.move _
  perform_moved world below frame forced (drop_table n) = pure_moved law.move _
  perform_moved world below frame forced (drop_function n) = pure_moved law.move _
  perform_moved world below frame forced (drop_procedure n) = pure_moved law.move _
  perform_moved world below frame forced (drop_trigger n) = pure_moved law.move _
  perform_moved world below frame forced (truncate n) = pure_moved law.move _
  perform_moved world below frame forced (set_all as') = pure_moved law.move _
  perform_moved world below frame forced (call_procedure n ts) = pure_moved law.move _
  perform_moved world below frame forced begin = pure_moved law.move _
  perform_moved world below frame forced commit = pure_moved law.move _
  perform_moved world below frame forced rollback = pure_moved law.move _
  perform_moved world below frame forced (savepoint n) = pure_moved law.move _
  perform_moved world below frame forced (rollback_to n) = pure_moved law.move _
  perform_moved world below frame forced (release_savepoint n) = pure_moved law.move _
  perform_moved world below frame forced (block ds ss) = pure_moved law.move _
  perform_moved world below frame forced (if_steps bs o) = pure_moved law.move _
  perform_moved world below frame forced (while_steps c ss) = pure_moved law.move _
  perform_moved world below frame forced (return_value e) = pure_moved law.move _

  -- ---- steps of a body

  through_moved : (o : Option ℕ) → IsMoved R (let_through o)
  through_moved None = pure_moved law.move tt
  through_moved (Some code) = fail_moved law.move _ code

  checked_moved : (refusal : Option ℕ) (locals : List Local) (nodes : List Node) → IsMoved R (checked refusal locals nodes)
  checked_moved refusal locals nodes = bind_moved law.move (let_through refusal) _ (through_moved refusal) (λ _. require_moved law.move 30002 (not (list_any (is_ill_limit locals) nodes)))

  returned_moved : (ended : Ended) (next : Body → Action Ended) → ((body : Body) → IsMoved R (next body)) → (returned : Option Value)
      → IsMoved R (elim returned as (λ _. Action Ended) [ None ↦ next ended.body | Some v ↦ pure ended ])
  returned_moved ended next led None = led ended.body
  returned_moved ended next led (Some v) = pure_moved law.move ended

  unless_moved : (ended : Ended) (next : Body → Action Ended) → ((body : Body) → IsMoved R (next body)) → IsMoved R (unless_returned ended next)
  unless_moved ended next led = returned_moved ended next led ended.returned

  turns_moved : (n : ℕ) (test : Body → Action Bool) (do_steps : Body → Action Ended) → ((body : Body) → IsMoved R (test body)) → ((body : Body) → IsMoved R (do_steps body)) → (body : Body) → IsMoved R (turns n test do_steps body)
  turns_moved zero test do_steps tested stepped body =
      bind_moved law.move (test body) _ (tested body) (λ goes. if_moved law.move goes _ _ (fail_moved law.move Ended 30004) (pure_moved law.move _))
  turns_moved (suc n) test do_steps tested stepped body =
      bind_moved law.move (test body) _ (tested body) (λ goes. if_moved law.move goes _ _
      (bind_moved law.move spend_turn _ (spend_moved law.move) (λ _. bind_moved law.move (do_steps body) _ (stepped body) (λ ended. unless_moved ended _ (turns_moved n test do_steps tested stepped))))
      (pure_moved law.move _))

  turns_left_moved : (test : Body → Action Bool) (do_steps : Body → Action Ended) → ((body : Body) → IsMoved R (test body)) → ((body : Body) → IsMoved R (do_steps body)) → (body : Body) → IsMoved R (turns_left test do_steps body)
  turns_left_moved test do_steps tested stepped body = record { moves = λ scene. (turns_moved scene.turns test do_steps tested stepped body).moves scene }

  assign_local_moved : (body : Body) (n : List ℕ) (v : Value) → IsMoved R (assign_local body n v)
  assign_local_moved body n v =
      bind_moved law.move (needed 1193 (find_local body.locals n)) _ (needed_moved law.move 1193 (find_local body.locals n)) (λ l.
      bind_moved law.move (fitted l.kind v) _ (fitted_moved law l.kind v) (λ fit. pure_moved law.move _))

  assign_new_moved : (body : Body) (c : List ℕ) (v : Value) → IsMoved R (assign_new body c v)
  assign_new_moved body c v =
      bind_moved law.move (needed 1193 body.new_row) _ (needed_moved law.move 1193 body.new_row) (λ view.
      bind_moved law.move (needed 1054 (place_among (columns_of view.definition) c)) _ (needed_moved law.move 1054 (place_among (columns_of view.definition) c)) (λ place.
      bind_moved law.move (put_at view.definition view.row (place, v)) _ (put_at_moved law view.definition view.row (place, v)) (λ row. pure_moved law.move _)))

  assign_one_moved : (body : Body) (a : Target × Value) → IsMoved R (assign_one body a)
  assign_one_moved body (Target.Plain n, v) = assign_local_moved body n v
  assign_one_moved body (Target.New c, v) = assign_new_moved body c v
  assign_one_moved body (Target.User n, v) = fail_moved law.move Body 30005
  assign_one_moved body (Target.System n, v) = fail_moved law.move Body 30005

  declare_name_moved : (kind : SqlType) (v : Value) (body : Body) (n : List ℕ) → IsMoved R (declare_name kind v body n)
  declare_name_moved kind v body n = bind_moved law.move (fitted (column_type kind) v) _ (fitted_moved law (column_type kind) v) (λ fit. pure_moved law.move _)

  module _ (world : World) (below : ProgramsMoved R world.below) where
    body_value_moved : (body : Body) (e : Tree) → IsMoved R (body_value world body e)
    body_value_moved body e =
        bind_moved law.move (checked (expression_refusal world.setting.catalog (scope_of body) e) body.locals (nodes_of_tree e no_sight)) _ (checked_moved (expression_refusal world.setting.catalog (scope_of body) e) body.locals (nodes_of_tree e no_sight)) (λ _.
        value_moved law.move (also_running (nodes_of_tree e no_sight) world) below.calls (frame_of body) e)

    body_checked_moved : (body : Body) (s : Statement) → IsMoved R (body_checked world body s)
    body_checked_moved body s =
        bind_moved law.move (checked (statement_refusal world.setting.catalog (scope_of body) s) body.locals (nodes_of s)) _ (checked_moved (statement_refusal world.setting.catalog (scope_of body) s) body.locals (nodes_of s)) (λ _.
        require_moved law.move 1442 (not (changes_running world s)))

    body_perform_moved : (body : Body) (s : Statement) → IsMoved R (body_perform world body s)
    body_perform_moved body s =
        bind_moved law.move (body_checked world body s) _ (body_checked_moved body s) (λ _.
        bind_moved law.move (perform (also_running (nodes_of s) world) (frame_of body) None s) _ (perform_moved (also_running (nodes_of s) world) below (frame_of body) None s) (λ did. pure_moved law.move _))

    set_moved : (body : Body) (as' : List (Target × Tree)) → IsMoved R (body_set world body as')
    set_moved body as' =
        bind_moved law.move (body_checked world body (set_all as')) _ (body_checked_moved body (set_all as')) (λ _.
        bind_moved law.move (each (λ (a : Target × Tree). value (also_running (nodes_of (set_all as')) world) (frame_of body) a.1) as') _ (each_moved law.move _ (λ (a : Target × Tree). value_moved law.move (also_running (nodes_of (set_all as')) world) below.calls (frame_of body) a.1) as') (λ vs.
        bind_moved law.move (carried_on assign_one body (zip (map (λ (a : Target × Tree). a.0) as') vs)) _ (carried_moved law.move assign_one assign_one_moved body (zip (map (λ (a : Target × Tree). a.0) as') vs)) (λ after. pure_moved law.move _)))

    preset_moved : (body : Body) (p : Part) → IsMoved R (preset_value world body p)
    preset_moved body no_part = pure_moved law.move Null
    preset_moved body (part e) = body_value_moved body e

    declare_moved : (body : Body) (d : Declared) → IsMoved R (declare world body d)
    declare_moved body d = bind_moved law.move (preset_value world body d.preset) _ (preset_moved body d.preset) (λ v. carried_moved law.move (declare_name d.kind v) (declare_name_moved d.kind v) body d.names)

    condition_moved : (c : Tree) (body : Body) → IsMoved R (body_value world body c >>= holds)
    condition_moved c body = bind_moved law.move (body_value world body c) _ (body_value_moved body c) (holds_moved law.move)

    mutual
      pub step_moved : (body : Body) (s : Statement) → IsMoved R (step world body s)
      step_moved body (block ds ss) =
          bind_moved law.move (carried_on (declare world) body ds) _ (carried_moved law.move (declare world) declare_moved body ds) (λ inner.
          bind_moved law.move (steps world inner ss) _ (steps_moved inner ss) (λ ended. pure_moved law.move _))
      step_moved body (if_steps bs o) = branches_moved body bs (steps_otherwise world body o) (otherwise_moved body o)
      step_moved body (while_steps c ss) = turns_left_moved _ _ (condition_moved c) (λ now. steps_moved now ss) body
      step_moved body (return_value e) = bind_moved law.move (body_value world body e) _ (body_value_moved body e) (λ v. pure_moved law.move _)
      step_moved body (set_all as') = set_moved body as'
      step_moved body (insert_into ignore t names supply sets) = body_perform_moved body (insert_into ignore t names supply sets)
      step_moved body (replace_into t names supply) = body_perform_moved body (replace_into t names supply)
      step_moved body (update_rows t sets condition os limit) = body_perform_moved body (update_rows t sets condition os limit)
      step_moved body (delete_rows t condition os limit) = body_perform_moved body (delete_rows t condition os limit)
      step_moved body (select q) = body_perform_moved body (select q)
      step_moved body (evaluate ts) = body_perform_moved body (evaluate ts)
      step_moved body (create_table t) = body_perform_moved body (create_table t)
      step_moved body (create_function p) = body_perform_moved body (create_function p)
      step_moved body (create_procedure p) = body_perform_moved body (create_procedure p)
      step_moved body (create_trigger t) = body_perform_moved body (create_trigger t)
      step_moved body (drop_table n) = body_perform_moved body (drop_table n)
      step_moved body (drop_function n) = body_perform_moved body (drop_function n)
      step_moved body (drop_procedure n) = body_perform_moved body (drop_procedure n)
      step_moved body (drop_trigger n) = body_perform_moved body (drop_trigger n)
      step_moved body (truncate n) = body_perform_moved body (truncate n)
      step_moved body (call_procedure n ts) = body_perform_moved body (call_procedure n ts)
      step_moved body begin = body_perform_moved body begin
      step_moved body commit = body_perform_moved body commit
      step_moved body rollback = body_perform_moved body rollback
      step_moved body (savepoint n) = body_perform_moved body (savepoint n)
      step_moved body (rollback_to n) = body_perform_moved body (rollback_to n)
      step_moved body (release_savepoint n) = body_perform_moved body (release_savepoint n)

      steps_moved : (body : Body) (ss : Statements) → IsMoved R (steps world body ss)
      steps_moved body no_statement = pure_moved law.move _
      steps_moved body (statement s ss) = bind_moved law.move (step world body s) _ (step_moved body s) (λ ended. unless_moved ended _ (λ now. steps_moved now ss))

      branches_moved : (body : Body) (bs : Branches) (otherwise : Action Ended) → IsMoved R otherwise → IsMoved R (step_of_branches world body bs otherwise)
      branches_moved body no_branch otherwise led = led
      branches_moved body (branch c ss bs) otherwise led =
          bind_moved law.move (body_value world body c >>= holds) _ (condition_moved c body) (λ is_true. if_moved law.move is_true _ _ (steps_moved body ss) (branches_moved body bs otherwise led))

      otherwise_moved : (body : Body) (o : Otherwise) → IsMoved R (steps_otherwise world body o)
      otherwise_moved body no_else = pure_moved law.move _
      otherwise_moved body (else_steps ss) = steps_moved body ss

  -- ---- functions and triggers

  local_moved : (p : Parameter × Value) → IsMoved R (local_for p)
  local_moved p = bind_moved law.move (fitted (column_type p.0.kind) p.1) _ (fitted_moved law (column_type p.0.kind) p.1) (λ fit. pure_moved law.move _)

  result_moved : (kind : Option SqlType) (v : Value) → IsMoved R (fitted_result kind v)
  result_moved None v = pure_moved law.move v
  result_moved (Some kind) v = fitted_moved law (column_type kind) v

  function_moved : (world : World) → ProgramsMoved R world.below → (p : Program) (arguments : List Value) → IsMoved R (function_body world p arguments)
  function_moved world below p arguments =
      bind_moved law.move (each local_for (zip (parameters_of p) arguments)) _ (each_moved law.move local_for local_moved (zip (parameters_of p) arguments)) (λ locals.
      bind_moved law.move (step world (record { locals = locals; new_row = None; old_row = None }) (body_of p)) _ (step_moved world below (record { locals = locals; new_row = None; old_row = None }) (body_of p)) (λ ended.
      bind_moved law.move (needed 1321 ended.returned) _ (needed_moved law.move 1321 ended.returned) (result_moved (result_of p))))

  start_moved : (setting : Setting) (below : Option Below) → MovedIf R below → (running : Running) (name : List ℕ) (arguments : List Value) (p : Program) → IsMoved R (start_function setting below running name arguments p)
  start_moved setting None led running name arguments p =
      bind_moved law.move (require 1318 _) _ (require_moved law.move 1318 (length (parameters_of p) == length arguments)) (λ _.
      bind_moved law.move (require 1424 _) _ (require_moved law.move 1424 (not (is_among running.functions name))) (λ _. fail_moved law.move Value 30003))
  start_moved setting (Some below) led running name arguments p =
      bind_moved law.move (require 1318 _) _ (require_moved law.move 1318 (length (parameters_of p) == length arguments)) (λ _.
      bind_moved law.move (require 1424 _) _ (require_moved law.move 1424 (not (is_among running.functions name))) (λ _.
      function_moved (record { setting = setting; below = below; running = in_function name running }) led p arguments))

  call_moved : (setting : Setting) (below : Option Below) → MovedIf R below → (running : Running) (name : List ℕ) (arguments : List Value) → IsMoved R (call_function setting below running name arguments)
  call_moved setting below led running name arguments =
      bind_moved law.move (needed 1305 (function_in setting.catalog name)) _ (needed_moved law.move 1305 (function_in setting.catalog name)) (start_moved setting below led running name arguments)

  run_trigger_moved : (setting : Setting) (running : Running) (definition : TableDef) (new old : Option (List Value)) (t : Trigger) (below : Below) → ProgramsMoved R below → IsMoved R (run_trigger setting running definition new old t below)
  run_trigger_moved setting running definition new old t below led =
      bind_moved law.move (step (record { setting = setting; below = below; running = running }) (record { locals = []; new_row = seen_as definition new; old_row = seen_as definition old }) (trigger_body t)) _
      (step_moved (record { setting = setting; below = below; running = running }) led (record { locals = []; new_row = seen_as definition new; old_row = seen_as definition old }) (trigger_body t)) (λ ended. pure_moved law.move _)

  fired_moved : (setting : Setting) (below : Option Below) → MovedIf R below → (running : Running) (definition : TableDef) (new old : Option (List Value)) (o : Option Trigger)
      → IsMoved R (elim o as (λ _. Action (Option (List Value))) [
        | None ↦ pure new
        | Some t ↦ elim below as (λ _. Action (Option (List Value))) [ None ↦ fail 30003 | Some lower ↦ run_trigger setting running definition new old t lower ]
      ])
  fired_moved setting below led running definition new old None = pure_moved law.move new
  fired_moved setting None led running definition new old (Some t) = fail_moved law.move _ 30003
  fired_moved setting (Some lower) led running definition new old (Some t) = run_trigger_moved setting running definition new old t lower led

  fire_moved : (setting : Setting) (below : Option Below) → MovedIf R below → (running : Running) (time : Time) (event : Cause) (definition : TableDef) (new old : Option (List Value)) → IsMoved R (fire_trigger setting below running time event definition new old)
  fire_moved setting below led running time event definition new old =
      fired_moved setting below led running definition new old (trigger_for setting.catalog definition.name time event)

  pub level_moved : (setting : Setting) (n : ℕ) → ProgramsMoved R (level_of setting n)
  unfolding level_of
  level_moved setting zero = record { calls = record { calls = call_moved setting None tt }; fires = fire_moved setting None tt }
  level_moved setting (suc n) = record { calls = record { calls = call_moved setting (Some (level_of setting n)) (level_moved setting n) }; fires = fire_moved setting (Some (level_of setting n)) (level_moved setting n) }
