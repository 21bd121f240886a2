-- What the bodies of functions and triggers do, and what a statement comes to.
use Rattle.std.specs.Prelude.{ℕ, zero, suc, ◌==◌, Bool, true, false, not, if◌then◌else◌, List, [], ◌∷◌, ◌++◌, length, map, take, zip, filter_map, Option, Some, None, ℤ, is_some, unwrap_or}
use Rattle.std.specs.List.{list_any}
use Rattle.std.specs.Option.{option_map, option_map_or, option_and_then}
use Rattle.val_types.specs.declared.value.Value.{Value}
use Rattle.val_types.specs.declared.value.Value.TheVariants.{Null}
use Rattle.val_types.specs.declared.definitions.TableDef.{TableDef}
use Rattle.sql_tree.specs.Tree.{Tree, Trees, Part, no_part, part}
use Rattle.sql_tree.specs.Statement.{Declared, Program, Trigger}
use Rattle.sql_tree.specs.Statement.{Statement, insert_into, replace_into, update_rows, delete_rows, select, evaluate, set_all, block, if_steps, while_steps, return_value}
use Rattle.sql_tree.specs.Statement.{Statements, no_statement, statement, Branches, no_branch, branch, Otherwise, no_else, else_steps}
use Rattle.sql_locals.specs.Locals.{find_local, set_local}
use Rattle.sql_tree.specs.declared.expressions.Count.{Count}
use Rattle.sql_tree.specs.declared.expressions.Count.TheVariants as counts
use Rattle.sql_locals.specs.declared.locals.Local.{Local}
use Rattle.sql_tree.specs.declared.statements.SqlType.{SqlType}
use Rattle.sql_tree.specs.declared.statements.Parameter.{Parameter}
use Rattle.sql_tree.specs.declared.statements.Target.{Target}
use Rattle.sql_tree.specs.declared.statements.Time.{Time}
use Rattle.sql_tree.specs.declared.statements.Cause.{Cause}
use Rattle.log_entries.specs.catalog_rules.Names.{is_among, place_among}
use Rattle.log_entries.specs.catalog_rules.Objects.{function_in, trigger_for, parameters_of, result_of, body_of, trigger_body, columns_of}
use Rattle.sql_locals.specs.Types.{column_type}
use Rattle.log_entries.specs.catalog_rules.Nodes.{Node, a_limit, no_sight, nodes_of, nodes_of_tree, nodes_of_trees, table_at, table_changed}
use Rattle.log_entries.specs.catalog_rules.Checks.{Scope, statement_refusal, expression_refusal}
use Rattle.sql_meaning.specs.Scenes.{Action, ◌>>=◌, pure, fail, needed, require, each, carried_on, spend_turn, undone}
use Rattle.sql_meaning.specs.Frames.{Context, Setting, Running, Below, World, View, Frame, only_locals, number_or_none}
use Rattle.sql_meaning.specs.Values.{value, values, holds, rows_of_query}
use Rattle.sql_meaning.specs.Changing.{fitted, put_at, Manner, refusing, ignoring, replacing, updating, Did, affected_rows, insert_into_table, update_table, delete_from_table}

-- ---- statements without the checks round them

-- what INSERT does with a row whose key is there
abbrev pub manner_of : Bool → List (List ℕ × Tree) → Manner
manner_of ignore (s ∷ ss) = updating (s ∷ ss)
manner_of true [] = ignoring
manner_of false [] = refusing

abbrev pub rows_shown : List (List Value) → Did
rows_shown shown = record { affected = 0; shown = Some shown; first = None; last_id = None }

-- a change, a SELECT or a DO; other statements do nothing here
abbrev pub perform : World → Frame → Option ℤ → Statement → Action Did
perform world frame forced (insert_into ignore t names supply sets) = insert_into_table world frame forced t names supply (manner_of ignore sets)
perform world frame forced (replace_into t names supply) = insert_into_table world frame forced t names supply replacing
perform world frame forced (update_rows t sets condition os limit) = update_table world frame t sets condition os limit
perform world frame forced (delete_rows t condition os limit) = delete_from_table world frame t condition os limit
perform world frame forced (select q) = rows_of_query world frame q >>= λ shown. pure (rows_shown shown)
perform world frame forced (evaluate ts) = values world frame ts >>= λ _. pure (affected_rows 0)
perform world frame forced s = pure (affected_rows 0)

-- ---- bodies

-- Where a body stands: its locals, and in a trigger NEW and OLD.
pub record Body : Type 0 where
  pub locals : List Local
  pub new_row : Option View
  pub old_row : Option View

-- how a step of a body ends: where the body stands then, and the value of a RETURN
pub record Ended : Type 0 where
  pub body : Body
  pub returned : Option Value

abbrev pub goes_on : Body → Ended
goes_on body = record { body = body; returned = None }

-- on from where a step ended, unless it was a RETURN
abbrev pub unless_returned : Ended → (Body → Action Ended) → Action Ended
unless_returned ended next = elim (ended.returned) [ None ↦ next ended.body | Some v ↦ pure ended ]

-- what a body sees
abbrev pub frame_of : Body → Frame
frame_of body = record { locals = body.locals; views = []; new_row = body.new_row; old_row = body.old_row; inserted = None }

abbrev pub definition_in : Option View → Option TableDef
definition_in view = option_map (λ (v : View). v.definition) view

abbrev pub scope_of : Body → Scope
scope_of body = record {
  locals = map (λ (l : Local). l.name) body.locals;
  new_row = definition_in body.new_row;
  old_row = definition_in body.old_row;
}

-- whether a LIMIT is a local that is no number from 0
abbrev pub is_ill_count : List Local → Count → Bool
is_ill_count locals (counts.Number n) = false
is_ill_count locals (counts.Name n) = not (is_some (option_and_then (λ (l : Local). number_or_none l.value) (find_local locals n)))

abbrev pub is_ill_limit : List Local → Node → Bool
is_ill_limit locals (a_limit c) = is_ill_count locals c
is_ill_limit locals node = false

abbrev pub tables_named : List Node → List (List ℕ)
tables_named nodes = filter_map table_at nodes

-- what is running, with the tables of one more statement or expression
abbrev pub also_running : List Node → World → World
also_running nodes world = record world { running = record { tables = tables_named nodes ++ world.running.tables; functions = world.running.functions } }

-- the checks before a statement or an expression runs: the catalog's, then 30002 for a LIMIT
abbrev pub let_through : Option ℕ → Action (Unit {0})
let_through None = pure tt
let_through (Some code) = fail code

abbrev pub checked : Option ℕ → List Local → List Node → Action (Unit {0})
checked refusal locals nodes = let_through refusal >>= λ _. require 30002 (not (list_any (is_ill_limit locals) nodes))

-- the value of a condition, a DEFAULT or a RETURN
abbrev pub body_value : World → Body → Tree → Action Value
body_value world body e =
    let nodes = nodes_of_tree e no_sight in
    checked (expression_refusal world.setting.catalog (scope_of body) e) body.locals nodes >>= λ _.
    value (also_running nodes world) (frame_of body) e

-- 1442: a statement of a function or trigger changes a table that something running names
abbrev pub changes_running : World → Statement → Bool
changes_running world s = option_map_or (is_among world.running.tables) (table_changed s) false

abbrev pub body_checked : World → Body → Statement → Action (Unit {0})
body_checked world body s =
    checked (statement_refusal world.setting.catalog (scope_of body) s) body.locals (nodes_of s) >>= λ _.
    require 1442 (not (changes_running world s))

-- a change or DO in a body
abbrev pub body_perform : World → Body → Statement → Action Ended
body_perform world body s =
    body_checked world body s >>= λ _.
    perform (also_running (nodes_of s) world) (frame_of body) None s >>= λ _. pure (goes_on body)

-- ---- SET in a body

abbrev pub assign_local : Body → List ℕ → Value → Action Body
assign_local body n v =
    needed 1193 (find_local body.locals n) >>= λ l. fitted l.kind v >>= λ fit.
    pure (record body { locals = set_local n fit body.locals })

abbrev pub with_new_row : Body → View → List Value → Body
with_new_row body view row = record body { new_row = Some (record view { row = row }) }

abbrev pub assign_new : Body → List ℕ → Value → Action Body
assign_new body c v =
    needed 1193 body.new_row >>= λ view. needed 1054 (place_among (columns_of view.definition) c) >>= λ place.
    put_at view.definition view.row (place, v) >>= λ row. pure (with_new_row body view row)

-- an assignment of a value that was evaluated; a body writes only locals and NEW
abbrev pub assign_one : Body → Target × Value → Action Body
assign_one body (Target.Plain n, v) = assign_local body n v
assign_one body (Target.New c, v) = assign_new body c v
assign_one body (Target.User n, v) = fail 30005
assign_one body (Target.System n, v) = fail 30005

-- the values first, then the assignments
abbrev pub body_set : World → Body → List (Target × Tree) → Action Ended
body_set world body as' =
    body_checked world body (set_all as') >>= λ _.
    each (λ (a : Target × Tree). value (also_running (nodes_of (set_all as')) world) (frame_of body) a.1) as' >>= λ vs.
    carried_on assign_one body (zip (map (λ (a : Target × Tree). a.0) as') vs) >>= λ after. pure (goes_on after)

-- ---- DECLARE

abbrev pub declare_name : SqlType → Value → Body → List ℕ → Action Body
declare_name kind v body n =
    fitted (column_type kind) v >>= λ fit.
    pure (record body { locals = body.locals ++ record { name = n; kind = column_type kind; value = fit } ∷ [] })

-- the DEFAULT is evaluated once, also for several names
abbrev pub preset_value : World → Body → Part → Action Value
preset_value world body no_part = pure Null
preset_value world body (part e) = body_value world body e

abbrev pub declare : World → Body → Declared → Action Body
declare world body d = preset_value world body d.preset >>= λ v. carried_on (declare_name d.kind v) body d.names

-- locals declared in a block end with it
abbrev pub leaves_block : ℕ → Ended → Ended
leaves_block count ended = record { body = record (ended.body) { locals = take count ended.body.locals }; returned = ended.returned }

-- ---- steps

-- turns of a loop, of which there are at most so many; a turn is spent where the condition holds
abbrev pub turns : ℕ → (Body → Action Bool) → (Body → Action Ended) → Body → Action Ended
turns zero test steps body = test body >>= λ goes. (if goes then fail 30004 else pure (goes_on body))
turns (suc n) test steps body =
    test body >>= λ goes.
    (if goes then (spend_turn >>= λ _. steps body >>= λ ended. unless_returned ended (turns n test steps)) else pure (goes_on body))

-- as many turns as the scene has left
abbrev pub turns_left : (Body → Action Bool) → (Body → Action Ended) → Body → Action Ended
turns_left test steps body scene = turns scene.turns test steps body scene

abbrev mutual
  -- a step of a body
  pub step : World → Body → Statement → Action Ended
  step world body (block ds ss) =
      carried_on (declare world) body ds >>= λ inner. steps world inner ss >>= λ ended. pure (leaves_block (length body.locals) ended)
  step world body (if_steps bs o) = step_of_branches world body bs (steps_otherwise world body o)
  step world body (while_steps c ss) = turns_left (λ now. body_value world now c >>= holds) (λ now. steps world now ss) body
  step world body (return_value e) = body_value world body e >>= λ v. pure (record { body = body; returned = Some v })
  step world body (set_all as') = body_set world body as'
  step world body s = body_perform world body s

  pub steps : World → Body → Statements → Action Ended
  steps world body no_statement = pure (goes_on body)
  steps world body (statement s ss) = step world body s >>= λ ended. unless_returned ended (λ now. steps world now ss)

  -- the steps behind the first condition that holds, or else what stands behind
  pub step_of_branches : World → Body → Branches → Action Ended → Action Ended
  step_of_branches world body no_branch otherwise = otherwise
  step_of_branches world body (branch c ss bs) otherwise =
      body_value world body c >>= holds >>= λ is_true.
      (if is_true then steps world body ss else step_of_branches world body bs otherwise)

  pub steps_otherwise : World → Body → Otherwise → Action Ended
  steps_otherwise world body no_else = pure (goes_on body)
  steps_otherwise world body (else_steps ss) = steps world body ss

-- ---- functions and triggers

-- a parameter with the value of its argument, fitted to its type
abbrev pub local_for : Parameter × Value → Action Local
local_for p = fitted (column_type (p.0.kind)) p.1 >>= λ fit. pure (record { name = p.0.name; kind = column_type (p.0.kind); value = fit })

abbrev pub fitted_result : Option SqlType → Value → Action Value
fitted_result None v = pure v
fitted_result (Some kind) v = fitted (column_type kind) v

-- what a function's body gives: 1321 where it ends without RETURN
abbrev pub function_body : World → Program → List Value → Action Value
function_body world p arguments =
    each local_for (zip (parameters_of p) arguments) >>= λ locals.
    step world (record { locals = locals; new_row = None; old_row = None }) (body_of p) >>= λ ended.
    needed 1321 ended.returned >>= fitted_result (result_of p)

-- the level below, where there is one more: 30003
abbrev pub one_level_down : Option Below → (Below → Action Value) → Action Value
one_level_down None run = fail 30003
one_level_down (Some below) run = run below

-- what is running inside a function
abbrev pub in_function : List ℕ → Running → Running
in_function name running = record { tables = running.tables; functions = name ∷ running.functions }

-- a call: 1305 no such function, 1318 another number of arguments, 1424 it is running already, 30003 nested too deep
abbrev pub start_function : Setting → Option Below → Running → List ℕ → List Value → Program → Action Value
start_function setting below running name arguments p =
    require 1318 (length (parameters_of p) == length arguments) >>= λ _.
    require 1424 (not (is_among running.functions name)) >>= λ _.
    one_level_down below (λ lower. function_body (record { setting = setting; below = lower; running = in_function name running }) p arguments)

abbrev pub call_function : Setting → Option Below → Running → List ℕ → List Value → Action Value
call_function setting below running name arguments =
    needed 1305 (function_in setting.catalog name) >>= start_function setting below running name arguments

abbrev pub seen_as : TableDef → Option (List Value) → Option View
seen_as definition row = option_map (λ r. record { definition = definition; row = r }) row

-- the row that a trigger leaves to be stored
abbrev pub row_left : Ended → Option (List Value)
row_left ended = option_map (λ (view : View). view.row) ended.body.new_row

abbrev pub run_trigger : Setting → Running → TableDef → Option (List Value) → Option (List Value) → Trigger → Below → Action (Option (List Value))
run_trigger setting running definition new old t below =
    step (record { setting = setting; below = below; running = running })
    (record { locals = []; new_row = seen_as definition new; old_row = seen_as definition old }) (trigger_body t) >>= λ ended.
    pure (row_left ended)

-- an event of a row: nothing happens where the table has no trigger for it
abbrev pub fire_trigger : Setting → Option Below → Running → Time → Cause → TableDef → Option (List Value) → Option (List Value) → Action (Option (List Value))
fire_trigger setting below running time event definition new old =
    elim (trigger_for setting.catalog definition.name time event) [
      | None ↦ pure new
      | Some t ↦ elim below [ None ↦ fail 30003 | Some lower ↦ run_trigger setting running definition new old t lower ]
    ]

-- what bodies do where so many levels of nesting are left
unfoldable pub level_of : Setting → ℕ → Below
level_of setting zero = record { call = call_function setting None; fire = fire_trigger setting None }
level_of setting (suc n) = record { call = call_function setting (Some (level_of setting n)); fire = fire_trigger setting (Some (level_of setting n)) }

-- ---- what a session runs

-- how many programs may run one inside the other, and how many turns of WHILE a command has
abbrev pub most_nested : ℕ
most_nested = 16

abbrev pub most_turns : ℕ
most_turns = 1000000

abbrev pub world_of : Setting → ℕ → List Node → World
world_of setting nesting nodes = record {
  setting = setting;
  below = level_of setting nesting;
  running = record { tables = tables_named nodes; functions = [] };
}

-- whether a statement uses a forced INSERT_ID: INSERT or REPLACE
abbrev pub uses_forced : Statement → Bool
uses_forced (insert_into ignore t names supply sets) = true
uses_forced (replace_into t names supply) = true
uses_forced s = false

abbrev pub forced_for : Context → Statement → Option ℤ
forced_for context s = if uses_forced s then context.forced else None

-- a change, a SELECT or a DO that a session runs; an error takes its changes back, and nothing else
unfoldable pub effect : Setting → ℕ → List Local → Statement → Action Did
effect setting nesting locals s =
    undone (perform (world_of setting nesting (nodes_of s)) (only_locals locals) (forced_for setting.context s) s)

-- the values of expressions that a session evaluates, as the DO over them
unfoldable pub evaluation : Setting → ℕ → List Local → Trees → Action (List Value)
evaluation setting nesting locals ts =
    undone (values (world_of setting nesting (nodes_of_trees ts no_sight)) (only_locals locals) ts)

-- the context after a statement: the seeds as drawn, a forced INSERT_ID used up, LAST_INSERT_ID() of what it inserted
abbrev pub context_after : Context → Statement → (ℕ × ℕ) → Option ℤ → Context
context_after context s seeds last_id = record context {
  seeds = seeds;
  forced = if uses_forced s then None else context.forced;
  last_id = unwrap_or last_id context.last_id;
}
