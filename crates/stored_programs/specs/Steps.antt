-- The parts of a body that the code takes one by one.
use Rattle.std.specs.Prelude.{Bool, if◌then◌else◌, List, [], map, zip, Option, Some, None, true, false}
use Rattle.val_types.specs.declared.value.Value.{Value}
use Rattle.val_types.specs.declared.definitions.TableDef.{TableDef}
use Rattle.sql_tree.specs.Tree.{Tree, Part}
use Rattle.sql_tree.specs.Statement.{Declared, Statement, Statements, Branches, no_branch, branch, Otherwise, Trigger, block, if_steps, while_steps, return_value, set_all}
use Rattle.sql_tree.specs.declared.statements.Parameter.{Parameter}
use Rattle.sql_tree.specs.declared.statements.Target.{Target}
use Rattle.sql_locals.specs.declared.locals.Local.{Local}
use Rattle.sql_statements.specs.catalog_rules.Nodes.{nodes_of}
use Rattle.sql_statements.specs.catalog_rules.Objects.{trigger_body}
use Rattle.sql_statements.specs.sql_meaning.Scenes.{Action, ◌>>=◌, pure, each, carried_on}
use Rattle.std.specs.Option.{option_map}
use Rattle.sql_statements.specs.sql_meaning.Frames.{View, World}
use Rattle.sql_statements.specs.sql_meaning.Values.{value, holds}
use Rattle.sql_statements.specs.sql_meaning.Running.{Body, Ended, also_running, frame_of, assign_one, body_checked, body_value, declare, local_for, preset_value, row_left, seen_as, step, steps, step_of_branches, steps_otherwise}
use Rattle.sql_evaluation.specs.declared.world.Around.{Around}
use Rattle.sql_evaluation.specs.Seen.{world_of}

-- ---- expressions

unfoldable pub value_in_body : Around → Body → Tree → Action Value
value_in_body a body t = body_value (world_of a) body t

unfoldable pub holds_in_body : Around → Body → Tree → Action Bool
holds_in_body a body t = body_value (world_of a) body t >>= holds

unfoldable pub preset_in_body : Around → Body → Part → Action Value
preset_in_body a body p = preset_value (world_of a) body p

-- ---- SET

-- the values of some assignments, in what is round them
abbrev pub assigned_values : World → Body → List (Target × Tree) → Action (List Value)
assigned_values world body as' = each (λ (a : Target × Tree). value world (frame_of body) a.1) as'

-- the assignments of some values
abbrev pub all_assigned : Body → List (Target × Tree) → List Value → Action Body
all_assigned body as' vs = carried_on assign_one body (zip (map (λ (a : Target × Tree). a.0) as') vs)

-- the values of a SET, behind its checks
unfoldable pub values_to_set : Around → Body → Statement → List (Target × Tree) → Action (List Value)
values_to_set a body s as' = body_checked (world_of a) body s >>= λ _. assigned_values (also_running (nodes_of s) (world_of a)) body as'

-- ---- DECLARE

unfoldable pub declared_in : Around → Body → Declared → Action Body
declared_in a body d = declare (world_of a) body d

unfoldable pub all_declared_in : Around → Body → List Declared → Action Body
all_declared_in a body ds = carried_on (declare (world_of a)) body ds

-- ---- steps

unfoldable pub step_in : Around → Body → Statement → Action Ended
step_in a body s = step (world_of a) body s

unfoldable pub steps_in : Around → Body → Statements → Action Ended
steps_in a body ss = steps (world_of a) body ss

unfoldable pub otherwise_in : Around → Body → Otherwise → Action Ended
otherwise_in a body o = steps_otherwise (world_of a) body o

unfoldable pub branches_in : Around → Body → Branches → Otherwise → Action Ended
branches_in a body bs o = step_of_branches (world_of a) body bs (steps_otherwise (world_of a) body o)

-- What became of the branches of an IF: where the body stands, and what the steps returned where a condition held.
pub record Taken : Type 0 where
  pub body : Body
  pub returned : Option (Option Value)

-- steps that were taken
abbrev pub taken_by : Ended → Taken
taken_by ended = record { body = ended.body; returned = Some ended.returned }

-- the steps behind the first condition that holds, where one does
unfoldable pub taken_in : Around → Body → Branches → Action Taken
taken_in a body no_branch = pure (record { body = body; returned = None })
taken_in a body (branch c ss bs) =
    holds_in_body a body c >>= λ goes. (if goes then (steps_in a body ss >>= λ ended. pure (taken_by ended)) else taken_in a body bs)

abbrev pub taken_at : Body → Option (Option Value) → Taken
taken_at body returned = record { body = body; returned = returned }

-- whether a step is a change, DO or another statement that a body hands on
abbrev pub is_other : Statement → Bool
is_other (block ds ss) = false
is_other (if_steps bs o) = false
is_other (while_steps c ss) = false
is_other (return_value e) = false
is_other (set_all as') = false
is_other s = true

-- ---- functions and triggers

-- parameters with the values of their arguments
abbrev pub locals_for : List Parameter → List Value → Action (List Local)
locals_for ps vs = each local_for (zip ps vs)

-- what a trigger leaves to be stored
unfoldable pub triggered_in : Around → TableDef → Option (List Value) → Option (List Value) → Trigger → Action (Option (List Value))
triggered_in a definition new old t =
    step (world_of a) (record { locals = []; new_row = seen_as definition new; old_row = seen_as definition old }) (trigger_body t) >>= λ ended.
    pure (row_left ended)

abbrev pub row_of_view : Option View → Option (List Value)
row_of_view view = option_map (λ (v : View). v.row) view
