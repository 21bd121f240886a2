-- What a run from one setting has to find of what is reached, to be like a run from another one.
use Rattle.std.proofs.Common.{◌≡◌, ◌⊎◌, ℕ, true, List, [], ◌++◌, Option, Some, None, ℤ}
use Rattle.std.specs.List.{AllByRecursion}
use Rattle.val_types.specs.declared.value.Value.{Value}
use Rattle.val_types.specs.declared.definitions.TableDef.{TableDef}
use Rattle.val_types.specs.declared.ops.Func.{Func}
use Rattle.val_types.specs.declared.ops.Func0.{Func0}
use Rattle.sql_tree.specs.Tree.{Tree}
use Rattle.sql_tree.specs.Statement.{Statement, Program, Trigger, insert_into, replace_into, update_rows, delete_rows, select, evaluate}
use Rattle.sql_tree.specs.declared.statements.Time.{Time}
use Rattle.sql_tree.specs.declared.statements.Cause.{Cause}
use Rattle.sql_reach.specs.catalog_rules.Checks.{Scope, statement_refusal, expression_refusal}
use Rattle.sql_reach.specs.catalog_rules.Objects.{function_in, trigger_for, body_of, trigger_body}
use Rattle.sql_reach.specs.catalog_rules.Nodes.{Node, a_built_in, a_random_number, a_function_call, a_statement, no_sight, in_sight, sight_of_update, count_nodes, nodes_of, nodes_of_tree, nodes_of_trees, nodes_of_part, nodes_of_query, nodes_of_orders, nodes_of_sets, nodes_of_supply}
use Rattle.sql_reach.specs.sql_meaning.Scenes.{Action}
use Rattle.sql_reach.specs.sql_meaning.Frames.{Setting, Running, Below}
use Rattle.sql_reach.specs.Reach.{causes_event, is_change}
use Rattle.reach_laws.specs.Agreeing.{SameAt}

-- the table into which a statement inserts
abbrev pub table_inserted : Statement → Option (List ℕ)
table_inserted (insert_into ignore t names supply sets) = Some t
table_inserted (replace_into t names supply) = Some t
table_inserted s = None

-- the nodes of the expressions of a change, a SELECT or a DO
abbrev pub expressions_of : Statement → List Node
expressions_of (insert_into ignore t names supply sets) = nodes_of_supply supply no_sight ++ nodes_of_sets sets (sight_of_update t)
expressions_of (replace_into t names supply) = nodes_of_supply supply no_sight
expressions_of (update_rows t sets condition os limit) =
    nodes_of_sets sets (in_sight t no_sight) ++ nodes_of_part condition (in_sight t no_sight) ++ nodes_of_orders os (in_sight t no_sight) ++ count_nodes limit
expressions_of (delete_rows t condition os limit) = nodes_of_part condition (in_sight t no_sight) ++ nodes_of_orders os (in_sight t no_sight) ++ count_nodes limit
expressions_of (select q) = nodes_of_query q no_sight
expressions_of (evaluate ts) = nodes_of_trees ts no_sight
expressions_of s = []

-- a value is generated nowhere, or the first one is forced, or counters are the same
abbrev pub Decided : Type 0 → Option ℤ → Option ℕ → Type 0
Decided exact None auto = (auto ≡ None) ⊎ exact
Decided exact (Some v) auto = Unit {0}

-- the triggers of a table for an event are the same, and reached
abbrev pub Fired : Setting → Setting → (Node → Type 0) → List ℕ → Time → Cause → Type 0
Fired s s' reached on time event =
    (trigger_for s'.catalog on time event ≡ trigger_for s.catalog on time event)
    × ((t : Trigger) → trigger_for s.catalog on time event ≡ Some t → AllByRecursion reached (nodes_of (trigger_body t)))

-- Nodes that read the same, with the nodes of the functions that they call and of the triggers for what they cause, which are the
-- same, too; that are refused alike; and of which none draws, makes a
-- UUID, changes or generates a value where that would not be alike.
pub record IsReach (random exact changing : Type 0) (Known : List ℕ → TableDef → Type 0) (s s' : Setting) (reached : Node → Type 0) : Type 0 where
  pub increment : s'.context.increment ≡ s.context.increment
  pub offset : s'.context.offset ≡ s.context.offset
  pub same : (node : Node) → reached node → SameAt s s' node
  pub draws : reached a_random_number → random
  pub uuids : reached (a_built_in (Func.Zero Func0.Uuid)) → exact
  pub functions : (n : List ℕ) (count : ℕ) → reached (a_function_call n count) → function_in s'.catalog n ≡ function_in s.catalog n
  pub calls : (n : List ℕ) (count : ℕ) (p : Program) → reached (a_function_call n count) → function_in s.catalog n ≡ Some p → AllByRecursion reached (nodes_of (body_of p))
  pub fires : (one : Statement) (on : List ℕ) (event : Cause) (time : Time) → reached (a_statement one) → causes_event on event one ≡ true → Fired s s' reached on time event
  pub writes : (one : Statement) → reached (a_statement one) → is_change one ≡ true → changing
  pub generates : (one : Statement) (t : List ℕ) (d : TableDef) → reached (a_statement one) → table_inserted one ≡ Some t → Known t d → Decided exact None d.auto
  pub expressions : (scope : Scope) (e : Tree) → AllByRecursion reached (nodes_of_tree e no_sight) → expression_refusal s'.catalog scope e ≡ expression_refusal s.catalog scope e
  pub statements : (scope : Scope) (one : Statement) → AllByRecursion reached (nodes_of one) → statement_refusal s'.catalog scope one ≡ statement_refusal s.catalog scope one

-- What programs do one level further down is alike: a function that is called, a trigger of what is caused.
pub record LikeBelow (P : (A : Type 0) → Action A → Action A → Type 0) (s s' : Setting) (reached : Node → Type 0) (below below' : Below) : Type 0 where
  pub calls : (running : Running) (n : List ℕ) (count : ℕ) (vs : List Value) → reached (a_function_call n count) → P Value (below.call running n vs) (below'.call running n vs)
  pub fires : (running : Running) (time : Time) (event : Cause) (definition : TableDef) (new old : Option (List Value)) → Fired s s' reached definition.name time event
      → P (Option (List Value)) (below.fire running time event definition new old) (below'.fire running time event definition new old)
