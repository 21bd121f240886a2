-- Settings that are the same to what is reached.
use Rattle.std.specs.Prelude.{◌≡◌, ℕ, true, List}
use Rattle.val_types.specs.declared.ops.Func.{Func}
use Rattle.val_types.specs.declared.ops.Func0.{Func0}
use Rattle.sql_reach.specs.log_entries.Variables.{variable_value}
use Rattle.sql_tree.specs.Statement.{Statement}
use Rattle.sql_tree.specs.declared.statements.Time.{Time}
use Rattle.sql_tree.specs.declared.statements.Cause.{Cause}
use Rattle.sql_reach.specs.catalog_rules.Objects.{table_in, function_in, procedure_in, trigger_for}
use Rattle.sql_reach.specs.catalog_rules.Nodes.{Node, a_user_variable, a_system_variable, a_built_in, a_function_call, a_statement}
use Rattle.sql_reach.specs.sql_meaning.Frames.{Setting}
use Rattle.sql_reach.specs.sql_meaning.Values.{system_value}
use Rattle.sql_reach.specs.Reach.{causes_event}
use Rattle.reach_laws.specs.Members.{In}

-- a function that asks the session gives the same
abbrev pub SameOfSession : Setting → Setting → Func0 → Type 0
SameOfSession s s' Func0.Now = s'.context.stamp ≡ s.context.stamp
SameOfSession s s' Func0.UnixTimestamp = s'.context.stamp ≡ s.context.stamp
SameOfSession s s' Func0.SysDate = s'.context.sys ≡ s.context.sys
SameOfSession s s' Func0.User = s'.context.user ≡ s.context.user
SameOfSession s s' Func0.Uuid = s'.uuid ≡ s.uuid
SameOfSession s s' Func0.ConnectionId = s'.context.connection ≡ s.context.connection
SameOfSession s s' Func0.LastInsertId = s'.context.last_id ≡ s.context.last_id
SameOfSession s s' Func0.RowCount = s'.context.row_count ≡ s.context.row_count

abbrev pub SameFunction : Setting → Setting → Func → Type 0
SameFunction s s' (Func.Zero f) = SameOfSession s s' f
SameFunction s s' f = Unit {0}

-- a node reads the same of its setting
abbrev pub SameAt : Setting → Setting → Node → Type 0
SameAt s s' (a_user_variable n) = variable_value s'.context.variables n ≡ variable_value s.context.variables n
SameAt s s' (a_system_variable n) = system_value s'.context n ≡ system_value s.context n
SameAt s s' (a_built_in f) = SameFunction s s' f
SameAt s s' node = Unit {0}

-- Two settings that differ in nothing that some nodes read, call or fire: the same tables and procedures, the same AUTO_INCREMENT
-- variables and forced INSERT_ID; the same functions and triggers, variables and functions of the session at these nodes.
pub record AgreeOn (nodes : List Node) (s s' : Setting) : Type 0 where
  pub tables : (name : List ℕ) → table_in s'.catalog name ≡ table_in s.catalog name
  pub procedures : (name : List ℕ) → procedure_in s'.catalog name ≡ procedure_in s.catalog name
  pub increment : s'.context.increment ≡ s.context.increment
  pub offset : s'.context.offset ≡ s.context.offset
  pub forced : s'.context.forced ≡ s.context.forced
  pub values : (node : Node) → In node nodes → SameAt s s' node
  pub functions : (name : List ℕ) (count : ℕ) → In (a_function_call name count) nodes → function_in s'.catalog name ≡ function_in s.catalog name
  pub triggers : (one : Statement) (on : List ℕ) (event : Cause) (time : Time) → In (a_statement one) nodes → causes_event on event one ≡ true
      → trigger_for s'.catalog on time event ≡ trigger_for s.catalog on time event
