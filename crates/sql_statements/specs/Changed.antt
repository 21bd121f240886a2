-- The parts of a statement that the code takes one by one.
use Rattle.std.specs.Prelude.{◌≡◌, ℕ, ℤ, List, [], length, Option, Some, Result, Ok, Err}
use Rattle.val_types.specs.declared.value.Value.{Value}
use Rattle.val_types.specs.declared.refusal.SqlRefusal.{SqlRefusal}
use Rattle.val_types.specs.declared.refusal.SqlRefusal.TheVariants.{Sql, NoMemory}
use Rattle.val_types.specs.declared.definitions.TableDef.{TableDef}
use Rattle.table_rules.specs.Stored.{rows_of}
use Rattle.table_rules.specs.Stores.{place_of}
use Rattle.sql_tree.specs.Tree.{Tree, Trees, Part, Orders, Query}
use Rattle.sql_tree.specs.Statement.{Supply}
use Rattle.sql_tree.specs.View.{view_orders, view_part}
use Rattle.sql_tree.specs.StatementView.{view_sets}
use Rattle.sql_tree.specs.declared.expressions.Count.{Count}
use Rattle.sql_tree.specs.declared.statements.UpdateStmt.{UpdateStmt}
use Rattle.sql_tree.specs.declared.statements.DeleteStmt.{DeleteStmt}
use Rattle.changed_rows.specs.sql_meaning.Scenes.{Scene, Action, ◌>>=◌, pure, done, failed, each, counted, carried_on, table_now}
use Rattle.changed_rows.specs.sql_meaning.Running.{rows_shown}
use Rattle.changed_rows.specs.sql_meaning.Changing.{Did, affected_rows, Inserting, Manner, chosen_rows, update_table, delete_from_table, insert_supply, insert_into_table}
use Rattle.exec_state.specs.declared.stage.Stage.{Stage}
use Rattle.exec_state.specs.Stage.{scene_of}
use Rattle.changed_rows.specs.sql_evaluation.declared.world.View.{View as Shown}
use Rattle.changed_rows.specs.sql_evaluation.declared.world.Around.{Around}
use Rattle.changed_rows.specs.sql_evaluation.Seen.{frame_of, values_in, where_in, world_of}
use Rattle.changed_rows.specs.sql_evaluation.Seen.{rows_in as query_in}
use Rattle.changed_rows.specs.Changed.{StandsAt, deleted_in, inserted_in, updated_in}
use Rattle.sql_statements.specs.declared.target.Target.{Target}

-- ---- the table that is changed

-- a table that stands where it was found: its place, its definition, and with its rows it is the table of the name
pub record IsTarget (target : Target) (name : List ℕ) (stage : Stage) : Type 0 where
  pub stands : StandsAt target.at target.definition stage
  pub place : place_of name stage.tables.tables ≡ Some target.at
  pub table : (rows : List (List Value)) → rows ≡ rows_of name stage.tables.tables
      → table_now name (scene_of stage) ≡ done (record { definition = target.definition; rows = rows }) (scene_of stage)

abbrev pub TargetFound : Result Target SqlRefusal → List ℕ → Stage → Type 0
TargetFound (Ok target) name stage = IsTarget target name stage
TargetFound (Err (Sql code)) name stage = table_now name (scene_of stage) ≡ failed code (scene_of stage)
TargetFound (Err NoMemory) name stage = Unit {0}

-- ---- UPDATE and DELETE

-- Rows of the table of a name of which a WHERE keeps just those that it keeps of all rows.
pub record ArePicked (a : Around) (name : List ℕ) (d : TableDef) (p : Part) (stage : Stage) (rows : List (List Value)) : Type 0 where
  pub all : List (List Value)
  pub there : table_now name (scene_of stage) ≡ done (record { definition = d; rows = all }) (scene_of stage)
  pub same : (vs : List Shown) (scene : Scene) → where_in a vs d p all scene ≡ where_in a vs d p rows scene

-- the rows of a table that a change picks
unfoldable pub chosen_in : Around → List Shown → TableDef → Part → Orders → Option Count → List (List Value) → Action (List (List Value))
chosen_in a vs d p os limit rows = chosen_rows (world_of a) (frame_of a vs) (record { definition = d; rows = rows }) p os limit

-- rows updated one after the other
unfoldable pub updates_in : Around → TableDef → List (List ℕ × Tree) → List (List Value) → Action ℕ
updates_in a d sets rows = counted (updated_in a d sets) rows

unfoldable pub update_in : Around → UpdateStmt → Action Did
update_in a u = update_table (world_of a) (frame_of a []) u.table (view_sets u.sets) (view_part u.filter) (view_orders u.order) u.limit

-- rows deleted one after the other; how many they are
unfoldable pub deletes_in : Around → TableDef → List (List Value) → Action ℕ
deletes_in a d rows = each (deleted_in a d) rows >>= λ _. pure (length rows)

unfoldable pub delete_in : Around → DeleteStmt → Action Did
delete_in a s = delete_from_table (world_of a) (frame_of a []) s.table (view_part s.filter) (view_orders s.order) s.limit

-- ---- INSERT and REPLACE

-- the lists of VALUES, each evaluated behind the insert of the one before
unfoldable pub lists_in : Around → Option ℤ → TableDef → List ℕ → Manner → Inserting → List Trees → Action Inserting
lists_in a forced d places manner so_far rs =
    carried_on (λ so_far ts. values_in a [] ts >>= inserted_in a forced d places manner so_far) so_far rs

-- rows that are there already
unfoldable pub rows_in : Around → Option ℤ → TableDef → List ℕ → Manner → Inserting → List (List Value) → Action Inserting
rows_in a forced d places manner so_far rows = carried_on (inserted_in a forced d places manner) so_far rows

unfoldable pub supply_in : Around → Option ℤ → TableDef → List ℕ → Manner → Supply → Action Inserting
supply_in a forced d places manner supply = insert_supply (world_of a) (frame_of a []) (inserted_in a forced d places manner) supply

unfoldable pub insert_in : Around → Option ℤ → List ℕ → Option (List (List ℕ)) → Supply → Manner → Action Did
insert_in a forced t names supply manner = insert_into_table (world_of a) (frame_of a []) forced t names supply manner

-- ---- SELECT and DO

unfoldable pub select_in : Around → List Shown → Query → Action Did
select_in a vs q = query_in a vs q >>= λ shown. pure (rows_shown shown)

unfoldable pub do_in : Around → List Shown → Trees → Action Did
do_in a vs ts = values_in a vs ts >>= λ dropped. pure (affected_rows 0)
