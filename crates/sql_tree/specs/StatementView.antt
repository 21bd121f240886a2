-- The plain statement that a statement of the code stands for.
use Rattle.std.specs.Prelude.{ℕ, List, [], ◌∷◌, Option, Some, None, map}
use Rattle.sql_tree.specs.Tree.{Tree, Trees}
use Rattle.sql_tree.specs.Statement.{Supply, rows, rows_of, Declared}
use Rattle.sql_tree.specs.Statement.{Statement, create_table, create_function, create_procedure, create_trigger, drop_table, drop_function, drop_procedure, drop_trigger, truncate, insert_into, replace_into, update_rows, delete_rows, select, evaluate, set_all, call_procedure, begin, commit, rollback, savepoint, rollback_to, release_savepoint, block, if_steps, while_steps, return_value}
use Rattle.sql_tree.specs.Statement.{Statements, no_statement, statement, Branches, no_branch, branch, Otherwise, no_else, else_steps, Program, program, Trigger, trigger}
use Rattle.sql_tree.specs.View.{view_tree, view_trees, view_part, view_query, view_orders}
use Rattle.sql_tree.specs.declared.expressions.Expr.{Expr}
use Rattle.sql_tree.specs.declared.statements.Source.{Source}
use Rattle.sql_tree.specs.declared.statements.ColumnSet.{ColumnSet}
use Rattle.sql_tree.specs.declared.statements.Target.{Target}
use Rattle.sql_tree.specs.declared.statements.Assignment.{Assignment}
use Rattle.sql_tree.specs.declared.statements.Declaration.{Declaration}
use Rattle.sql_tree.specs.declared.statements.InsertStmt.{InsertStmt}
use Rattle.sql_tree.specs.declared.statements.ReplaceStmt.{ReplaceStmt}
use Rattle.sql_tree.specs.declared.statements.UpdateStmt.{UpdateStmt}
use Rattle.sql_tree.specs.declared.statements.DeleteStmt.{DeleteStmt}
use Rattle.sql_tree.specs.declared.statements.Stmt.TheOpen.{Stmt-F, Branch-F, Routine-F, TriggerDef-F}
use Rattle.sql_tree.specs.declared.statements.Stmt.{Stmt, fold-Stmt}
use Rattle.sql_tree.specs.declared.statements.Branch.{Branch, fold-Branch}
use Rattle.sql_tree.specs.declared.statements.Routine.{Routine, fold-Routine}
use Rattle.sql_tree.specs.declared.statements.TriggerDef.{TriggerDef, fold-TriggerDef}

-- the parts of statements that hold no statement

abbrev pub view_rows : List (List Expr) → List Trees
view_rows rs = map view_trees rs

abbrev pub view_supply : Source → Supply
view_supply (Source.Rows rs) = rows (view_rows rs)
view_supply (Source.Select q) = rows_of (view_query q)

abbrev pub view_set : ColumnSet → List ℕ × Tree
view_set s = (s.column, view_tree s.value)

abbrev pub view_sets : List ColumnSet → List (List ℕ × Tree)
view_sets ss = map view_set ss

abbrev pub view_assignment : Assignment → Target × Tree
view_assignment a = (a.target, view_tree a.value)

abbrev pub view_assignments : List Assignment → List (Target × Tree)
view_assignments as' = map view_assignment as'

abbrev pub view_declaration : Declaration → Declared
view_declaration d = record { names = d.names; kind = d.kind; preset = view_part d.preset }

abbrev pub view_declarations : List Declaration → List Declared
view_declarations ds = map view_declaration ds

abbrev pub view_insert : InsertStmt → Statement
view_insert i = insert_into i.ignore i.table i.columns (view_supply i.source) (view_sets i.update)

abbrev pub view_replace : ReplaceStmt → Statement
view_replace r = replace_into r.table r.columns (view_supply r.source)

abbrev pub view_update : UpdateStmt → Statement
view_update u = update_rows u.table (view_sets u.sets) (view_part u.filter) (view_orders u.order) u.limit

abbrev pub view_delete : DeleteStmt → Statement
view_delete d = delete_rows d.table (view_part d.filter) (view_orders d.order) d.limit

-- lists and options whose statements are seen as plain statements

abbrev pub statements_of : List Statement → Statements
statements_of [] = no_statement
statements_of (s ∷ ss) = statement s (statements_of ss)

abbrev pub branches_of : List (Tree × Statements) → Branches
branches_of [] = no_branch
branches_of (b ∷ bs) = branch b.0 b.1 (branches_of bs)

abbrev pub otherwise_of : Option (List Statement) → Otherwise
otherwise_of None = no_else
otherwise_of (Some ss) = else_steps (statements_of ss)

-- one level of each type, with what is inside already seen as plain statements

abbrev pub statement_step : Stmt-F Statement (Tree × Statements) Program Trigger → Statement
statement_step (Stmt-F.CreateTable t) = create_table t
statement_step (Stmt-F.CreateFunction p) = create_function p
statement_step (Stmt-F.CreateProcedure p) = create_procedure p
statement_step (Stmt-F.CreateTrigger t) = create_trigger t
statement_step (Stmt-F.DropTable n) = drop_table n
statement_step (Stmt-F.DropFunction n) = drop_function n
statement_step (Stmt-F.DropProcedure n) = drop_procedure n
statement_step (Stmt-F.DropTrigger n) = drop_trigger n
statement_step (Stmt-F.Truncate n) = truncate n
statement_step (Stmt-F.Insert i) = view_insert i
statement_step (Stmt-F.Replace r) = view_replace r
statement_step (Stmt-F.Update u) = view_update u
statement_step (Stmt-F.Delete d) = view_delete d
statement_step (Stmt-F.Select q) = select (view_query q)
statement_step (Stmt-F.Do es) = evaluate (view_trees es)
statement_step (Stmt-F.Set as') = set_all (view_assignments as')
statement_step (Stmt-F.Call n es) = call_procedure n (view_trees es)
statement_step Stmt-F.Begin = begin
statement_step Stmt-F.Commit = commit
statement_step Stmt-F.Rollback = rollback
statement_step (Stmt-F.Savepoint n) = savepoint n
statement_step (Stmt-F.RollbackTo n) = rollback_to n
statement_step (Stmt-F.ReleaseSavepoint n) = release_savepoint n
statement_step (Stmt-F.Block ds ss) = block (view_declarations ds) (statements_of ss)
statement_step (Stmt-F.If bs o) = if_steps (branches_of bs) (otherwise_of o)
statement_step (Stmt-F.While c ss) = while_steps (view_tree c) (statements_of ss)
statement_step (Stmt-F.Return e) = return_value (view_tree e)

abbrev pub branch_step : Branch-F Statement (Tree × Statements) Program Trigger → Tree × Statements
branch_step b = (view_tree b.condition, statements_of b.steps)

abbrev pub program_step : Routine-F Statement (Tree × Statements) Program Trigger → Program
program_step r = program r.name r.parameters r.returns r.body

abbrev pub trigger_step : TriggerDef-F Statement (Tree × Statements) Program Trigger → Trigger
trigger_step t = trigger t.name t.time t.event t.table t.body

-- the views

abbrev pub view : Stmt → Statement
view = fold-Stmt Statement (Tree × Statements) Program Trigger statement_step branch_step program_step trigger_step

abbrev pub view_branch : Branch → Tree × Statements
view_branch = fold-Branch Statement (Tree × Statements) Program Trigger statement_step branch_step program_step trigger_step

abbrev pub view_program : Routine → Program
view_program = fold-Routine Statement (Tree × Statements) Program Trigger statement_step branch_step program_step trigger_step

abbrev pub view_trigger : TriggerDef → Trigger
view_trigger = fold-TriggerDef Statement (Tree × Statements) Program Trigger statement_step branch_step program_step trigger_step

-- the views of lists and options on their own

abbrev pub view_statements : List Stmt → Statements
view_statements ss = statements_of (map view ss)

abbrev pub view_branches : List Branch → Branches
view_branches bs = branches_of (map view_branch bs)

abbrev pub view_otherwise : Option (List Stmt) → Otherwise
view_otherwise None = no_else
view_otherwise (Some ss) = else_steps (view_statements ss)
