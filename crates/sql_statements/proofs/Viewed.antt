-- What a statement of each kind is seen as.
use Rattle.std.proofs.Common.{◌≡◌, List, rules}
use Rattle.sql_tree.specs.Statement.{evaluate, select}
use Rattle.sql_tree.specs.StatementView.{view, view_delete, view_insert, view_replace, view_update}
use Rattle.sql_tree.specs.View.{view_query, view_trees}
use Rattle.sql_tree.specs.declared.expressions.Expr.{Expr}
use Rattle.sql_tree.specs.declared.expressions.Select.{Select as Query}
use Rattle.sql_tree.specs.declared.statements.DeleteStmt.{DeleteStmt}
use Rattle.sql_tree.specs.declared.statements.InsertStmt.{InsertStmt}
use Rattle.sql_tree.specs.declared.statements.ReplaceStmt.{ReplaceStmt}
use Rattle.sql_tree.specs.declared.statements.UpdateStmt.{UpdateStmt}
use Rattle.sql_tree.specs.declared.statements.Stmt.{Delete, Do, Insert, Replace, Select, Update, the_lemmas}

pub insert_seen : (s : InsertStmt) → view (Insert s) ≡ view_insert s
insert_seen s = search (rules, the_lemmas)

pub replace_seen : (s : ReplaceStmt) → view (Replace s) ≡ view_replace s
replace_seen s = search (rules, the_lemmas)

pub update_seen : (s : UpdateStmt) → view (Update s) ≡ view_update s
update_seen s = search (rules, the_lemmas)

pub delete_seen : (s : DeleteStmt) → view (Delete s) ≡ view_delete s
delete_seen s = search (rules, the_lemmas)

pub select_seen : (q : Query) → view (Select q) ≡ select (view_query q)
select_seen q = search (rules, the_lemmas)

pub do_seen : (es : List Expr) → view (Do es) ≡ evaluate (view_trees es)
do_seen es = search (rules, the_lemmas)
