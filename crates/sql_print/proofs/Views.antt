-- What the last forms of a statement are seen as.
use Rattle.std.proofs.Common.{◌≡◌, List, ℕ, Option, Some, None, rules}
use Rattle.sql_tree.specs.Statement.{release_savepoint, block, if_steps, while_steps, return_value, no_else, else_steps}
use Rattle.sql_tree.specs.View.{view_tree}
use Rattle.sql_tree.specs.StatementView.{view, view_declarations, view_statements, view_branches, view_otherwise}
use Rattle.sql_tree.specs.declared.expressions.Expr.{Expr}
use Rattle.sql_tree.specs.declared.statements.Declaration.{Declaration}
use Rattle.sql_tree.specs.declared.statements.Branch.{Branch}
use Rattle.sql_tree.specs.declared.statements.Stmt.{Stmt, Block, If, While, the_lemmas}

pub view-ReleaseSavepoint : (n : List ℕ) → view (Stmt.ReleaseSavepoint n) ≡ release_savepoint n
view-ReleaseSavepoint n = search (rules, the_lemmas)

pub view-Block : (ds : List Declaration) (ss : List Stmt) → view (Block ds ss) ≡ block (view_declarations ds) (view_statements ss)
view-Block ds ss = search (rules, the_lemmas)

view-If-None : (bs : List Branch) → view (If bs None) ≡ if_steps (view_branches bs) no_else
view-If-None bs = search (rules, the_lemmas)

view-If-Some : (bs : List Branch) (ss : List Stmt) → view (If bs (Some ss)) ≡ if_steps (view_branches bs) (else_steps (view_statements ss))
view-If-Some bs ss = search (rules, the_lemmas)

pub view-If : (bs : List Branch) (o : Option (List Stmt)) → view (If bs o) ≡ if_steps (view_branches bs) (view_otherwise o)
view-If bs None = view-If-None bs
view-If bs (Some ss) = view-If-Some bs ss

pub view-While : (e : Expr) (ss : List Stmt) → view (While e ss) ≡ while_steps (view_tree e) (view_statements ss)
view-While e ss = search (rules, the_lemmas)

pub view-Return : (e : Expr) → view (Stmt.Return e) ≡ return_value (view_tree e)
view-Return e = search (rules, the_lemmas)
