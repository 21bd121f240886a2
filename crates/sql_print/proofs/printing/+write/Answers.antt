use Rattle.std.proofs.Common.{◌≡◌, ◌++◌, List, ℕ, ap, sym, ◌∙◌, subst, Result, OnOk}
use Rattle.sql_tree.specs.Statement.{Statement}
use Rattle.sql_tree.specs.StatementView.{view}
use Rattle.sql_tree.specs.declared.statements.Stmt.{Stmt}
use Rattle.sql_print.specs.StatementSpelling.{spelling}
use Rattle.sql_print.proofs.Views.{view-ReleaseSavepoint, view-Block, view-While, view-Return}
use Rattle.sql_print.proofs.printing.+write.Goals as goal

-- what is proved of a plain statement holds of the statement that is seen as it
of_view : {T E : Type 0} (r : Result T E) (out new : List ℕ) (s : Stmt) (v : Statement) → view s ≡ v
    → OnOk r (new ≡ out ++ spelling v) → OnOk r (new ≡ out ++ spelling (view s))
of_view r out new s v e h = subst (λ (w : Statement). OnOk r (new ≡ out ++ spelling w)) (sym e) h

pub write_statement-returns-in-ReleaseSavepoint : goal.write_statement-returns-in-ReleaseSavepoint
write_statement-returns-in-ReleaseSavepoint t c =
    of_view _ _ _ _ _ (ap view c.in-ReleaseSavepoint.is ∙ view-ReleaseSavepoint _) c.write_prefixed-in-ReleaseSavepoint.ensures

pub write_statement-returns-in-Block : goal.write_statement-returns-in-Block
write_statement-returns-in-Block t c = of_view _ _ _ _ _ (ap view c.in-Block.is ∙ view-Block _ _) c.write_block.ensures

pub write_statement-returns-in-While : goal.write_statement-returns-in-While
write_statement-returns-in-While t c = of_view _ _ _ _ _ (ap view c.in-While.is ∙ view-While _ _) c.write_while.ensures

pub write_statement-returns-in-Return : goal.write_statement-returns-in-Return
write_statement-returns-in-Return t c = of_view _ _ _ _ _ (ap view c.in-Return.is ∙ view-Return _) c.write_return.ensures
