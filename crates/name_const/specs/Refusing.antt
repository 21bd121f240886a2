-- What a call that closes a statement over locals answers.
use Rattle.std.specs.Prelude.{◌≡◌, List, Some, None, Result, Ok, Err}
use Rattle.val_types.specs.declared.refusal.SqlRefusal.{SqlRefusal}
use Rattle.val_types.specs.declared.refusal.SqlRefusal.TheVariants.{Sql, NoMemory}
use Rattle.sql_tree.specs.Statement.{Statement}
use Rattle.sql_tree.specs.StatementView.{view}
use Rattle.sql_tree.specs.declared.statements.Stmt.{Stmt}
use Rattle.sql_locals.specs.declared.locals.Local.{Local}
use Rattle.sql_reach.specs.Closing.{closed}
use Rattle.name_const_checks.specs.proc_model.Closing.{closing_refusal}

-- the closed statement or what refuses it, or no memory
abbrev pub Closes : Result Stmt SqlRefusal → Statement → List Local → Type 0
Closes (Ok copy) s locals = (closing_refusal s locals ≡ None) × (view copy ≡ closed s locals)
Closes (Err (Sql code)) s locals = closing_refusal s locals ≡ Some code
Closes (Err NoMemory) s locals = Unit {0}
