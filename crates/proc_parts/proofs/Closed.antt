-- What is closed.
use Rattle.std.proofs.Common.{◌≡◌, true, List, Result, Ok, Err, refl, ap, ◌∙◌}
use Rattle.val_types.specs.declared.refusal.SqlRefusal.{SqlRefusal}
use Rattle.val_types.specs.declared.refusal.SqlRefusal.TheVariants as sql
use Rattle.sql_tree.specs.Statement.{Statement, insert_into, replace_into, update_rows, delete_rows, select, evaluate}
use Rattle.sql_tree.specs.StatementView.{view}
use Rattle.sql_tree.specs.declared.statements.Stmt.{Stmt}
use Rattle.sql_locals.specs.declared.locals.Local.{Local}
use Rattle.name_const.specs.sql_reach.Closing.{closed}
use Rattle.name_const.specs.name_const_checks.Refusing.{CanClose}
use Rattle.name_const.specs.Refusing.{Closes}
use Rattle.name_const.specs.proc_model.Closing.{closing_refusal}
use Rattle.name_const.specs.proc_model.Procedures.{is_plain}
use Rattle.proc_parts.specs.Calls.{Passes}

pub passes_too : (r : Result (Unit {0}) SqlRefusal) (s : Statement) (locals : List Local) → CanClose r s locals → Passes r (closing_refusal s locals)
passes_too (Ok u) s locals h = h
passes_too (Err (sql.Sql code)) s locals h = h
passes_too (Err sql.NoMemory) s locals h = tt

pub ruleset passing = (passes_too)

-- a change, a SELECT or a DO stays one
stays_plain : (s : Statement) (locals : List Local) → is_plain s ≡ true → is_plain (closed s locals) ≡ true
unfolding closed
stays_plain (insert_into ignore t cs from us) locals is = refl
stays_plain (replace_into t cs from) locals is = refl
stays_plain (update_rows t ss w os l) locals is = refl
stays_plain (delete_rows t w os l) locals is = refl
stays_plain (select q) locals is = refl
stays_plain (evaluate ts) locals is = refl
stays_plain _ locals is = cc

pub closed_plain : (s : Statement) (copy : Stmt) (locals : List Local) → is_plain s ≡ true → Closes (Ok copy) s locals → is_plain (view copy) ≡ true
closed_plain s copy locals is h = ap is_plain h.1 ∙ stays_plain s locals is

pub ruleset closing = (closed_plain)
