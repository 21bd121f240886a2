-- The parts of an assignment, and SET by its parts.
use Rattle.std.specs.Prelude.{ℕ, Bool, if◌then◌else◌, List, zip, Option, Result, Ok, Err}
use Rattle.val_types.specs.declared.value.Value.{Value}
use Rattle.answer_making.specs.log_entries.declared.entries.Item.{Item}
use Rattle.answer_text.specs.declared.answer.Answer.{Answer}
use Rattle.sql_print.specs.StatementSpelling.{spelling}
use Rattle.sql_tree.specs.Statement.{evaluate}
use Rattle.sql_tree.specs.Tree.{Trees}
use Rattle.sql_tree.specs.declared.expressions.Expr.{Expr}
use Rattle.sql_tree.specs.declared.statements.Assignment.{Assignment}
use Rattle.sql_tree.specs.declared.statements.Target.{Target}
use Rattle.answer_making.specs.session_model.Answers.{ok_warned, refused}
use Rattle.answer_making.specs.session_model.Sessions.{Session, Shared}
use Rattle.answer_making.specs.session_model.Running.{Call, Given, Turn, fitted_run, full, lock_refusal}
use Rattle.answer_making.specs.session_model.Commands.{all_assigned, answered, code_answer, first_refused, is_open, is_too_long, unless_refused}

abbrev pub target_of : Assignment → Target
target_of a = a.target

abbrev pub value_of : Assignment → Expr
value_of a = a.value

-- ---- what SET leaves

-- what refuses values for targets: the first assignment that is refused
abbrev pub misfit_of : (is_open : Bool) → List Target → List Value → Option ℕ
misfit_of is_open names vs = first_refused is_open (zip names vs)

-- values set, or the error of their evaluation
abbrev pub set_to : List Target → Result (List Value) ℕ → Turn Item (Given (List Value)) → Turn Item Answer
set_to names (Err code) t = record { shared = t.shared; session = t.session; committed = t.committed; given = refused code }
set_to names (Ok vs) t = record { shared = t.shared; session = all_assigned t.session (zip names vs); committed = t.committed; given = ok_warned t.given.warned 0 }

abbrev pub set_from : List Target → Turn Item (Given (List Value)) → Turn Item Answer
set_from names t = set_to names t.given.result t

-- SET by its parts: what the catalog's checks refuse, the targets and the expressions
abbrev pub set_parts : Call Item → Option ℕ → List Target → Trees → Shared → Session Item → Turn Item Answer
set_parts call refusal names ts shared session =
    if is_too_long (spelling (evaluate ts)) then answered (refused 1153) shared session
    else
    unless_refused (code_answer refusal) shared session
    (unless_refused (lock_refusal call.number shared (evaluate ts)) shared session
    (set_from names (fitted_run call full (spelling (evaluate ts)) ts (misfit_of (is_open session) names) shared session)))
