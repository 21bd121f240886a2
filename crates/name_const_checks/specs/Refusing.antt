-- What a call that asks whether a statement can be closed over locals answers.
use Rattle.std.specs.Prelude.{◌≡◌, List, Some, None, Result, Ok, Err, pos}
use Rattle.val_types.specs.declared.value.Value.TheVariants.{Int}
use Rattle.val_types.specs.declared.refusal.SqlRefusal.{SqlRefusal}
use Rattle.val_types.specs.declared.refusal.SqlRefusal.TheVariants.{Sql, NoMemory}
use Rattle.sql_tree.specs.Statement.{Statement}
use Rattle.sql_locals.specs.declared.locals.Local.{Local}
use Rattle.proc_model.specs.Closing.{closing_refusal}

-- nothing refuses it, or this does, or no memory
abbrev pub CanClose : Result (Unit {0}) SqlRefusal → Statement → List Local → Type 0
CanClose (Ok u) s locals = closing_refusal s locals ≡ None
CanClose (Err (Sql code)) s locals = closing_refusal s locals ≡ Some code
CanClose (Err NoMemory) s locals = Unit {0}

-- a local of the same name that is a number
abbrev pub numbered : Local → Local
numbered l = record l { value = Int (pos 0) }
