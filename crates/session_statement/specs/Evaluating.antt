-- Expressions that were evaluated, and not yet kept.
use Rattle.std.specs.Prelude.{List, Result, Ok, Err}
use Rattle.val_types.specs.declared.value.Value.{Value}
use Rattle.val_types.specs.declared.refusal.SqlRefusal.{SqlRefusal}
use Rattle.session_statement.specs.declared.stepping.Evaluated.{Evaluated}

-- their values, or what refused them
abbrev pub values_of : Result Evaluated SqlRefusal → Result (List Value) SqlRefusal
values_of (Ok evaluated) = Ok evaluated.values
values_of (Err refusal) = Err refusal
