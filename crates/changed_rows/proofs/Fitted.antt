-- Values put where a column is declared, what is left out, and NOT NULL.
use Rattle.std.proofs.Common.{◌≡◌, ℕ, List, true, false, Option, Some, None, Ok, Err, refl}
use Rattle.std.specs.Prelude.{slice_get, slice_set}
use Rattle.val_types.specs.declared.value.Value.{Value}
use Rattle.val_types.specs.declared.definitions.ColumnDef.{ColumnDef}
use Rattle.val_types.specs.declared.definitions.TableDef.{TableDef}
use Rattle.val_types.specs.declared.refusal.SqlRefusal.TheVariants.{Sql}
use Rattle.val_types.specs.Fitting.{fitting}
use Rattle.sql_evaluation.specs.sql_meaning.Changing.{put_at, has_missing, none_missing}
use Rattle.sql_evaluation.specs.Seen.{Anywhere}

-- no column there
pub put_nowhere : (d : TableDef) (row : List Value) (place : ℕ) (v : Value) → None ≡ slice_get d.columns place → Anywhere (Err (Sql 1054)) (put_at d row (place, v))
put_nowhere d row place v none = record { ends = λ scene. rw (← none) refl }

-- the value does not fit
pub put_unfit : (d : TableDef) (row : List Value) (place : ℕ) (v : Value) (c : ColumnDef) (code : ℕ) → Some c ≡ slice_get d.columns place → fitting c.kind v ≡ Err code
    → Anywhere (Err (Sql code)) (put_at d row (place, v))
put_unfit d row place v c code there unfit = record { ends = λ scene. rw (← there, unfit) refl }

-- it does
pub put_fit : (d : TableDef) (row : List Value) (place : ℕ) (v : Value) (c : ColumnDef) (fits : Unit {0}) → Some c ≡ slice_get d.columns place → fitting c.kind v ≡ Ok fits
    → Anywhere (Ok (slice_set row place v)) (put_at d row (place, v))
put_fit d row place v c fits there fit = record { ends = λ scene. rw (← there, fit) refl }

pub none_is : (d : TableDef) (row : List Value) (asked : Option ℕ) → has_missing d row asked ≡ false → Anywhere (Ok tt) (none_missing d row asked)
none_is d row asked none = record { ends = λ scene. rw none refl }

pub one_is : (d : TableDef) (row : List Value) (asked : Option ℕ) → has_missing d row asked ≡ true → Anywhere (Err (Sql 1048)) (none_missing d row asked)
one_is d row asked some = record { ends = λ scene. rw some refl }

pub ruleset columns = (put_nowhere, put_unfit, put_fit, none_is, one_is)
