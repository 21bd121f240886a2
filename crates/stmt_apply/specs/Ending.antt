-- How a statement of a log ends, before its place is told.
use Rattle.std.specs.Prelude.{◌≡◌, ℕ, Result, Ok, Err}
use Rattle.val_types.specs.declared.refusal.SqlRefusal.{SqlRefusal}
use Rattle.val_types.specs.declared.refusal.SqlRefusal.TheVariants.{Sql, NoMemory}

-- it is refused with this error; where memory is wanted, nothing is said
abbrev pub IsRefusal : {A : Type 0} → Result A ℕ → SqlRefusal → Type 0
IsRefusal given (Sql code) = given ≡ Err code
IsRefusal given NoMemory = Unit {0}

-- it comes to what there is now, or is refused just so
abbrev pub EndsBy : {A : Type 0} → Result (Unit {0}) SqlRefusal → A → Result A ℕ → Type 0
EndsBy (Ok done) now given = given ≡ Ok now
EndsBy (Err refusal) now given = IsRefusal given refusal
