-- What a call that allocates answers, beside a definition that gives a value or the number of an error.
use Rattle.std.specs.Prelude.{◌≡◌, ℕ, Result, Ok, Err}
use Rattle.val_types.specs.declared.refusal.SqlRefusal.{SqlRefusal}
use Rattle.val_types.specs.declared.refusal.SqlRefusal.TheVariants.{Sql, NoMemory}

-- the value or the error that the definition gives, or want of memory
abbrev pub Gives : {A : Type 0} → Result A SqlRefusal → Result A ℕ → Type 0
Gives (Ok a) meaning = meaning ≡ Ok a
Gives (Err (Sql e)) meaning = meaning ≡ Err e
Gives (Err NoMemory) meaning = Unit {0}
