-- What calls of a catalog answer.
use Rattle.std.specs.Prelude.{◌≡◌, ℕ, Bool, true, false, List, Option, Some, None, Result, Ok, Err}
use Rattle.val_types.specs.declared.refusal.SqlRefusal.{SqlRefusal}
use Rattle.val_types.specs.declared.refusal.SqlRefusal.TheVariants.{Sql, NoMemory}
use Rattle.sql_tree.specs.Statement.{Statement, create_table, create_function, create_procedure, create_trigger}
use Rattle.catalog_show_create.specs.catalog_rules.Objects.{Object}
use Rattle.catalog_show_create.specs.catalog_rules.Creating.{ddl_refusal, catalog_after}

-- a check takes no memory: it lets through, or refuses with the error
abbrev pub answer_of : Option ℕ → Result (Unit {0}) SqlRefusal
answer_of None = Ok tt
answer_of (Some code) = Err (Sql code)

abbrev pub Lets : Result (Unit {0}) SqlRefusal → Option ℕ → Type 0
Lets result refusal = result ≡ answer_of refusal

-- CREATE and DROP: the catalog after the statement, or its refusal and no change; want of memory changes nothing
abbrev pub Makes : Result (Unit {0}) SqlRefusal → Statement → List Object → List Object → Type 0
Makes (Ok done) s old new = (ddl_refusal old s ≡ None) × (new ≡ catalog_after s old)
Makes (Err (Sql code)) s old new = (ddl_refusal old s ≡ Some code) × (new ≡ old)
Makes (Err NoMemory) s old new = new ≡ old

-- whether a statement is a CREATE
abbrev pub is_create : Statement → Bool
is_create (create_table t) = true
is_create (create_function p) = true
is_create (create_procedure p) = true
is_create (create_trigger t) = true
is_create s = false
