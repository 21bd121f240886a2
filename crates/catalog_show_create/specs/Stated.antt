-- The CREATE statement of an object.
use Rattle.std.specs.Prelude.{◌≡◌, false, nat_le, List, [], ◌∷◌, ◌++◌, Option, Some, None, is_none}
use Rattle.sql_tree.specs.Statement.{Statement, create_table, create_function, create_procedure, create_trigger, Trigger, trigger}
use Rattle.catalog_objects.specs.catalog_rules.Objects.{Object, table, function, procedure, reaction, name_of, table_in, function_in, procedure_in, trigger_in, trigger_for, count_of_tables, count_of_programs}
use Rattle.catalog_objects.specs.catalog_rules.Defined.{definition_of, written_table}
use Rattle.catalog_objects.specs.catalog_rules.Creating.{ddl_refusal, catalog_after}

-- an object's statement: of a table the CREATE TABLE that its definition is written as, of a program its tree as it stands
abbrev pub statement_of : Object → Statement
statement_of (table definition) = create_table (written_table definition)
statement_of (function p) = create_function p
statement_of (procedure p) = create_procedure p
statement_of (reaction t) = create_trigger t

-- the object that a CREATE makes, None for other statements
abbrev pub object_made : Statement → Option Object
object_made (create_table t) = Some (table (definition_of t))
object_made (create_function p) = Some (function p)
object_made (create_procedure p) = Some (procedure p)
object_made (create_trigger t) = Some (reaction t)
object_made s = None

-- An object that a CREATE made, which nothing refused.
pub record IsMade (o : Object) : Type 0 where
  pub catalog : List Object
  pub by : Statement
  pub made : object_made by ≡ Some o
  pub let_through : ddl_refusal catalog by ≡ None

-- ---- where there is room

abbrev pub AreFewTables : List Object → Type 0
AreFewTables catalog = nat_le 1000 (count_of_tables catalog) ≡ false

abbrev pub AreFewPrograms : List Object → Type 0
AreFewPrograms catalog = nat_le 1000 (count_of_programs catalog) ≡ false

-- a trigger's table is there, no trigger has its name, and none waits for the same
abbrev pub MayWait : List Object → Trigger → Type 0
MayWait catalog (trigger name time event on body) =
    ((is_none (table_in catalog on) ≡ false) × (trigger_in catalog name ≡ None)) × (trigger_for catalog on time event ≡ None)

-- no object of its kind has its name, and there are not too many
abbrev pub HasRoom : List Object → Object → Type 0
HasRoom catalog (table definition) = (table_in catalog definition.name ≡ None) × AreFewTables catalog
HasRoom catalog (function p) = (function_in catalog (name_of p) ≡ None) × AreFewPrograms catalog
HasRoom catalog (procedure p) = (procedure_in catalog (name_of p) ≡ None) × AreFewPrograms catalog
HasRoom catalog (reaction t) = MayWait catalog t × AreFewPrograms catalog

-- ---- laws

-- the statement of an object is the one by which it was made
abbrev pub StatementIsThatOfMaking : Type 0
StatementIsThatOfMaking = (o : Object) (is : IsMade o) → statement_of o ≡ is.by

-- where there is room for it, nothing refuses its statement, and it stands behind the other objects then
abbrev pub IsMadeByItsStatement : Type 0
IsMadeByItsStatement =
    (o : Object) → IsMade o → (catalog : List Object) → HasRoom catalog o → (ddl_refusal catalog (statement_of o) ≡ None) × (catalog_after (statement_of o) catalog ≡ catalog ++ o ∷ [])
