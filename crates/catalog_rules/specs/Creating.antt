-- CREATE, DROP and TRUNCATE: what refuses them, each check in its turn, and the catalog after them.
use Rattle.std.specs.Prelude.{ℕ, ◌+◌, ◌/◌, Bool, true, false, not, ◌&&◌, ◌||◌, nat_le, nat_lt, ◌==◌, if◌then◌else◌, List, [], ◌∷◌, ◌++◌, length, map, filter, sum, Option, Some, None, is_some, is_none, is_ok, option_to_list, slice_get}
use Rattle.std.specs.List.{list_any}
use Rattle.std.specs.Option.{option_map_or}
use Rattle.val_types.specs.declared.value.Value.{Value}
use Rattle.val_types.specs.Fitting.{fitting, is_null}
use Rattle.sql_tree.specs.Statement.{Program, Trigger, trigger}
use Rattle.sql_tree.specs.Statement.{Statement, create_table, create_function, create_procedure, create_trigger, drop_table, drop_function, drop_procedure, drop_trigger, truncate}
use Rattle.sql_tree.specs.declared.statements.SqlType.{SqlType}
use Rattle.sql_tree.specs.declared.statements.SqlType.TheVariants as types
use Rattle.sql_tree.specs.declared.statements.Column.{Column}
use Rattle.sql_tree.specs.declared.statements.UniqueKey.{UniqueKey}
use Rattle.sql_tree.specs.declared.statements.CreateTable.{CreateTable}
use Rattle.sql_tree.specs.declared.statements.Parameter.{Parameter}
use Rattle.sql_tree.specs.declared.statements.Time.{Time}
use Rattle.sql_tree.specs.declared.statements.Time.TheVariants as times
use Rattle.sql_tree.specs.declared.statements.Cause.{Cause}
use Rattle.sql_tree.specs.declared.statements.Cause.TheVariants as causes
use Rattle.catalog_rules.specs.Names.{same_name, is_among, has_twice}
use Rattle.catalog_rules.specs.Objects.{Object, table, function, procedure, reaction, table_in, function_in, procedure_in, trigger_in, trigger_for, name_of, parameters_of, result_of, body_of, trigger_name, trigger_table, count_of_tables, count_of_programs}
use Rattle.sql_locals.specs.Types.{column_type}
use Rattle.catalog_rules.specs.Defined.{definition_of, names_of_columns}
use Rattle.catalog_rules.specs.Bodies.{Kind, of_function, of_procedure, of_trigger, body_codes, declared_types, has_code}

-- a check: the number of its error, and whether it refuses
abbrev pub Check : Type 0
Check = ℕ × Bool

-- the error of the first check that refuses
abbrev pub first_refusal : List Check → Option ℕ
first_refusal [] = None
first_refusal (check ∷ checks) = if check.1 then Some check.0 else first_refusal checks

-- ---- CREATE TABLE

-- the columns of each key, the primary one first
abbrev pub keys_of : CreateTable → List (List (List ℕ))
keys_of t = option_to_list t.primary ++ map (λ (k : UniqueKey). k.columns) t.uniques

abbrev pub has_unknown : List (List ℕ) → List (List ℕ) → Bool
has_unknown columns names = list_any (λ name. not (is_among columns name)) names

-- a DEFAULT that does not fit, that is NULL on a NOT NULL column, or that stands on the AUTO_INCREMENT column
abbrev pub is_ill_preset : Column → Value → Bool
is_ill_preset c v = not (is_ok (fitting (column_type c.kind) v)) || (is_null v && not c.nullable) || c.auto_increment

abbrev pub has_ill_preset : Column → Bool
has_ill_preset c = option_map_or (is_ill_preset c) c.preset false

abbrev pub is_varchar : SqlType → Bool
is_varchar types.Int = false
is_varchar types.BigInt = false
is_varchar (types.Varchar most) = true

-- the AUTO_INCREMENT columns
abbrev pub counted_columns : CreateTable → List Column
counted_columns t = filter (λ (c : Column). c.auto_increment) t.columns

-- whether a column is the first of a key
abbrev pub begins_key : List (List (List ℕ)) → Column → Bool
begins_key keys c = list_any (λ columns. option_map_or (same_name c.name) (slice_get columns 0) false) keys

-- a VARCHAR of 0 or above 65,535 bytes
abbrev pub is_ill_type : SqlType → Bool
is_ill_type types.Int = false
is_ill_type types.BigInt = false
is_ill_type (types.Varchar most) = (most == 0) || nat_lt 65535 most

-- how many bytes a value of a type takes in a row
abbrev pub width_of : SqlType → ℕ
width_of types.Int = 4
width_of types.BigInt = 8
width_of (types.Varchar most) = if nat_le most 255 then most + 1 else most + 2

-- how many bytes a row takes: its values, and a byte for each eight columns begun
abbrev pub row_width : List Column → ℕ
row_width cs = sum (map (λ (c : Column). width_of c.kind) cs) + (length cs + 7) / 8

-- more columns, keys or bytes than a table may have, or a table too many
abbrev pub is_past_table_limits : List Object → CreateTable → Bool
is_past_table_limits catalog t =
    nat_lt 64 (length t.columns)
    || list_any (λ columns. nat_lt 4 (length columns)) (keys_of t)
    || nat_lt 8 (length t.uniques)
    || list_any (λ (c : Column). is_ill_type c.kind) t.columns
    || nat_lt 65535 (row_width t.columns)
    || nat_le 1000 (count_of_tables catalog)

-- the checks of CREATE TABLE: 1050 the name is there, 1060 a column twice, in a key too, 1061 a key's name twice,
-- 1072 a key's column is none, 30001 no primary key, 1067 a DEFAULT, 1063 AUTO_INCREMENT on a text, 1075 more than
-- one, or first in no key, 30009 past a limit
abbrev pub table_checks : List Object → CreateTable → List Check
table_checks catalog t =
    (1050, is_some (table_in catalog t.name))
    ∷ (1060, has_twice (names_of_columns t) || list_any has_twice (keys_of t))
    ∷ (1061, has_twice (map (λ (k : UniqueKey). k.name) t.uniques))
    ∷ (1072, list_any (has_unknown (names_of_columns t)) (keys_of t))
    ∷ (30001, is_none t.primary)
    ∷ (1067, list_any has_ill_preset t.columns)
    ∷ (1063, list_any (λ (c : Column). c.auto_increment && is_varchar c.kind) t.columns)
    ∷ (1075, nat_lt 1 (length (counted_columns t)) || list_any (λ c. not (begins_key (keys_of t) c)) (counted_columns t))
    ∷ (30009, is_past_table_limits catalog t)
    ∷ []

-- ---- CREATE FUNCTION, PROCEDURE and TRIGGER

abbrev pub parameter_names : Program → List (List ℕ)
parameter_names p = map (λ (q : Parameter). q.name) (parameters_of p)

-- the types of parameters, of the result and of all DECLAREs
abbrev pub program_types : Program → List SqlType
program_types p =
    map (λ (q : Parameter). q.kind) (parameters_of p) ++ option_to_list (result_of p) ++ declared_types (body_of p)

-- a type out of range among some, or a program too many
abbrev pub is_past_program_limits : List Object → List SqlType → Bool
is_past_program_limits catalog kinds = list_any is_ill_type kinds || nat_le 1000 (count_of_programs catalog)

-- the checks of CREATE FUNCTION and CREATE PROCEDURE: 1304 the name is there, 1193 SET of an unknown name, 30005 what
-- may not stand in the body, 30009 past a limit
abbrev pub program_checks : List Object → Kind → Bool → Program → List Check
program_checks catalog kind is_there p =
    let met = body_codes kind (parameter_names p) (body_of p) in
    (1304, is_there) ∷ (1193, has_code met 1193) ∷ (30005, has_code met 30005)
    ∷ (30009, is_past_program_limits catalog (program_types p)) ∷ []

-- whether a trigger may write the row that is to be stored
abbrev pub runs_before_storing : Time → Cause → Bool
runs_before_storing times.Before causes.Insert = true
runs_before_storing times.Before causes.Update = true
runs_before_storing time event = false

-- the checks of CREATE TRIGGER: 1146 no such table, 1359 the name is there, 1193, 30005 also where the table has a trigger
-- for the same, 30009
abbrev pub trigger_checks : List Object → Trigger → List Check
trigger_checks catalog (trigger name time event on body) =
    let met = body_codes (of_trigger (runs_before_storing time event)) [] body in
    (1146, is_none (table_in catalog on)) ∷ (1359, is_some (trigger_in catalog name)) ∷ (1193, has_code met 1193)
    ∷ (30005, has_code met 30005 || is_some (trigger_for catalog on time event))
    ∷ (30009, is_past_program_limits catalog (declared_types body)) ∷ []

-- ---- all of them

-- the checks of a statement that changes the catalog; none for any other
abbrev pub ddl_checks : List Object → Statement → List Check
ddl_checks catalog (create_table t) = table_checks catalog t
ddl_checks catalog (create_function p) = program_checks catalog of_function (is_some (function_in catalog (name_of p))) p
ddl_checks catalog (create_procedure p) = program_checks catalog of_procedure (is_some (procedure_in catalog (name_of p))) p
ddl_checks catalog (create_trigger t) = trigger_checks catalog t
ddl_checks catalog (drop_table name) = (1051, is_none (table_in catalog name)) ∷ []
ddl_checks catalog (drop_function name) = (1305, is_none (function_in catalog name)) ∷ []
ddl_checks catalog (drop_procedure name) = (1305, is_none (procedure_in catalog name)) ∷ []
ddl_checks catalog (drop_trigger name) = (1360, is_none (trigger_in catalog name)) ∷ []
ddl_checks catalog (truncate name) = (1146, is_none (table_in catalog name)) ∷ []
ddl_checks catalog s = []

-- what refuses it, None where nothing does
unfoldable pub ddl_refusal : List Object → Statement → Option ℕ
ddl_refusal catalog s = first_refusal (ddl_checks catalog s)

-- ---- the catalog after it

-- whether an object goes with a table: the table itself, and its triggers
abbrev pub goes_with_table : List ℕ → Object → Bool
goes_with_table name (table definition) = same_name name definition.name
goes_with_table name (function p) = false
goes_with_table name (procedure p) = false
goes_with_table name (reaction t) = same_name name (trigger_table t)

abbrev pub is_function_named : List ℕ → Object → Bool
is_function_named name (table definition) = false
is_function_named name (function p) = same_name name (name_of p)
is_function_named name (procedure p) = false
is_function_named name (reaction t) = false

abbrev pub is_procedure_named : List ℕ → Object → Bool
is_procedure_named name (table definition) = false
is_procedure_named name (function p) = false
is_procedure_named name (procedure p) = same_name name (name_of p)
is_procedure_named name (reaction t) = false

abbrev pub is_trigger_named : List ℕ → Object → Bool
is_trigger_named name (table definition) = false
is_trigger_named name (function p) = false
is_trigger_named name (procedure p) = false
is_trigger_named name (reaction t) = same_name name (trigger_name t)

abbrev pub objects_but : (Object → Bool) → List Object → List Object
objects_but goes catalog = filter (λ o. not (goes o)) catalog

-- the catalog after a statement that nothing refuses
abbrev pub catalog_after : Statement → List Object → List Object
catalog_after (create_table t) catalog = catalog ++ table (definition_of t) ∷ []
catalog_after (create_function p) catalog = catalog ++ function p ∷ []
catalog_after (create_procedure p) catalog = catalog ++ procedure p ∷ []
catalog_after (create_trigger t) catalog = catalog ++ reaction t ∷ []
catalog_after (drop_table name) catalog = objects_but (goes_with_table name) catalog
catalog_after (drop_function name) catalog = objects_but (is_function_named name) catalog
catalog_after (drop_procedure name) catalog = objects_but (is_procedure_named name) catalog
catalog_after (drop_trigger name) catalog = objects_but (is_trigger_named name) catalog
catalog_after s catalog = catalog
