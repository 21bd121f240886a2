-- The catalog: tables without their rows, functions, procedures and triggers, in order of creation.
use Rattle.std.specs.Prelude.{ℕ, Bool, true, false, ◌&&◌, if◌then◌else◌, List, length, map, filter, Option, Some, None}
use Rattle.val_types.specs.declared.definitions.TableDef.{TableDef}
use Rattle.val_types.specs.declared.definitions.ColumnDef.{ColumnDef}
use Rattle.sql_tree.specs.Statement.{Statement, Program, program, Trigger, trigger}
use Rattle.sql_tree.specs.declared.statements.Parameter.{Parameter}
use Rattle.sql_tree.specs.declared.statements.SqlType.{SqlType}
use Rattle.sql_tree.specs.declared.statements.Time.{Time}
use Rattle.sql_tree.specs.declared.statements.Time.TheVariants as times
use Rattle.sql_tree.specs.declared.statements.Cause.{Cause}
use Rattle.sql_tree.specs.declared.statements.Cause.TheVariants as causes
use Rattle.catalog_rules.specs.Names.{same_name, first_made}

-- an object of the catalog
pub data Object : Type 0 where
  table : TableDef → Object
  function : Program → Object
  procedure : Program → Object
  reaction : Trigger → Object

-- ---- the parts of programs

abbrev pub name_of : Program → List ℕ
name_of (program name parameters returns body) = name

abbrev pub parameters_of : Program → List Parameter
parameters_of (program name parameters returns body) = parameters

abbrev pub result_of : Program → Option SqlType
result_of (program name parameters returns body) = returns

abbrev pub body_of : Program → Statement
body_of (program name parameters returns body) = body

abbrev pub trigger_name : Trigger → List ℕ
trigger_name (trigger name time event on body) = name

abbrev pub trigger_table : Trigger → List ℕ
trigger_table (trigger name time event on body) = on

abbrev pub trigger_body : Trigger → Statement
trigger_body (trigger name time event on body) = body

-- ---- looking up

-- an object as the table of a name
abbrev pub as_table : List ℕ → Object → Option TableDef
as_table name (table definition) = if same_name name definition.name then Some definition else None
as_table name (function p) = None
as_table name (procedure p) = None
as_table name (reaction t) = None

-- an object as the function of a name
abbrev pub as_function : List ℕ → Object → Option Program
as_function name (table definition) = None
as_function name (function p) = if same_name name (name_of p) then Some p else None
as_function name (procedure p) = None
as_function name (reaction t) = None

-- an object as the procedure of a name
abbrev pub as_procedure : List ℕ → Object → Option Program
as_procedure name (table definition) = None
as_procedure name (function p) = None
as_procedure name (procedure p) = if same_name name (name_of p) then Some p else None
as_procedure name (reaction t) = None

-- an object as the trigger of a name
abbrev pub as_trigger : List ℕ → Object → Option Trigger
as_trigger name (table definition) = None
as_trigger name (function p) = None
as_trigger name (procedure p) = None
as_trigger name (reaction t) = if same_name name (trigger_name t) then Some t else None

abbrev pub same_time : Time → Time → Bool
same_time times.Before times.Before = true
same_time times.After times.After = true
same_time a b = false

abbrev pub same_event : Cause → Cause → Bool
same_event causes.Insert causes.Insert = true
same_event causes.Update causes.Update = true
same_event causes.Delete causes.Delete = true
same_event a b = false

-- whether a trigger waits for an event of a table at a time
abbrev pub waits_for : List ℕ → Time → Cause → Trigger → Bool
waits_for on time event (trigger name own_time own_event own_table body) =
    same_name on own_table && same_time time own_time && same_event event own_event

-- an object as the trigger for an event
abbrev pub as_trigger_for : List ℕ → Time → Cause → Object → Option Trigger
as_trigger_for on time event (table definition) = None
as_trigger_for on time event (function p) = None
as_trigger_for on time event (procedure p) = None
as_trigger_for on time event (reaction t) = if waits_for on time event t then Some t else None

-- the table, function, procedure and trigger of a name; the trigger for an event of a table
abbrev pub table_in : List Object → List ℕ → Option TableDef
table_in catalog name = first_made (as_table name) catalog

abbrev pub function_in : List Object → List ℕ → Option Program
function_in catalog name = first_made (as_function name) catalog

abbrev pub procedure_in : List Object → List ℕ → Option Program
procedure_in catalog name = first_made (as_procedure name) catalog

abbrev pub trigger_in : List Object → List ℕ → Option Trigger
trigger_in catalog name = first_made (as_trigger name) catalog

abbrev pub trigger_for : List Object → List ℕ → Time → Cause → Option Trigger
trigger_for catalog on time event = first_made (as_trigger_for on time event) catalog

-- ---- counting

abbrev pub is_table : Object → Bool
is_table (table definition) = true
is_table (function p) = false
is_table (procedure p) = false
is_table (reaction t) = false

abbrev pub is_program : Object → Bool
is_program (table definition) = false
is_program (function p) = true
is_program (procedure p) = true
is_program (reaction t) = true

abbrev pub count_of_tables : List Object → ℕ
count_of_tables catalog = length (filter is_table catalog)

abbrev pub count_of_programs : List Object → ℕ
count_of_programs catalog = length (filter is_program catalog)

-- the names of a table's columns
abbrev pub columns_of : TableDef → List (List ℕ)
columns_of definition = map (λ (column : ColumnDef). column.name) definition.columns
