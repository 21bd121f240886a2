-- How statements are written.
use Rattle.std.specs.Prelude.{ℕ, Bool, true, false, List, [], ◌∷◌, ◌++◌, map, codes, Option, Some, None}
use Rattle.val_types.specs.Text.{text_of}
use Rattle.val_types.specs.declared.value.Value.{Value}
use Rattle.sql_tree.specs.Tree.{Tree, Trees, Part, no_part, part}
use Rattle.sql_tree.specs.Statement.{Supply, rows, rows_of, Declared}
use Rattle.sql_tree.specs.Statement.{Statement, create_table, create_function, create_procedure, create_trigger, drop_table, drop_function, drop_procedure, drop_trigger, truncate, insert_into, replace_into, update_rows, delete_rows, select, evaluate, set_all, call_procedure, begin, commit, rollback, savepoint, rollback_to, release_savepoint, block, if_steps, while_steps, return_value}
use Rattle.sql_tree.specs.Statement.{Statements, no_statement, statement, Branches, no_branch, branch, Otherwise, no_else, else_steps, Program, program, Trigger, trigger}
use Rattle.sql_tree.specs.declared.statements.SqlType.{SqlType}
use Rattle.sql_tree.specs.declared.statements.CreateTable.{CreateTable}
use Rattle.sql_tree.specs.declared.statements.Column.{Column}
use Rattle.sql_tree.specs.declared.statements.UniqueKey.{UniqueKey}
use Rattle.sql_tree.specs.declared.statements.Parameter.{Parameter}
use Rattle.sql_tree.specs.declared.statements.Time.{Time}
use Rattle.sql_tree.specs.declared.statements.Cause.{Cause}
use Rattle.sql_tree.specs.declared.statements.Target.{Target}
use Rattle.sql_print.specs.Names.{quoted_name, names_of, commas, bare_name, type_of, count_if}
use Rattle.sql_print.specs.Spelling.{tree_text, trees_text, where_text, query_text, orders_text}

-- CREATE TABLE

-- NULL or NOT NULL
abbrev pub nullable_text : Bool → List ℕ
nullable_text true = codes " NULL"
nullable_text false = codes " NOT NULL"

-- the literal behind DEFAULT
abbrev pub preset_text : Option Value → List ℕ
preset_text None = []
preset_text (Some v) = codes " DEFAULT " ++ text_of v

-- AUTO_INCREMENT where a column has it
abbrev pub auto_text : Bool → List ℕ
auto_text true = codes " AUTO_INCREMENT"
auto_text false = []

-- a column: name, type and options
abbrev pub column_text : Column → List ℕ
column_text c = quoted_name c.name ++ codes " " ++ type_of c.kind ++ nullable_text c.nullable ++ preset_text c.preset ++ auto_text c.auto_increment

-- the primary key, as none or one part of the table
abbrev pub primary_parts : Option (List (List ℕ)) → List (List ℕ)
primary_parts None = []
primary_parts (Some ns) = (codes "PRIMARY KEY (" ++ names_of ns ++ codes ")") ∷ []

-- a unique key as a part of the table
abbrev pub unique_text : UniqueKey → List ℕ
unique_text k = codes "UNIQUE KEY " ++ quoted_name k.name ++ codes " (" ++ names_of k.columns ++ codes ")"

-- the columns, then the primary key, then the unique keys
abbrev pub table_parts : CreateTable → List (List ℕ)
table_parts t = map column_text t.columns ++ primary_parts t.primary ++ map unique_text t.uniques

-- CREATE TABLE
abbrev pub table_text : CreateTable → List ℕ
table_text t = codes "CREATE TABLE " ++ quoted_name t.name ++ codes " (" ++ commas (table_parts t) ++ codes ")"

-- changes of rows

-- the column names of INSERT and REPLACE
abbrev pub columns_text : Option (List (List ℕ)) → List ℕ
columns_text None = []
columns_text (Some ns) = codes " (" ++ names_of ns ++ codes ")"

-- a row of VALUES in parentheses
abbrev pub row_text : Trees → List ℕ
row_text ts = codes "(" ++ trees_text ts ++ codes ")"

-- VALUES with its rows, or a SELECT
abbrev pub supply_text : Supply → List ℕ
supply_text (rows rs) = codes " VALUES " ++ commas (map row_text rs)
supply_text (rows_of q) = codes " " ++ query_text q

-- `column = value`
abbrev pub set_text : List ℕ × Tree → List ℕ
set_text s = quoted_name s.0 ++ codes " = " ++ tree_text s.1

-- `column = value` items
abbrev pub sets_text : List (List ℕ × Tree) → List ℕ
sets_text ss = commas (map set_text ss)

-- ON DUPLICATE KEY UPDATE, nothing without items
abbrev pub update_text : List (List ℕ × Tree) → List ℕ
update_text [] = []
update_text (s ∷ ss) = codes " ON DUPLICATE KEY UPDATE " ++ sets_text (s ∷ ss)

-- INSERT up to the table
abbrev pub ignore_text : Bool → List ℕ
ignore_text true = codes "INSERT IGNORE INTO "
ignore_text false = codes "INSERT INTO "

-- SET

-- what an assignment writes
abbrev pub target_text : Target → List ℕ
target_text (Target.User n) = codes "@" ++ quoted_name n
target_text (Target.Plain n) = quoted_name n
target_text (Target.System n) = codes "@@" ++ bare_name n
target_text (Target.New n) = codes "NEW." ++ quoted_name n

-- an assignment
abbrev pub assignment_text : Target × Tree → List ℕ
assignment_text a = target_text a.0 ++ codes " = " ++ tree_text a.1

-- the assignments of SET
abbrev pub assignments_text : List (Target × Tree) → List ℕ
assignments_text as' = commas (map assignment_text as')

-- stored programs

-- a parameter: name and type
abbrev pub parameter_text : Parameter → List ℕ
parameter_text p = quoted_name p.name ++ codes " " ++ type_of p.kind

-- RETURNS of a function, nothing for a procedure
abbrev pub returns_text : Option SqlType → List ℕ
returns_text None = []
returns_text (Some k) = codes " RETURNS " ++ type_of k

-- when a trigger runs
abbrev pub time_text : Time → List ℕ
time_text Time.Before = codes " BEFORE "
time_text Time.After = codes " AFTER "

-- the event of a trigger up to its table
abbrev pub cause_text : Cause → List ℕ
cause_text Cause.Insert = codes "INSERT ON "
cause_text Cause.Update = codes "UPDATE ON "
cause_text Cause.Delete = codes "DELETE ON "

-- the DEFAULT of a DECLARE
abbrev pub default_text : Part → List ℕ
default_text no_part = []
default_text (part t) = codes " DEFAULT " ++ tree_text t

-- a DECLARE, closed by a semicolon and a space
abbrev pub declaration_text : Declared → List ℕ
declaration_text d = codes "DECLARE " ++ names_of d.names ++ codes " " ++ type_of d.kind ++ default_text d.preset ++ codes "; "

-- the DECLAREs of a block
abbrev pub declarations_text : List Declared → List ℕ
declarations_text [] = []
declarations_text (d ∷ ds) = declaration_text d ++ declarations_text ds

abbrev mutual
  -- a statement
  pub spelling : Statement → List ℕ
  spelling (create_table t) = table_text t
  spelling (create_function p) = codes "CREATE FUNCTION " ++ program_text p
  spelling (create_procedure p) = codes "CREATE PROCEDURE " ++ program_text p
  spelling (create_trigger t) = codes "CREATE TRIGGER " ++ trigger_text t
  spelling (drop_table n) = codes "DROP TABLE " ++ quoted_name n
  spelling (drop_function n) = codes "DROP FUNCTION " ++ quoted_name n
  spelling (drop_procedure n) = codes "DROP PROCEDURE " ++ quoted_name n
  spelling (drop_trigger n) = codes "DROP TRIGGER " ++ quoted_name n
  spelling (truncate n) = codes "TRUNCATE " ++ quoted_name n
  spelling (insert_into ignore t cs from us) = ignore_text ignore ++ quoted_name t ++ columns_text cs ++ supply_text from ++ update_text us
  spelling (replace_into t cs from) = codes "REPLACE INTO " ++ quoted_name t ++ columns_text cs ++ supply_text from
  spelling (update_rows t ss w os l) = codes "UPDATE " ++ quoted_name t ++ codes " SET " ++ sets_text ss ++ where_text w ++ orders_text os ++ count_if l
  spelling (delete_rows t w os l) = codes "DELETE FROM " ++ quoted_name t ++ where_text w ++ orders_text os ++ count_if l
  spelling (select q) = query_text q
  spelling (evaluate ts) = codes "DO " ++ trees_text ts
  spelling (set_all as') = codes "SET " ++ assignments_text as'
  spelling (call_procedure n ts) = codes "CALL " ++ quoted_name n ++ codes "(" ++ trees_text ts ++ codes ")"
  spelling begin = codes "BEGIN"
  spelling commit = codes "COMMIT"
  spelling rollback = codes "ROLLBACK"
  spelling (savepoint n) = codes "SAVEPOINT " ++ quoted_name n
  spelling (rollback_to n) = codes "ROLLBACK TO " ++ quoted_name n
  spelling (release_savepoint n) = codes "RELEASE SAVEPOINT " ++ quoted_name n
  spelling (block ds ss) = codes "BEGIN " ++ declarations_text ds ++ steps_text ss ++ codes "END"
  spelling (if_steps bs o) = branches_text bs ++ otherwise_text o ++ codes "END IF"
  spelling (while_steps c ss) = codes "WHILE " ++ tree_text c ++ codes " DO " ++ steps_text ss ++ codes "END WHILE"
  spelling (return_value t) = codes "RETURN " ++ tree_text t

  -- steps, each closed by a semicolon and a space
  pub steps_text : Statements → List ℕ
  steps_text no_statement = []
  steps_text (statement s ss) = spelling s ++ codes "; " ++ steps_text ss

  -- the first condition of an IF with its steps, and those behind it
  pub branches_text : Branches → List ℕ
  branches_text no_branch = []
  branches_text (branch c ss bs) = codes "IF " ++ tree_text c ++ codes " THEN " ++ steps_text ss ++ more_branches_text bs

  -- the ELSEIFs
  pub more_branches_text : Branches → List ℕ
  more_branches_text no_branch = []
  more_branches_text (branch c ss bs) = codes "ELSEIF " ++ tree_text c ++ codes " THEN " ++ steps_text ss ++ more_branches_text bs

  -- ELSE with its steps
  pub otherwise_text : Otherwise → List ℕ
  otherwise_text no_else = []
  otherwise_text (else_steps ss) = codes "ELSE " ++ steps_text ss

  -- a stored function or procedure from its name on
  pub program_text : Program → List ℕ
  program_text (program n ps k body) = quoted_name n ++ codes "(" ++ commas (map parameter_text ps) ++ codes ")" ++ returns_text k ++ codes " " ++ spelling body

  -- a trigger from its name on
  pub trigger_text : Trigger → List ℕ
  trigger_text (trigger n time event t body) = quoted_name n ++ time_text time ++ cause_text event ++ quoted_name t ++ codes " FOR EACH ROW " ++ spelling body
