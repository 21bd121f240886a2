-- What may stand in the body of a stored program, and what does.
use Rattle.std.specs.Prelude.{ℕ, Bool, true, false, if◌then◌else◌, List, [], ◌∷◌, ◌++◌, map, flat_map, codes, ◌==◌}
use Rattle.std.specs.List.{list_any}
use Rattle.sql_tree.specs.Tree.{Tree}
use Rattle.sql_tree.specs.Statement.{Declared}
use Rattle.sql_tree.specs.Statement.{Statement, create_table, create_function, create_procedure, create_trigger, drop_table, drop_function, drop_procedure, drop_trigger, truncate, insert_into, replace_into, update_rows, delete_rows, select, evaluate, set_all, call_procedure, begin, commit, rollback, savepoint, rollback_to, release_savepoint, block, if_steps, while_steps, return_value}
use Rattle.sql_tree.specs.Statement.{Statements, no_statement, statement, Branches, no_branch, branch, Otherwise, no_else, else_steps}
use Rattle.sql_tree.specs.declared.statements.SqlType.{SqlType}
use Rattle.sql_tree.specs.declared.statements.Target.{Target}
use Rattle.catalog_rules.specs.Names.{is_among}

-- ---- session variables

-- how a session's statements are logged
abbrev pub format_name : List ℕ
format_name = codes "binlog_format"

-- the variables that SET writes
abbrev pub session_variables : List (List ℕ)
session_variables =
    codes "auto_increment_increment" ∷ codes "auto_increment_offset" ∷ codes "timestamp" ∷ codes "last_insert_id"
    ∷ codes "insert_id" ∷ codes "rand_seed1" ∷ codes "rand_seed2" ∷ format_name ∷ []

-- the variables that `@@name` reads
abbrev pub readable_variables : List (List ℕ)
readable_variables =
    codes "auto_increment_increment" ∷ codes "auto_increment_offset" ∷ codes "timestamp" ∷ codes "last_insert_id"
    ∷ codes "server_id" ∷ []

-- ---- statements in bodies

-- a kind of stored program: a trigger may write the row that is to be stored, where it runs before an INSERT or UPDATE
pub data Kind : Type 0 where
  of_function : Kind
  of_procedure : Kind
  of_trigger : Bool → Kind

abbrev pub is_of_function : Kind → Bool
is_of_function of_function = true
is_of_function of_procedure = false
is_of_function (of_trigger writes_new) = false

abbrev pub is_of_procedure : Kind → Bool
is_of_procedure of_function = false
is_of_procedure of_procedure = true
is_of_procedure (of_trigger writes_new) = false

abbrev pub writes_new_row : Kind → Bool
writes_new_row of_function = false
writes_new_row of_procedure = false
writes_new_row (of_trigger writes_new) = writes_new

-- the error 30005, what is not allowed here, unless something is
abbrev pub allowed : Bool → List ℕ
allowed true = []
allowed false = 30005 ∷ []

-- a session variable may not be set in a body, and a name that is none is unknown
abbrev pub variable_codes : List ℕ → List ℕ
variable_codes name = if is_among session_variables name then 30005 ∷ [] else 1193 ∷ []

-- what refuses an assignment where some locals are in scope
abbrev pub target_codes : Kind → List (List ℕ) → Target → List ℕ
target_codes kind locals (Target.User name) = allowed (is_of_procedure kind)
target_codes kind locals (Target.New name) = allowed (writes_new_row kind)
target_codes kind locals (Target.Plain name) = if is_among locals name then [] else variable_codes name
target_codes kind locals (Target.System name) = variable_codes name

abbrev pub assignment_codes : Kind → List (List ℕ) → Target × Tree → List ℕ
assignment_codes kind locals assignment = target_codes kind locals assignment.0

-- the names that DECLAREs bring into scope
abbrev pub declared_names : List Declared → List (List ℕ)
declared_names ds = flat_map (λ (d : Declared). d.names) ds

abbrev mutual
  -- what refuses the statements of a body, each error where it is met
  pub body_codes : Kind → List (List ℕ) → Statement → List ℕ
  body_codes kind locals (create_table t) = 30005 ∷ []
  body_codes kind locals (create_function p) = 30005 ∷ []
  body_codes kind locals (create_procedure p) = 30005 ∷ []
  body_codes kind locals (create_trigger t) = 30005 ∷ []
  body_codes kind locals (drop_table n) = 30005 ∷ []
  body_codes kind locals (drop_function n) = 30005 ∷ []
  body_codes kind locals (drop_procedure n) = 30005 ∷ []
  body_codes kind locals (drop_trigger n) = 30005 ∷ []
  body_codes kind locals (truncate n) = 30005 ∷ []
  body_codes kind locals (insert_into ignore t cs from us) = []
  body_codes kind locals (replace_into t cs from) = []
  body_codes kind locals (update_rows t ss w os l) = []
  body_codes kind locals (delete_rows t w os l) = []
  body_codes kind locals (select q) = allowed (is_of_procedure kind)
  body_codes kind locals (evaluate ts) = []
  body_codes kind locals (set_all as') = flat_map (assignment_codes kind locals) as'
  body_codes kind locals (call_procedure n ts) = allowed (is_of_procedure kind)
  body_codes kind locals begin = 30005 ∷ []
  body_codes kind locals commit = 30005 ∷ []
  body_codes kind locals rollback = 30005 ∷ []
  body_codes kind locals (savepoint n) = 30005 ∷ []
  body_codes kind locals (rollback_to n) = 30005 ∷ []
  body_codes kind locals (release_savepoint n) = 30005 ∷ []
  body_codes kind locals (block ds ss) = steps_codes kind (declared_names ds ++ locals) ss
  body_codes kind locals (if_steps bs o) = branches_codes kind locals bs ++ otherwise_codes kind locals o
  body_codes kind locals (while_steps c ss) = steps_codes kind locals ss
  body_codes kind locals (return_value e) = allowed (is_of_function kind)

  pub steps_codes : Kind → List (List ℕ) → Statements → List ℕ
  steps_codes kind locals no_statement = []
  steps_codes kind locals (statement s ss) = body_codes kind locals s ++ steps_codes kind locals ss

  pub branches_codes : Kind → List (List ℕ) → Branches → List ℕ
  branches_codes kind locals no_branch = []
  branches_codes kind locals (branch c ss bs) = steps_codes kind locals ss ++ branches_codes kind locals bs

  pub otherwise_codes : Kind → List (List ℕ) → Otherwise → List ℕ
  otherwise_codes kind locals no_else = []
  otherwise_codes kind locals (else_steps ss) = steps_codes kind locals ss

abbrev mutual
  -- the types of all DECLAREs in a body
  pub declared_types : Statement → List SqlType
  declared_types (block ds ss) = map (λ (d : Declared). d.kind) ds ++ types_in_steps ss
  declared_types (if_steps bs o) = types_in_branches bs ++ types_in_otherwise o
  declared_types (while_steps c ss) = types_in_steps ss
  declared_types s = []

  pub types_in_steps : Statements → List SqlType
  types_in_steps no_statement = []
  types_in_steps (statement s ss) = declared_types s ++ types_in_steps ss

  pub types_in_branches : Branches → List SqlType
  types_in_branches no_branch = []
  types_in_branches (branch c ss bs) = types_in_steps ss ++ types_in_branches bs

  pub types_in_otherwise : Otherwise → List SqlType
  types_in_otherwise no_else = []
  types_in_otherwise (else_steps ss) = types_in_steps ss

-- whether an error was met
abbrev pub has_code : List ℕ → ℕ → Bool
has_code met code = list_any (λ one. one == code) met
