-- What may not stand in a body, in one walk: 0 for 1193, 1 for 30005, 2 for a type of no size (30009), 3 for nothing.
use Rattle.std.specs.Prelude.{ℕ, Bool, cond, ◌&&◌, min, List, [], ◌∷◌, ◌++◌, map, Option, slice_get}
use Rattle.std.specs.List.{list_any}
use Rattle.sql_tree.specs.Tree.{Tree}
use Rattle.sql_tree.specs.Statement.{Declared}
use Rattle.sql_tree.specs.Statement.{Statement, create_table, create_function, create_procedure, create_trigger, drop_table, drop_function, drop_procedure, drop_trigger, truncate, insert_into, replace_into, update_rows, delete_rows, select, evaluate, set_all, call_procedure, begin, commit, rollback, savepoint, rollback_to, release_savepoint, block, if_steps, while_steps, return_value}
use Rattle.sql_tree.specs.Statement.{Statements, no_statement, statement, Branches, no_branch, branch, Otherwise, no_else, else_steps}
use Rattle.sql_tree.specs.declared.statements.SqlType.{SqlType}
use Rattle.sql_tree.specs.declared.statements.Target.{Target}
use Rattle.catalog_create_table.specs.catalog_rules.Names.{is_among}
use Rattle.catalog_create_table.specs.catalog_rules.Bodies.{Kind, is_of_function, is_of_procedure, writes_new_row, session_variables, declared_names, has_code}
use Rattle.catalog_create_table.specs.catalog_rules.Creating.{is_ill_type}

-- how early the first of some errors comes, and of some types
abbrev pub met_rank : List ℕ → ℕ
met_rank met = cond (has_code met 1193) 0 (cond (has_code met 30005) 1 3)

abbrev pub types_rank : List SqlType → ℕ
types_rank kinds = cond (list_any is_ill_type kinds) 2 3

-- the error of a rank
abbrev pub code_of : ℕ → Option ℕ
code_of rank = slice_get (1193 ∷ 30005 ∷ 30009 ∷ []) rank

abbrev pub allowed_rank : Bool → ℕ
allowed_rank b = cond b 3 1

abbrev pub variable_rank : List ℕ → ℕ
variable_rank name = cond (is_among session_variables name) 1 0

abbrev pub target_rank : Kind → List (List ℕ) → Target → ℕ
target_rank kind locals (Target.User name) = allowed_rank (is_of_procedure kind)
target_rank kind locals (Target.New name) = allowed_rank (writes_new_row kind)
target_rank kind locals (Target.Plain name) = cond (is_among locals name) 3 (variable_rank name)
target_rank kind locals (Target.System name) = variable_rank name

abbrev pub assignments_rank : Kind → List (List ℕ) → List (Target × Tree) → ℕ
assignments_rank kind locals [] = 3
assignments_rank kind locals (a ∷ as') = min (target_rank kind locals a.0) (assignments_rank kind locals as')

abbrev pub type_rank : SqlType → ℕ
type_rank kind = cond (is_ill_type kind) 2 3

abbrev pub declared_rank : List Declared → ℕ
declared_rank [] = 3
declared_rank (d ∷ ds) = min (type_rank d.kind) (declared_rank ds)

abbrev mutual
  pub body_rank : Kind → List (List ℕ) → Statement → ℕ
  body_rank kind locals (insert_into ignore t cs from us) = 3
  body_rank kind locals (replace_into t cs from) = 3
  body_rank kind locals (update_rows t ss w os l) = 3
  body_rank kind locals (delete_rows t w os l) = 3
  body_rank kind locals (select q) = allowed_rank (is_of_procedure kind)
  body_rank kind locals (evaluate ts) = 3
  body_rank kind locals (set_all as') = assignments_rank kind locals as'
  body_rank kind locals (call_procedure n ts) = allowed_rank (is_of_procedure kind)
  body_rank kind locals (block ds ss) = min (declared_rank ds) (steps_rank kind (declared_names ds ++ locals) ss)
  body_rank kind locals (if_steps bs o) = min (branches_rank kind locals bs) (otherwise_rank kind locals o)
  body_rank kind locals (while_steps c ss) = steps_rank kind locals ss
  body_rank kind locals (return_value e) = allowed_rank (is_of_function kind)
  body_rank kind locals s = 1

  pub steps_rank : Kind → List (List ℕ) → Statements → ℕ
  steps_rank kind locals no_statement = 3
  steps_rank kind locals (statement s ss) = min (body_rank kind locals s) (steps_rank kind locals ss)

  pub branches_rank : Kind → List (List ℕ) → Branches → ℕ
  branches_rank kind locals no_branch = 3
  branches_rank kind locals (branch c ss bs) = min (steps_rank kind locals ss) (branches_rank kind locals bs)

  pub otherwise_rank : Kind → List (List ℕ) → Otherwise → ℕ
  otherwise_rank kind locals no_else = 3
  otherwise_rank kind locals (else_steps ss) = steps_rank kind locals ss
