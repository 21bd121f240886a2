-- What stands right inside a statement that runs: its steps, and the expressions that it evaluates by themselves.
use Rattle.std.specs.Prelude.{◌<◌, ◌≤◌, List, [], ◌∷◌, ◌++◌, IsTrue}
use Rattle.std.specs.List.{All}
use Rattle.sql_tree.specs.Tree.{Tree, Trees, no_tree, tree, Part, no_part, part}
use Rattle.sql_tree.specs.Statement.{Declared, program, trigger}
use Rattle.sql_tree.specs.Statement.{Statement, create_function, create_procedure, create_trigger, evaluate, set_all, call_procedure, block, if_steps, while_steps, return_value}
use Rattle.sql_tree.specs.Statement.{Statements, no_statement, statement, Branches, no_branch, branch, Otherwise, no_else, else_steps}
use Rattle.sql_tree.specs.Depth.{depth_of}
use Rattle.sql_tree.specs.Well.{is_well_step, is_whole}
use Rattle.sql_tree.specs.declared.statements.Target.{Target}

-- ---- steps

abbrev pub listed : Statements → List Statement
listed no_statement = []
listed (statement s ss) = s ∷ listed ss

abbrev pub branch_steps : Branches → List Statement
branch_steps no_branch = []
branch_steps (branch c ss bs) = listed ss ++ branch_steps bs

abbrev pub else_listed : Otherwise → List Statement
else_listed no_else = []
else_listed (else_steps ss) = listed ss

-- the statements right inside a statement, also those of a body that it creates
abbrev pub steps_of : Statement → List Statement
steps_of (create_function (program n ps k body)) = body ∷ []
steps_of (create_procedure (program n ps k body)) = body ∷ []
steps_of (create_trigger (trigger n time event t body)) = body ∷ []
steps_of (block ds ss) = listed ss
steps_of (if_steps bs o) = branch_steps bs ++ else_listed o
steps_of (while_steps c ss) = listed ss
steps_of _ = []

-- ---- expressions, each as the DO that evaluates it

-- no DO over no expression
abbrev pub do_if : Trees → List Statement
do_if no_tree = []
do_if (tree t ts) = evaluate (tree t ts) ∷ []

abbrev pub do_one : Tree → Statement
do_one t = evaluate (tree t no_tree)

abbrev pub do_part : Part → List Statement
do_part no_part = []
do_part (part t) = do_one t ∷ []

-- the values of SET
abbrev pub values_assigned : List (Target × Tree) → Trees
values_assigned [] = no_tree
values_assigned (a ∷ as') = tree a.1 (values_assigned as')

abbrev pub do_presets : List Declared → List Statement
do_presets [] = []
do_presets (d ∷ ds) = do_part d.preset ++ do_presets ds

abbrev pub do_conditions : Branches → List Statement
do_conditions no_branch = []
do_conditions (branch c ss bs) = do_one c ∷ do_conditions bs

-- DO over the values of SET, the arguments of CALL, each DEFAULT, each condition and the value of RETURN
abbrev pub dos_of : Statement → List Statement
dos_of (set_all as') = do_if (values_assigned as')
dos_of (call_procedure n ts) = do_if ts
dos_of (block ds ss) = do_presets ds
dos_of (if_steps bs o) = do_conditions bs
dos_of (while_steps c ss) = do_one c ∷ []
dos_of (return_value t) = do_one t ∷ []
dos_of _ = []

-- ---- what holds of them

pub record IsStepIn (whole step : Statement) : Type 0 where
  pub well : IsTrue (is_well_step step)
  pub less_deep : depth_of step < depth_of whole

pub record IsDoFor (whole one : Statement) : Type 0 where
  pub well : IsTrue (is_whole one)
  pub no_deeper : depth_of one ≤ depth_of whole

-- the steps of a well statement are well and less deep
abbrev pub StepsAreWell : Type 0
StepsAreWell = (s : Statement) → IsTrue (is_well_step s) → All (IsStepIn s) (steps_of s)

-- DO over its expressions is a statement of a session, and no deeper
abbrev pub DosAreWell : Type 0
DosAreWell = (s : Statement) → IsTrue (is_well_step s) → All (IsDoFor s) (dos_of s)
