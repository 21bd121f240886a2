-- Steps and expressions of a well statement are well.
use Rattle.std.proofs.Common.{◌≡◌, ℕ, suc, ◌≤◌, true, ◌&&◌, List, [], ◌∷◌, max, not, refl, ap, arith}
use Rattle.std.specs.List.{All, list_all}
use Rattle.std.proofs.lemmas.Bool.{and_parts}
use Rattle.std.proofs.lemmas.List.Elements.{All-nil, All-cons, All-append}
use Rattle.std.proofs.Math.Nat.{le-max_left, le-max_right, max-le}
use Rattle.sql_tree.specs.Tree.{Tree, Trees, no_tree, tree, Part, no_part, part}
use Rattle.sql_tree.specs.Statement.{Declared, program, trigger}
use Rattle.sql_tree.specs.Statement.{Statement, create_table, create_function, create_procedure, create_trigger, drop_table, drop_function, drop_procedure, drop_trigger, truncate, insert_into, replace_into, update_rows, delete_rows, select, evaluate, set_all, call_procedure, begin, commit, rollback, savepoint, rollback_to, release_savepoint, block, if_steps, while_steps, return_value}
use Rattle.sql_tree.specs.Statement.{Statements, no_statement, statement, Branches, no_branch, branch, Otherwise, no_else, else_steps}
use Rattle.sql_tree.specs.Depth.{depth_of, depth_of_tree, depth_of_trees, depth_of_part, depth_of_statements, depth_of_branches, depth_of_otherwise, depth_of_assignments, depth_of_declared, depth_of_declarations}
use Rattle.sql_tree.specs.Well.{is_well_tree, are_well_trees, is_well_part, is_target, is_well_assignment, is_well_declaration, has_item, is_well_step, are_well_steps, are_well_branches, is_well_otherwise, has_branch, has_statement, is_name, has_result}
use Rattle.sql_tree.specs.declared.statements.Target.{Target}
use Rattle.sql_meaning.specs.Within.{listed, branch_steps, else_listed, do_if, do_one, do_part, values_assigned, do_presets, do_conditions, IsStepIn, IsDoFor, StepsAreWell, DosAreWell}

-- ---- the greatest of two

left_within : (a b d : ℕ) → max a b ≤ d → a ≤ d
left_within a b d l = omega (arith, le-max_left a b)

right_within : (a b d : ℕ) → max a b ≤ d → b ≤ d
right_within a b d l = omega (arith, le-max_right a b)

-- ---- steps

module _ (whole : Statement) (d : ℕ) (deep : depth_of whole ≡ suc d) where
  step_in : (s : Statement) → is_well_step s ≡ true → depth_of s ≤ d → IsStepIn whole s
  step_in s e l = record { well = e; less_deep = rw deep (omega arith) }

  pub body_in : (s : Statement) → is_well_step s ≡ true → depth_of s ≤ d → All (IsStepIn whole) (s ∷ [])
  body_in s e l = All-cons (IsStepIn whole) s [] (step_in s e l) (All-nil (IsStepIn whole))

  pub listed_in : (ss : Statements) → are_well_steps ss ≡ true → depth_of_statements ss ≤ d → All (IsStepIn whole) (listed ss)
  listed_in no_statement e l = All-nil (IsStepIn whole)
  listed_in (statement s ss) e l =
      All-cons (IsStepIn whole) s (listed ss)
      (step_in s (and_parts (is_well_step s) (are_well_steps ss) e).0 (left_within (depth_of s) (depth_of_statements ss) d l))
      (listed_in ss (and_parts (is_well_step s) (are_well_steps ss) e).1 (right_within (depth_of s) (depth_of_statements ss) d l))

  pub branches_in : (bs : Branches) → are_well_branches bs ≡ true → depth_of_branches bs ≤ d → All (IsStepIn whole) (branch_steps bs)
  branches_in no_branch e l = All-nil (IsStepIn whole)
  branches_in (branch c ss bs) e l =
      let front = left_within (max (depth_of_tree c) (depth_of_statements ss)) (depth_of_branches bs) d l in
      All-append (IsStepIn whole) (listed ss) (branch_steps bs)
      (listed_in ss (and_parts (is_well_tree c && has_statement ss) (are_well_steps ss) (and_parts _ (are_well_branches bs) e).0).1 (right_within (depth_of_tree c) (depth_of_statements ss) d front))
      (branches_in bs (and_parts _ (are_well_branches bs) e).1 (right_within (max (depth_of_tree c) (depth_of_statements ss)) (depth_of_branches bs) d l))

  pub else_in : (o : Otherwise) → is_well_otherwise o ≡ true → depth_of_otherwise o ≤ d → All (IsStepIn whole) (else_listed o)
  else_in no_else e l = All-nil (IsStepIn whole)
  else_in (else_steps ss) e l = listed_in ss (and_parts (has_statement ss) (are_well_steps ss) e).1 l

no_step : (s : Statement) → All (IsStepIn s) []
no_step s = All-nil (IsStepIn s)

pub steps_well : StepsAreWell
steps_well (create_table t) e = no_step _
steps_well (create_function (program n ps k body)) e = body_in _ (depth_of body) refl body (and_parts _ (is_well_step body) (and_parts (has_result (program n ps k body)) _ e).1).1 (omega arith)
steps_well (create_procedure (program n ps k body)) e = body_in _ (depth_of body) refl body (and_parts _ (is_well_step body) (and_parts (not (has_result (program n ps k body))) _ e).1).1 (omega arith)
steps_well (create_trigger (trigger n time event t body)) e = body_in _ (depth_of body) refl body (and_parts _ (is_well_step body) e).1 (omega arith)
steps_well (drop_table n) e = no_step _
steps_well (drop_function n) e = no_step _
steps_well (drop_procedure n) e = no_step _
steps_well (drop_trigger n) e = no_step _
steps_well (truncate n) e = no_step _
steps_well (insert_into ignore t cs from us) e = no_step _
steps_well (replace_into t cs from) e = no_step _
steps_well (update_rows t ss w os l) e = no_step _
steps_well (delete_rows t w os l) e = no_step _
steps_well (select q) e = no_step _
steps_well (evaluate ts) e = no_step _
steps_well (set_all as') e = no_step _
steps_well (call_procedure n ts) e = no_step _
steps_well begin e = no_step _
steps_well commit e = no_step _
steps_well rollback e = no_step _
steps_well (savepoint n) e = no_step _
steps_well (rollback_to n) e = no_step _
steps_well (release_savepoint n) e = no_step _
steps_well (block ds ss) e = listed_in _ _ refl ss (and_parts (list_all is_well_declaration ds) (are_well_steps ss) e).1 (le-max_right (depth_of_declarations ds) (depth_of_statements ss))
steps_well (if_steps bs o) e =
    All-append (IsStepIn (if_steps bs o)) (branch_steps bs) (else_listed o)
    (branches_in (if_steps bs o) _ refl bs (and_parts (has_branch bs) (are_well_branches bs) (and_parts _ (is_well_otherwise o) e).0).1 (le-max_left (depth_of_branches bs) (depth_of_otherwise o)))
    (else_in (if_steps bs o) _ refl o (and_parts _ (is_well_otherwise o) e).1 (le-max_right (depth_of_branches bs) (depth_of_otherwise o)))
steps_well (while_steps c ss) e = listed_in _ _ refl ss (and_parts _ (are_well_steps ss) e).1 (le-max_right (depth_of_tree c) (depth_of_statements ss))
steps_well (return_value t) e = no_step _

-- ---- expressions

module _ (whole : Statement) (d : ℕ) (deep : depth_of whole ≡ suc d) where
  do_for : (t : Tree) (ts : Trees) → (is_well_tree t && are_well_trees ts) ≡ true → depth_of_trees (tree t ts) ≤ d → IsDoFor whole (evaluate (tree t ts))
  do_for t ts e l = record { well = e; no_deeper = rw deep (omega arith) }

  one_for : (t : Tree) → is_well_tree t ≡ true → depth_of_tree t ≤ d → IsDoFor whole (do_one t)
  one_for t e l = do_for t no_tree (rw e refl) (max-le l (omega arith))

  pub alone_for : (t : Tree) → is_well_tree t ≡ true → depth_of_tree t ≤ d → All (IsDoFor whole) (do_one t ∷ [])
  alone_for t e l = All-cons (IsDoFor whole) (do_one t) [] (one_for t e l) (All-nil (IsDoFor whole))

  pub if_for : (ts : Trees) → are_well_trees ts ≡ true → depth_of_trees ts ≤ d → All (IsDoFor whole) (do_if ts)
  if_for no_tree e l = All-nil (IsDoFor whole)
  if_for (tree t ts) e l = All-cons (IsDoFor whole) (evaluate (tree t ts)) [] (do_for t ts e l) (All-nil (IsDoFor whole))

  part_for : (o : Part) → is_well_part o ≡ true → depth_of_part o ≤ d → All (IsDoFor whole) (do_part o)
  part_for no_part e l = All-nil (IsDoFor whole)
  part_for (part t) e l = alone_for t e l

  pub presets_for : (ds : List Declared) → list_all is_well_declaration ds ≡ true → depth_of_declarations ds ≤ d → All (IsDoFor whole) (do_presets ds)
  presets_for [] e l = All-nil (IsDoFor whole)
  presets_for (x ∷ ds) e l =
      All-append (IsDoFor whole) (do_part x.preset) (do_presets ds)
      (part_for x.preset (and_parts _ (is_well_part x.preset) (and_parts (is_well_declaration x) _ e).0).1 (left_within (depth_of_declared x) (depth_of_declarations ds) d l))
      (presets_for ds (and_parts (is_well_declaration x) _ e).1 (right_within (depth_of_declared x) (depth_of_declarations ds) d l))

  pub conditions_for : (bs : Branches) → are_well_branches bs ≡ true → depth_of_branches bs ≤ d → All (IsDoFor whole) (do_conditions bs)
  conditions_for no_branch e l = All-nil (IsDoFor whole)
  conditions_for (branch c ss bs) e l =
      let front = left_within (max (depth_of_tree c) (depth_of_statements ss)) (depth_of_branches bs) d l in
      All-cons (IsDoFor whole) (do_one c) (do_conditions bs)
      (one_for c (and_parts (is_well_tree c) (has_statement ss) (and_parts _ (are_well_steps ss) (and_parts _ (are_well_branches bs) e).0).0).0 (left_within (depth_of_tree c) (depth_of_statements ss) d front))
      (conditions_for bs (and_parts _ (are_well_branches bs) e).1
      (right_within (max (depth_of_tree c) (depth_of_statements ss)) (depth_of_branches bs) d l))

-- the values of SET are well, and as deep as the assignments
assigned_well : (as' : List (Target × Tree)) → list_all is_well_assignment as' ≡ true → are_well_trees (values_assigned as') ≡ true
assigned_well [] e = refl
assigned_well (a ∷ as') e =
    rw (and_parts (is_target a.0) (is_well_tree a.1) (and_parts (is_well_assignment a) (list_all is_well_assignment as') e).0).1
    (assigned_well as' (and_parts (is_well_assignment a) (list_all is_well_assignment as') e).1)

assigned_deep : (as' : List (Target × Tree)) → depth_of_trees (values_assigned as') ≡ depth_of_assignments as'
assigned_deep [] = refl
assigned_deep (a ∷ as') = ap (max (depth_of_tree a.1)) (assigned_deep as')

no_do : (s : Statement) → All (IsDoFor s) []
no_do s = All-nil (IsDoFor s)

pub dos_well : DosAreWell
dos_well (create_table t) e = no_do _
dos_well (create_function p) e = no_do _
dos_well (create_procedure p) e = no_do _
dos_well (create_trigger t) e = no_do _
dos_well (drop_table n) e = no_do _
dos_well (drop_function n) e = no_do _
dos_well (drop_procedure n) e = no_do _
dos_well (drop_trigger n) e = no_do _
dos_well (truncate n) e = no_do _
dos_well (insert_into ignore t cs from us) e = no_do _
dos_well (replace_into t cs from) e = no_do _
dos_well (update_rows t ss w os l) e = no_do _
dos_well (delete_rows t w os l) e = no_do _
dos_well (select q) e = no_do _
dos_well (evaluate ts) e = no_do _
dos_well (set_all as') e =
    if_for (set_all as') (depth_of_assignments as') refl (values_assigned as') (assigned_well as' (and_parts (has_item as') _ e).1) (rw (assigned_deep as') (omega arith))
dos_well (call_procedure n ts) e = if_for (call_procedure n ts) (depth_of_trees ts) refl ts (and_parts (is_name n) (are_well_trees ts) e).1 (omega arith)
dos_well begin e = no_do _
dos_well commit e = no_do _
dos_well rollback e = no_do _
dos_well (savepoint n) e = no_do _
dos_well (rollback_to n) e = no_do _
dos_well (release_savepoint n) e = no_do _
dos_well (block ds ss) e = presets_for (block ds ss) _ refl ds (and_parts (list_all is_well_declaration ds) (are_well_steps ss) e).0 (le-max_left (depth_of_declarations ds) (depth_of_statements ss))
dos_well (if_steps bs o) e = conditions_for (if_steps bs o) _ refl bs (and_parts (has_branch bs) (are_well_branches bs) (and_parts _ (is_well_otherwise o) e).0).1 (le-max_left (depth_of_branches bs) (depth_of_otherwise o))
dos_well (while_steps c ss) e = alone_for (while_steps c ss) _ refl c (and_parts (is_well_tree c) (has_statement ss) (and_parts _ (are_well_steps ss) e).0).0 (le-max_left (depth_of_tree c) (depth_of_statements ss))
dos_well (return_value t) e = alone_for (return_value t) (depth_of_tree t) refl t e (omega arith)
