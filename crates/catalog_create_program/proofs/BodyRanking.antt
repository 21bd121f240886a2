-- One walk over a body finds the error that comes first.
use Rattle.std.proofs.Common.{◌≡◌, ℕ, Bool, true, false, ◌||◌, ◌&&◌, cond, min, List, [], ◌∷◌, ◌++◌, map, Option, Some, None, refl, sym, ap, ◌∙◌, arith}
use Rattle.std.specs.Prelude.{flat_map, ◌==◌}
use Rattle.std.specs.List.{list_any}
use Rattle.std.proofs.lemmas.List.Folds.{list_any-append}
use Rattle.sql_tree.specs.Tree.{Tree}
use Rattle.sql_tree.specs.Statement.{Declared}
use Rattle.sql_tree.specs.Statement.{Statement, create_table, create_function, create_procedure, create_trigger, drop_table, drop_function, drop_procedure, drop_trigger, truncate, insert_into, replace_into, update_rows, delete_rows, select, evaluate, set_all, call_procedure, begin, commit, rollback, savepoint, rollback_to, release_savepoint, block, if_steps, while_steps, return_value}
use Rattle.sql_tree.specs.Statement.{Statements, no_statement, statement, Branches, no_branch, branch, Otherwise, no_else, else_steps}
use Rattle.sql_tree.specs.declared.statements.SqlType.{SqlType}
use Rattle.sql_tree.specs.declared.statements.Target.{Target}
use Rattle.catalog_create_table.specs.catalog_rules.Names.{is_among}
use Rattle.catalog_create_table.specs.catalog_rules.Bodies.{Kind, is_of_function, is_of_procedure, writes_new_row, session_variables, declared_names, has_code, allowed, variable_codes, target_codes, assignment_codes, body_codes, steps_codes, branches_codes, otherwise_codes, declared_types, types_in_steps, types_in_branches, types_in_otherwise}
use Rattle.catalog_create_table.specs.catalog_rules.Creating.{is_ill_type}
use Rattle.catalog_create_program.specs.BodyRanks.{met_rank, types_rank, allowed_rank, variable_rank, target_rank, assignments_rank, type_rank, declared_rank, body_rank, steps_rank, branches_rank, otherwise_rank}

met_step : (a b c d : Bool) → cond (a || b) 0 (cond (c || d) 1 3) ≡ min (cond a 0 (cond c 1 3)) (cond b 0 (cond d 1 3))
met_step true true true true = refl
met_step true true true false = refl
met_step true true false true = refl
met_step true true false false = refl
met_step true false true true = refl
met_step true false true false = refl
met_step true false false true = refl
met_step true false false false = refl
met_step false true true true = refl
met_step false true true false = refl
met_step false true false true = refl
met_step false true false false = refl
met_step false false true true = refl
met_step false false true false = refl
met_step false false false true = refl
met_step false false false false = refl

met_append : (xs ys : List ℕ) → met_rank (xs ++ ys) ≡ min (met_rank xs) (met_rank ys)
met_append xs ys =
    let first = list_any-append (λ (one : ℕ). one == 1193) xs ys in
    let second = list_any-append (λ (one : ℕ). one == 30005) xs ys in
    (λ i. cond (first i) 0 (cond (second i) 1 3)) ∙ met_step (has_code xs 1193) (has_code ys 1193) (has_code xs 30005) (has_code ys 30005)

types_step : (a b : Bool) → cond (a || b) 2 3 ≡ min (cond a 2 3) (cond b 2 3)
types_step true true = refl
types_step true false = refl
types_step false true = refl
types_step false false = refl

pub types_append : (xs ys : List SqlType) → types_rank (xs ++ ys) ≡ min (types_rank xs) (types_rank ys)
types_append xs ys = ap (λ (b : Bool). cond b 2 3) (list_any-append is_ill_type xs ys) ∙ types_step (list_any is_ill_type xs) (list_any is_ill_type ys)

-- errors and types together
abbrev pub both : List ℕ → List SqlType → ℕ
both met kinds = min (met_rank met) (types_rank kinds)

shuffle : (a b c d : ℕ) → min (min a b) (min c d) ≡ min (min a c) (min b d)
shuffle a b c d = omega arith

two : (xs ys : List ℕ) (ks ls : List SqlType) (a b : ℕ) → a ≡ both xs ks → b ≡ both ys ls → min a b ≡ both (xs ++ ys) (ks ++ ls)
two xs ys ks ls a b e f =
    (λ i. min (e i) (f i)) ∙ shuffle (met_rank xs) (types_rank ks) (met_rank ys) (types_rank ls)
    ∙ (λ i. min (sym (met_append xs ys) i) (sym (types_append ks ls) i))

allowed_law : (b : Bool) → allowed_rank b ≡ both (allowed b) []
allowed_law true = refl
allowed_law false = refl

variable_step : (b : Bool) → cond b 1 0 ≡ met_rank (cond b (30005 ∷ []) (1193 ∷ []))
variable_step true = refl
variable_step false = refl

plain_step : (b c : Bool) → cond b 3 (cond c 1 0) ≡ met_rank (cond b [] (cond c (30005 ∷ []) (1193 ∷ [])))
plain_step true c = refl
plain_step false c = variable_step c

allowed_met : (b : Bool) → allowed_rank b ≡ met_rank (allowed b)
allowed_met true = refl
allowed_met false = refl

target_law : (kind : Kind) (locals : List (List ℕ)) (t : Target) → target_rank kind locals t ≡ met_rank (target_codes kind locals t)
target_law kind locals (Target.User name) = allowed_met (is_of_procedure kind)
target_law kind locals (Target.New name) = allowed_met (writes_new_row kind)
target_law kind locals (Target.Plain name) = plain_step (is_among locals name) (is_among session_variables name)
target_law kind locals (Target.System name) = variable_step (is_among session_variables name)

assignments_law : (kind : Kind) (locals : List (List ℕ)) (as' : List (Target × Tree)) → assignments_rank kind locals as' ≡ met_rank (flat_map (assignment_codes kind locals) as')
assignments_law kind locals [] = refl
assignments_law kind locals (a ∷ as') =
    (λ i. min (target_law kind locals a.0 i) (assignments_law kind locals as' i))
    ∙ sym (met_append (assignment_codes kind locals a) (flat_map (assignment_codes kind locals) as'))

declared_law : (ds : List Declared) → declared_rank ds ≡ types_rank (map (λ (d : Declared). d.kind) ds)
declared_law [] = refl
declared_law (d ∷ ds) = ap (λ (k : ℕ). min (type_rank d.kind) k) (declared_law ds) ∙ sym (types_step (is_ill_type d.kind) (list_any is_ill_type (map (λ (d : Declared). d.kind) ds)))

met_only : (met : List ℕ) → met_rank met ≡ both met []
met_only met = step (has_code met 1193) (has_code met 30005)
  where
    step : (a b : Bool) → cond a 0 (cond b 1 3) ≡ min (cond a 0 (cond b 1 3)) 3
    step true b = refl
    step false true = refl
    step false false = refl

gather : (t m k : ℕ) → min t (min m k) ≡ min m (min t k)
gather t m k = omega arith

mutual
  pub body_law : (kind : Kind) (locals : List (List ℕ)) (s : Statement) → body_rank kind locals s ≡ both (body_codes kind locals s) (declared_types s)
  body_law kind locals (create_table t) = refl
  body_law kind locals (create_function p) = refl
  body_law kind locals (create_procedure p) = refl
  body_law kind locals (create_trigger t) = refl
  body_law kind locals (drop_table n) = refl
  body_law kind locals (drop_function n) = refl
  body_law kind locals (drop_procedure n) = refl
  body_law kind locals (drop_trigger n) = refl
  body_law kind locals (truncate n) = refl
  body_law kind locals (insert_into ignore t cs from us) = refl
  body_law kind locals (replace_into t cs from) = refl
  body_law kind locals (update_rows t ss w os l) = refl
  body_law kind locals (delete_rows t w os l) = refl
  body_law kind locals (select q) = allowed_law (is_of_procedure kind)
  body_law kind locals (evaluate ts) = refl
  body_law kind locals (set_all as') = assignments_law kind locals as' ∙ met_only (flat_map (assignment_codes kind locals) as')
  body_law kind locals (call_procedure n ts) = allowed_law (is_of_procedure kind)
  body_law kind locals begin = refl
  body_law kind locals commit = refl
  body_law kind locals rollback = refl
  body_law kind locals (savepoint n) = refl
  body_law kind locals (rollback_to n) = refl
  body_law kind locals (release_savepoint n) = refl
  body_law kind locals (block ds ss) =
      let met = met_rank (steps_codes kind (declared_names ds ++ locals) ss) in
      let types = types_rank (types_in_steps ss) in
      let own = types_rank (map (λ (d : Declared). d.kind) ds) in
      (λ i. min (declared_law ds i) (steps_law kind (declared_names ds ++ locals) ss i))
      ∙ gather own met types
      ∙ ap (λ (k : ℕ). min met k) (sym (types_append (map (λ (d : Declared). d.kind) ds) (types_in_steps ss)))
  body_law kind locals (if_steps bs o) = two (branches_codes kind locals bs) (otherwise_codes kind locals o) (types_in_branches bs) (types_in_otherwise o) _ _ (branches_law kind locals bs) (otherwise_law kind locals o)
  body_law kind locals (while_steps c ss) = steps_law kind locals ss
  body_law kind locals (return_value e) = allowed_law (is_of_function kind)

  steps_law : (kind : Kind) (locals : List (List ℕ)) (ss : Statements) → steps_rank kind locals ss ≡ both (steps_codes kind locals ss) (types_in_steps ss)
  steps_law kind locals no_statement = refl
  steps_law kind locals (statement s ss) = two (body_codes kind locals s) (steps_codes kind locals ss) (declared_types s) (types_in_steps ss) _ _ (body_law kind locals s) (steps_law kind locals ss)

  branches_law : (kind : Kind) (locals : List (List ℕ)) (bs : Branches) → branches_rank kind locals bs ≡ both (branches_codes kind locals bs) (types_in_branches bs)
  branches_law kind locals no_branch = refl
  branches_law kind locals (branch c ss bs) = two (steps_codes kind locals ss) (branches_codes kind locals bs) (types_in_steps ss) (types_in_branches bs) _ _ (steps_law kind locals ss) (branches_law kind locals bs)

  otherwise_law : (kind : Kind) (locals : List (List ℕ)) (o : Otherwise) → otherwise_rank kind locals o ≡ both (otherwise_codes kind locals o) (types_in_otherwise o)
  otherwise_law kind locals no_else = refl
  otherwise_law kind locals (else_steps ss) = steps_law kind locals ss
