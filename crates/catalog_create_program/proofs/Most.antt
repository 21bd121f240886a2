-- No rank of a list is past that of no error.
use Rattle.std.proofs.Common.{◌≡◌, ℕ, min, List, [], ◌∷◌, refl, arith}
use Rattle.sql_tree.specs.Tree.{Tree}
use Rattle.sql_tree.specs.Statement.{Declared, Statements, no_statement, statement, Branches, no_branch, branch}
use Rattle.sql_tree.specs.declared.statements.Target.{Target}
use Rattle.catalog_create_table.specs.catalog_rules.Bodies.{Kind}
use Rattle.catalog_create_program.specs.BodyRanks.{assignments_rank, declared_rank, steps_rank, branches_rank}

step : (a k : ℕ) → min 3 k ≡ k → min 3 (min a k) ≡ min a k
step a k e = omega arith

pub assignments_most : (kind : Kind) (locals : List (List ℕ)) (as' : List (Target × Tree)) → min 3 (assignments_rank kind locals as') ≡ assignments_rank kind locals as'
assignments_most kind locals [] = refl
assignments_most kind locals (a ∷ as') = step _ _ (assignments_most kind locals as')

pub declared_most : (ds : List Declared) → min 3 (declared_rank ds) ≡ declared_rank ds
declared_most [] = refl
declared_most (d ∷ ds) = step _ _ (declared_most ds)

pub steps_most : (kind : Kind) (locals : List (List ℕ)) (ss : Statements) → min 3 (steps_rank kind locals ss) ≡ steps_rank kind locals ss
steps_most kind locals no_statement = refl
steps_most kind locals (statement s ss) = step _ _ (steps_most kind locals ss)

pub branches_most : (kind : Kind) (locals : List (List ℕ)) (bs : Branches) → min 3 (branches_rank kind locals bs) ≡ branches_rank kind locals bs
branches_most kind locals no_branch = refl
branches_most kind locals (branch c ss bs) = step _ _ (branches_most kind locals bs)
