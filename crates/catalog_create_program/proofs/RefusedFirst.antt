-- What the walk over a body finds is the error of the first check that refuses the program.
use Rattle.std.proofs.Common.{◌≡◌, ℕ, Bool, true, false, ◌||◌, cond, min, map, List, [], ◌∷◌, ◌++◌, Option, Some, None, refl, sym, ap, ◌∙◌, arith}
use Rattle.std.specs.Prelude.{option_to_list}
use Rattle.std.specs.List.{list_any}
use Rattle.sql_tree.specs.Statement.{Statement, Program, program}
use Rattle.sql_tree.specs.declared.statements.SqlType.{SqlType}
use Rattle.sql_tree.specs.declared.statements.Parameter.{Parameter}
use Rattle.catalog_create_table.specs.catalog_rules.Bodies.{Kind, body_codes, declared_types, has_code}
use Rattle.catalog_create_table.specs.catalog_rules.Objects.{Object, body_of}
use Rattle.catalog_create_table.specs.catalog_rules.Creating.{is_ill_type, first_refusal, ddl_checks, ddl_refusal, parameter_names, program_types}
use Rattle.catalog_create_program.specs.BodyRanks.{met_rank, types_rank, body_rank}
use Rattle.catalog_create_program.specs.Refusing.{code_by, trigger_code, program_rank}
use Rattle.catalog_create_program.proofs.BodyRanking.{body_law, types_append}

gather : (m k r b : ℕ) → min k (min r (min m b)) ≡ min m (min (min k r) b)
gather m k r b = omega arith

-- the types of parameters, result and body with the errors of the body
all_ranks :
    (kind : Kind) (locals : List (List ℕ)) (s : Statement) (ks rs : List SqlType)
    → min (types_rank ks) (min (types_rank rs) (body_rank kind locals s)) ≡ min (met_rank (body_codes kind locals s)) (types_rank (ks ++ rs ++ declared_types s))
all_ranks kind locals s ks rs =
    ap (λ (b : ℕ). min (types_rank ks) (min (types_rank rs) b)) (body_law kind locals s)
    ∙ gather (met_rank (body_codes kind locals s)) (types_rank ks) (types_rank rs) (types_rank (declared_types s))
    ∙ ap (λ (t : ℕ). min (met_rank (body_codes kind locals s)) (min t (types_rank (declared_types s)))) (sym (types_append ks rs))
    ∙ ap (λ (t : ℕ). min (met_rank (body_codes kind locals s)) t) (sym (types_append (ks ++ rs) (declared_types s)))

refused_step :
    (a b c is_full : Bool)
    → first_refusal ((1193, a) ∷ (30005, b) ∷ (30009, c || is_full) ∷ []) ≡ code_by (min (cond a 0 (cond b 1 3)) (cond c 2 3)) is_full
refused_step true true true is_full = refl
refused_step true true false is_full = refl
refused_step true false true is_full = refl
refused_step true false false is_full = refl
refused_step false true true is_full = refl
refused_step false true false is_full = refl
refused_step false false true is_full = refl
refused_step false false false true = refl
refused_step false false false false = refl

trigger_step :
    (a b c is_taken is_full : Bool)
    → first_refusal ((1193, a) ∷ (30005, b || is_taken) ∷ (30009, c || is_full) ∷ []) ≡ trigger_code (min (cond a 0 (cond b 1 3)) (cond c 2 3)) is_taken is_full
trigger_step true b true is_taken is_full = refl
trigger_step true b false is_taken is_full = refl
trigger_step false true true true is_full = refl
trigger_step false true true false is_full = refl
trigger_step false true false true is_full = refl
trigger_step false true false false is_full = refl
trigger_step false false true true is_full = refl
trigger_step false false true false is_full = refl
trigger_step false false false true is_full = refl
trigger_step false false false false true = refl
trigger_step false false false false false = refl

-- the checks of a function or procedure behind that of its name
pub program_refused :
    (kind : Kind) (p : Program) (is_full : Bool)
    → first_refusal
    ((1193, has_code (body_codes kind (parameter_names p) (body_of p)) 1193) ∷ (30005, has_code (body_codes kind (parameter_names p) (body_of p)) 30005)
    ∷ (30009, list_any is_ill_type (program_types p) || is_full) ∷ [])
    ≡ code_by (program_rank kind p) is_full
unfolding program_rank
program_refused kind (program name parameters returns body) is_full =
    let names = map (λ (q : Parameter). q.name) parameters in
    let met = body_codes kind names body in
    let own = map (λ (q : Parameter). q.kind) parameters in
    let types = own ++ option_to_list returns ++ declared_types body in
    refused_step (has_code met 1193) (has_code met 30005) (list_any is_ill_type types) is_full
    ∙ ap (λ (rank : ℕ). code_by rank is_full) (sym (all_ranks kind names body own (option_to_list returns)))

-- the checks of a trigger behind those of its table and its name
pub trigger_refused :
    (kind : Kind) (s : Statement) (is_taken is_full : Bool)
    → first_refusal
    ((1193, has_code (body_codes kind [] s) 1193) ∷ (30005, has_code (body_codes kind [] s) 30005 || is_taken)
    ∷ (30009, list_any is_ill_type (declared_types s) || is_full) ∷ [])
    ≡ trigger_code (body_rank kind [] s) is_taken is_full
trigger_refused kind s is_taken is_full =
    trigger_step (has_code (body_codes kind [] s) 1193) (has_code (body_codes kind [] s) 30005) (list_any is_ill_type (declared_types s)) is_taken is_full
    ∙ ap (λ (rank : ℕ). trigger_code rank is_taken is_full) (sym (body_law kind [] s))

-- the rank of a program by its parts
pub rank_of_parts :
    (kind : Kind) (name : List ℕ) (parameters : List Parameter) (returns : Option SqlType) (body : Statement)
    → min (types_rank (map (λ (p : Parameter). p.kind) parameters))
    (min (types_rank (option_to_list returns)) (body_rank kind (map (λ (p : Parameter). p.name) parameters) body))
    ≡ program_rank kind (program name parameters returns body)
unfolding program_rank
rank_of_parts kind name parameters returns body = refl

-- what refuses a statement is its first check
pub ddl_is : (catalog : List Object) (s : Statement) → first_refusal (ddl_checks catalog s) ≡ ddl_refusal catalog s
unfolding ddl_refusal
ddl_is catalog s = refl
