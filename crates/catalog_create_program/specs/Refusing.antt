-- The error that refuses a stored program, by the rank of its body.
use Rattle.std.specs.Prelude.{ℕ, Bool, cond, ◌==◌, min, map, option_to_list, Option, Some, None}
use Rattle.sql_tree.specs.Statement.{Program, program}
use Rattle.sql_tree.specs.declared.statements.Parameter.{Parameter}
use Rattle.catalog_create_table.specs.catalog_rules.Bodies.{Kind}
use Rattle.catalog_create_program.specs.BodyRanks.{types_rank, body_rank}

-- the error of a rank, or 30009 where there are programs enough
abbrev pub code_by : ℕ → Bool → Option ℕ
code_by rank is_full =
    cond (rank == 0) (Some 1193) (cond (rank == 1) (Some 30005) (cond (rank == 2) (Some 30009) (cond is_full (Some 30009) None)))

-- the same of a trigger, whose table may have one for the same
abbrev pub trigger_code : ℕ → Bool → Bool → Option ℕ
trigger_code rank is_taken is_full = cond (rank == 0) (Some 1193) (cond is_taken (Some 30005) (code_by rank is_full))

-- the rank of a function or procedure: its parameters, its result and its body
unfoldable pub program_rank : Kind → Program → ℕ
program_rank kind (program name parameters returns body) =
    min (types_rank (map (λ (p : Parameter). p.kind) parameters))
    (min (types_rank (option_to_list returns)) (body_rank kind (map (λ (p : Parameter). p.name) parameters) body))
