use Rattle.std.proofs.Common.{◌≡◌, ◌∙◌, ap, sym, min, rules}
use Rattle.sql_tree.specs.StatementView.{view}
use Rattle.catalog_objects.proofs.Parts.{program_seen}
use Rattle.catalog_create_program.specs.Refusing.{program_rank}
use Rattle.catalog_create_program.specs.Kinds.{kind_of}
use Rattle.catalog_create_program.proofs.RefusedFirst.{rank_of_parts}
use Rattle.catalog_create_program.proofs.refusing.program_rank.Goals as goal

pub returns : goal.returns
returns c =
    let routine = c.args.routine.now in
    let kind = kind_of c.args.kind in
    let is : c.min.result ≡ min c.parameters_rank.result (min c.result_rank.result c.routine_rank-steps.result) = search rules in
    is ∙ (λ i. min (c.parameters_rank.ensures i) (min (c.result_rank.ensures i) (c.routine_rank-steps.ensures i)))
    ∙ rank_of_parts kind routine.name routine.parameters routine.returns (view routine.body) ∙ ap (program_rank kind) (sym (program_seen routine))
