use Rattle.std.proofs.Common.{◌∙◌, sym, Some}
use Rattle.std.specs.Prelude.{if◌then◌else◌, nat_le}
use Rattle.sql_tree.specs.Statement.{create_function}
use Rattle.sql_tree.specs.StatementView.{view_program}
use Rattle.catalog_create_table.specs.catalog_rules.Bodies.{of_function}
use Rattle.catalog_create_table.specs.catalog_rules.Objects.{count_of_programs}
use Rattle.catalog_objects.specs.Keys.{objects_of}
use Rattle.catalog_create_program.proofs.RefusedFirst.{ddl_is, program_refused}
use Rattle.catalog_create_program.proofs.refusing.function_refusal.Goals as goal

pub returns : goal.returns
returns c =
    let rest = c.program_code-rest.ensures ∙ sym (program_refused of_function (view_program c.args.routine.now) (nat_le 1000 (count_of_programs (objects_of c.args.objects.now)))) in
    c.refused.ensures ∙ (λ i. if c.is_function.ensures i then Some 1304 else rest i)
    ∙ ddl_is (objects_of c.args.objects.now) (create_function (view_program c.args.routine.now))
