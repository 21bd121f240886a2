use Rattle.std.proofs.Common.{◌≡◌, None, rules, subst, sym}
use Rattle.sql_tree.specs.Statement.{create_procedure}
use Rattle.sql_tree.specs.StatementView.{view_program}
use Rattle.sql_tree.specs.declared.statements.Routine.{Routine}
use Rattle.catalog_show_create.specs.catalog_rules.Creating.{ddl_refusal}
use Rattle.catalog_show_create.specs.catalog_objects.declared.object.Object.TheVariants as kinds
use Rattle.catalog_show_create.specs.catalog_objects.Keys.{objects_of}
use Rattle.catalog_show_create.specs.catalog_objects.Lookups.{is_free}
use Rattle.catalog.proofs.Programs.{new_procedure}
use Rattle.catalog.proofs.catalog.Catalog.add_procedure.Goals as goal

pub add-requires-clause-name : goal.add-requires-clause-name
add-requires-clause-name c =
    let none : ddl_refusal (objects_of c.self.inside.objects) (create_procedure (view_program c.args.routine)) ≡ None = search rules in
    let made : c.in_ok-routine.routine ≡ c.args.routine = search rules in
    subst (λ (p : Routine). is_free (kinds.Procedure p) c.self.inside.objects) (sym made) (new_procedure c.self.inside.objects c.args.routine none)
