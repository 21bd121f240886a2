use Rattle.std.proofs.Common.{◌∙◌}
use Rattle.sql_tree.specs.StatementView.{view}
use Rattle.catalog_show_create.specs.catalog_objects.Keys.{objects_of}
use Rattle.catalog_create_program.proofs.RefusedFirst.{ddl_is}
use Rattle.catalog.proofs.refusing.removal_refusal.Goals as goal

pub returns : goal.returns
returns c = c.removal_check.ensures ∙ ddl_is (objects_of c.args.objects.now) (view c.args.s.now)
