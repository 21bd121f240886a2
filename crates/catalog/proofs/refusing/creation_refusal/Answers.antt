use Rattle.std.proofs.Common.{◌∙◌}
use Rattle.sql_tree.specs.Statement.{create_table}
use Rattle.catalog_show_create.specs.catalog_objects.Keys.{objects_of}
use Rattle.catalog_create_program.proofs.RefusedFirst.{ddl_is}
use Rattle.catalog.proofs.refusing.creation_refusal.Goals as goal

pub returns : goal.returns
returns c = c.table_refusal.ensures ∙ ddl_is (objects_of c.args.objects.now) (create_table c.args.t.now)
