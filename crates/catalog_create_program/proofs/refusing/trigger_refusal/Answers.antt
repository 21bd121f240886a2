use Rattle.std.proofs.Common.{◌∙◌, ap, sym}
use Rattle.sql_tree.specs.Statement.{Trigger, create_trigger}
use Rattle.sql_tree.specs.StatementView.{view_trigger}
use Rattle.catalog_create_program.proofs.RefusedFirst.{ddl_is}
use Rattle.catalog_create_table.specs.catalog_rules.Creating.{first_refusal, trigger_checks}
use Rattle.catalog_objects.specs.Keys.{objects_of}
use Rattle.catalog_objects.proofs.Parts.{trigger_seen}
use Rattle.catalog_create_program.proofs.refusing.trigger_refusal.Goals as goal

pub returns : goal.returns
returns c = c.refusal_for.ensures ∙ ap (λ (t : Trigger). first_refusal (trigger_checks (objects_of c.args.objects.now) t)) (sym (trigger_seen c.args.t.now))
    ∙ ddl_is (objects_of c.args.objects.now) (create_trigger (view_trigger c.args.t.now))
