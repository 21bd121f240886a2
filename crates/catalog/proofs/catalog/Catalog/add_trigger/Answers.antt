use Rattle.std.proofs.Common.{◌≡◌, None, rules, subst, sym}
use Rattle.sql_tree.specs.Statement.{create_trigger}
use Rattle.sql_tree.specs.StatementView.{view_trigger}
use Rattle.sql_tree.specs.declared.statements.TriggerDef.{TriggerDef}
use Rattle.catalog_show_create.specs.catalog_rules.Creating.{ddl_refusal}
use Rattle.catalog_show_create.specs.catalog_objects.declared.object.Object.TheVariants as kinds
use Rattle.catalog_show_create.specs.catalog_objects.Keys.{objects_of}
use Rattle.catalog_show_create.specs.catalog_objects.Lookups.{is_free, is_event_free}
use Rattle.catalog.proofs.Programs.{new_trigger, new_event}
use Rattle.catalog.proofs.catalog.Catalog.add_trigger.Goals as goal

pub add-requires-clause-name : goal.add-requires-clause-name
add-requires-clause-name c =
    let none : ddl_refusal (objects_of c.self.inside.objects) (create_trigger (view_trigger c.args.trigger)) ≡ None = search rules in
    let made : c.in_ok-trigger.trigger ≡ c.args.trigger = search rules in
    subst (λ (t : TriggerDef). is_free (kinds.Trigger t) c.self.inside.objects) (sym made) (new_trigger c.self.inside.objects c.args.trigger none)

pub add-requires-clause-event : goal.add-requires-clause-event
add-requires-clause-event c =
    let none : ddl_refusal (objects_of c.self.inside.objects) (create_trigger (view_trigger c.args.trigger)) ≡ None = search rules in
    let made : c.in_ok-trigger.trigger ≡ c.args.trigger = search rules in
    subst (λ (t : TriggerDef). is_event_free (kinds.Trigger t) c.self.inside.objects) (sym made) (new_event c.self.inside.objects c.args.trigger none)
