use Rattle.std.proofs.Common.{ap, ◌∙◌}
use Rattle.std.specs.Prelude.{Option}
use Rattle.std.specs.Option.{option_map}
use Rattle.sql_tree.specs.StatementView.{view_trigger}
use Rattle.sql_tree.specs.declared.statements.TriggerDef.{TriggerDef}
use Rattle.catalog_objects.specs.Lookups.{trigger_if_some}
use Rattle.catalog_objects.proofs.Found.{trigger_named as found}
use Rattle.catalog_objects.proofs.objects.Objects.trigger_named.Goals as goal

pub returns : goal.returns
returns c = ap (λ (t : Option TriggerDef). option_map view_trigger t) (c.trigger_if.ensures ∙ ap trigger_if_some c.find.ensures) ∙ found c.args.self.now c.args.name.now
