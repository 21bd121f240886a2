use Rattle.std.proofs.Common.{ap, ◌∙◌, List}
use Rattle.std.specs.Prelude.{Option}
use Rattle.std.specs.Option.{option_map}
use Rattle.sql_tree.specs.StatementView.{view_trigger}
use Rattle.sql_tree.specs.declared.statements.TriggerDef.{TriggerDef}
use Rattle.catalog_objects.specs.declared.object.Object.{Object}
use Rattle.catalog_objects.specs.Keys.{Event, time_number, cause_number, triggers_in}
use Rattle.catalog_objects.specs.Lookups.{waiting_for}
use Rattle.catalog_objects.proofs.Found.{waiting_found}
use Rattle.catalog_objects.proofs.objects.Objects.trigger.Goals as goal

pub returns : goal.returns
returns c =
    let event : Event = record { table = c.args.table.now; time = time_number c.args.time; event = cause_number c.args.event } in
    ap (λ (t : Option TriggerDef). option_map view_trigger t)
    (c.trigger_for.ensures ∙ ap (λ (ts : List TriggerDef). waiting_for ts c.args.table.now c.args.time c.args.event) c.deref.ensures.value
    ∙ c.self.invariant.events.same event
    ∙ ap (λ (os : List Object). waiting_for (triggers_in os) c.args.table.now c.args.time c.args.event) c.self.view_is)
    ∙ waiting_found c.args.self.now c.args.table.now c.args.time c.args.event
