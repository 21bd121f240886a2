use Rattle.std.proofs.Common.{◌≡◌, ◌∙◌, rules}
use Rattle.std.specs.Ordering.{is_gt}
use Rattle.catalog_objects.specs.Keys.{Event, event_of, event_order, time_number, cause_number}
use Rattle.catalog_objects.proofs.Orders.{events_total, events_exact}
use Rattle.catalog_objects.proofs.Rising.{is_before_gt}
use Rattle.catalog_objects.proofs.looking.waits_before.Goals as goal

pub returns : goal.returns
returns c =
    let event : Event = record { table = c.args.table.now; time = time_number c.args.time; event = cause_number c.args.event } in
    let gt : c.is_gt.result ≡ is_gt (event_order event (event_of c.args.trigger.now)) = search rules in
    gt ∙ is_before_gt event_of events_total events_exact event c.args.trigger.now
