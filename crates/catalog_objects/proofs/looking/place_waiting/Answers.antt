use Rattle.std.proofs.Common.{rules}
use Rattle.std.proofs.lemmas.List.Sorted.{IsPartitionPoint-from_clause}
use Rattle.catalog_objects.specs.Keys.{Event, event_of, event_order, time_number, cause_number}
use Rattle.catalog_objects.specs.Rising.{is_before}
use Rattle.catalog_objects.proofs.Orders.{events_total, events_exact}
use Rattle.catalog_objects.proofs.Rising.{parted, parts_at}
use Rattle.catalog_objects.proofs.looking.place_waiting.Goals as goal

pub returns : goal.returns
returns c =
    let event : Event = record { table = c.args.table.now; time = time_number c.args.time; event = cause_number c.args.event } in
    parts_at event_of events_total events_exact event c.args.waiting.now c.partition_point.result c.partition_point.ensures.bound
    (IsPartitionPoint-from_clause (is_before event_order event_of event) _ _ c.partition_point.ensures.partitioned (parted event_of events_total events_exact event c.args.waiting.now c.requires) (λ a r q k. search rules))
