use Rattle.std.proofs.Common.{◌≡◌, ◌+◌, map, drop}
use Rattle.event_codec.specs.Event.{table_map}
use Rattle.log_model.specs.Items.{at_time, maps_from}
use Rattle.row_events.specs.Writing.{GoesOn}
use Rattle.row_events.proofs.maps.put_maps.Given as goal

abbrev pub invariant-loop-name : goal.invariant-loop-name
invariant-loop-name l = record {
  count : l.id ≡ l.name-index + 1;
  goes : GoesOn (at_time l.fn.h.stamp (map table_map (maps_from 1 l.defs l.names))) (at_time l.fn.h.stamp (map table_map (maps_from l.id l.defs (drop l.name-index l.names)))) l.fn.h l.here l.fn.out l.out;
}
