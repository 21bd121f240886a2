use Rattle.std.proofs.Common.{◌≡◌, drop, map}
use Rattle.event_codec.specs.Event.{map_of}
use Rattle.log_reader.specs.log_model.Groups.{find}
use Rattle.print_log.proofs.lines.find.Given as goal

abbrev pub invariant-loop-map : goal.invariant-loop-map
invariant-loop-map l = find l.id (map map_of (drop l.map-index l.maps)) ≡ find l.id (map map_of l.maps)
