use Rattle.std.proofs.Common.{◌≡◌, ◌++◌, [], length, map}
use Rattle.event_codec.specs.Event.{map_of}
use Rattle.log_reader.specs.log_model.Events.{events_from}
use Rattle.log_reader.specs.log_file_model.Printed.{lines_from}
use Rattle.print_log.proofs.lines.put_lines.Given as goal

abbrev pub invariant-loop-event : goal.invariant-loop-event
invariant-loop-event l =
    l.lines ++ lines_from (map map_of l.maps) (events_from (record { bytes = l.rest; pos = l.pos }))
    ≡ l.fn.lines ++ lines_from [] (events_from (record { bytes = l.bytes; pos = l.begin }))

abbrev pub decreases-loop-event : goal.decreases-loop-event
decreases-loop-event l = length l.rest
