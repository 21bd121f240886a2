use Rattle.std.proofs.Common.{◌≡◌, ◌+◌, refl, map}
use Rattle.event_codec.specs.Event.{map_of, seen}
use Rattle.log_reader.specs.log_model.Events.{Place, past}
use Rattle.print_log.proofs.Shown.{line_more, lines_over}
use Rattle.print_log.proofs.lines.put_lines.Goals as goal

pub loop-event-init : goal.loop-event-init
loop-event-init c = rw c.new-maps.ensures refl

pub loop-event-preserved : goal.loop-event-preserved
loop-event-preserved c =
    let here : Place = record { bytes = c.loop-event.rest.now; pos = c.loop-event.pos } in
    let behind : Place = record { bytes = c.split_at.result.1.now; pos = c.loop-event.pos + c.length-pos.result } in
    let place : behind ≡ past (seen c.in-Event.event) here = rw (c.split_at.ensures.back, c.length.ensures, c.length-pos.ensures) refl in
    line_more (map map_of c.loop-event.maps) (map map_of c.keep_maps.new.maps) here behind (seen c.in-Event.event) c.loop-event.lines c.put_line.new.lines _ c.in-Event.ensures.exact
    (rw (← c.as_slice.ensures) c.in_ok-put_line.ensures) c.in_ok-keep_maps.ensures place c.loop-event.invariant

pub returns : goal.returns
returns c =
    lines_over (map map_of c.loop-event.maps) (record { bytes = c.loop-event.rest.now; pos = c.loop-event.pos }) c.loop-event.lines _ c.read_event.result c.in_default.not-Event
    c.read_event.ensures.exact c.loop-event.invariant
