use Rattle.std.proofs.Common.{◌≡◌, length}
use Rattle.row_image.specs.log_model.Events.{events_from, stop_from}
use Rattle.row_image.specs.log_model.Groups.{scan, first}
use Rattle.log_groups.specs.Views.{stage_of, place_of, StandsAt}
use Rattle.log_groups.proofs.reading.transaction.Given as goal

abbrev pub invariant-loop-event : goal.invariant-loop-event
invariant-loop-event l = record {
  same : scan (stage_of l.stage) (events_from (place_of l.here)) (stop_from (place_of l.here))
      ≡ scan first (events_from (place_of l.items)) (stop_from (place_of l.items));
  stands : StandsAt l.stage (place_of l.here);
}

abbrev pub decreases-loop-event : goal.decreases-loop-event
decreases-loop-event l = length l.here.bytes.now
