use Rattle.std.proofs.Common.{◌≡◌, length}
use Rattle.event_codec.specs.Event.{map_of}
use Rattle.log_model.specs.Images.{changes_at, map_types}
use Rattle.row_image.proofs.fitting.are_changes.Given as goal

abbrev pub invariant-loop-rest : goal.invariant-loop-rest
invariant-loop-rest l = (changes_at l.kind l.map.name.now (map_types (map_of l.map)) l.rest).1 ≡ (changes_at l.kind l.map.name.now (map_types (map_of l.map)) l.fn.bytes).1

abbrev pub decreases-loop-rest : goal.decreases-loop-rest
decreases-loop-rest l = length l.rest
