use Rattle.std.proofs.Common.{◌≡◌, ◌++◌, length}
use Rattle.event_codec.specs.Event.{map_of, rows_of}
use Rattle.log_model.specs.Images.{changes_at, changes_of, map_types}
use Rattle.row_image.proofs.changes.rows_of.Given as goal

abbrev pub invariant-loop-rest : goal.invariant-loop-rest
invariant-loop-rest l = l.changes ++ (changes_at l.event.kind l.map.name.now (map_types (map_of l.map)) l.rest).0 ≡ changes_of (map_of l.map) (rows_of l.event)

abbrev pub decreases-loop-rest : goal.decreases-loop-rest
decreases-loop-rest l = length l.rest
