use Rattle.std.proofs.Common.{◌≡◌, ◌-◌, take}
use Rattle.row_image.specs.log_model.Groups.{find}
use Rattle.log_groups.specs.Views.{parts, maps_in}
use Rattle.log_groups.proofs.items.find_map.Given as goal

abbrev pub invariant-loop-step : goal.invariant-loop-step
invariant-loop-step l = find l.id (maps_in (take (l.count - l._step) (parts l.walk))) ≡ find l.id (maps_in (take l.count (parts l.items)))
