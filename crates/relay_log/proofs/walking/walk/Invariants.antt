use Rattle.std.proofs.Common.{◌-◌, length}
use Rattle.relay_log.specs.Reaching.{IsAhead, place_seen}
use Rattle.relay_log.proofs.walking.walk.Given as goal

abbrev pub invariant-loop-group : goal.invariant-loop-group
invariant-loop-group l = IsAhead (record { place = place_seen l.fn.start; bytes = l.bytes }) l.here

abbrev pub decreases-loop-group : goal.decreases-loop-group
decreases-loop-group l = length l.bytes - l.here.passed
