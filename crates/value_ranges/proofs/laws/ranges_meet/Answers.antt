use Rattle.value_ranges.proofs.Meeting.{ranges_meet}
use Rattle.value_ranges.proofs.laws.ranges_meet.Goals as goal

pub returns : goal.returns
returns c = ranges_meet
