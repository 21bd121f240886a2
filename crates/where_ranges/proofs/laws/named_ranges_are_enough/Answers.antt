use Rattle.where_ranges.proofs.Named.{named_ranges_are_enough}
use Rattle.where_ranges.proofs.laws.named_ranges_are_enough.Goals as goal

pub returns : goal.returns
returns c = named_ranges_are_enough
