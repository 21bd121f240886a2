use Rattle.log_group_laws.proofs.Staying.{stops_stay}
use Rattle.log_group_laws.proofs.laws.stops_stay.Goals as goal

pub returns : goal.returns
returns c = stops_stay
