use Rattle.event_codec.proofs.Lying.{lies_within}
use Rattle.event_codec.proofs.laws.lies_within.Goals as goal

pub returns : goal.returns
returns c = lies_within
