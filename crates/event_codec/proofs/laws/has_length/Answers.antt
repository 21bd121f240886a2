use Rattle.event_codec.proofs.RoundTrip.{length-event_bytes}
use Rattle.event_codec.proofs.laws.has_length.Goals as goal

pub returns : goal.returns
returns c = length-event_bytes
