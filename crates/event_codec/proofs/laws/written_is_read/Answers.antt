use Rattle.event_codec.proofs.RoundTrip.{read-again}
use Rattle.event_codec.proofs.laws.written_is_read.Goals as goal

pub returns : goal.returns
returns c = read-again
