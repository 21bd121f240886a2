use Rattle.event_codec.proofs.Lying.{lies_within}
use Rattle.event_codec.proofs.reading.read_event.Goals as goal

pub returns-clause-within : goal.returns-clause-within
returns-clause-within c = rw c.stands_at.ensures.exact (lies_within _ _)
