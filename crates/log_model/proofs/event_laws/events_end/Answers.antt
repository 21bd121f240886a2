use Rattle.log_model.proofs.Walking.{events_none, stop_none}
use Rattle.log_model.proofs.event_laws.events_end.Goals as goal

pub returns : goal.returns
returns c = λ p stop is. (events_none p stop is, stop_none p stop is)
