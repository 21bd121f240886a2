use Rattle.log_model.proofs.Walking.{events_some, stop_some}
use Rattle.log_model.proofs.event_laws.events_go_on.Goals as goal

pub returns : goal.returns
returns c = λ p e is. (events_some p e is, stop_some p e is)
