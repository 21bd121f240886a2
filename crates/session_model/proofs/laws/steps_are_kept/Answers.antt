use Rattle.session_model.proofs.Natural.{steps_kept}
use Rattle.session_model.proofs.laws.steps_are_kept.Goals as goal

pub returns : goal.returns
returns c = steps_kept
