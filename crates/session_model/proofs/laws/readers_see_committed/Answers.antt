use Rattle.session_model.proofs.Leaving.{readers_see_committed}
use Rattle.session_model.proofs.laws.readers_see_committed.Goals as goal

pub returns : goal.returns
returns c = readers_see_committed
