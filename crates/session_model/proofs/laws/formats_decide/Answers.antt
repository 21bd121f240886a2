use Rattle.session_model.proofs.Holding.{formats_decide}
use Rattle.session_model.proofs.laws.formats_decide.Goals as goal

pub returns : goal.returns
returns c = formats_decide c.statements_end_well.ensures.statements c.statements_end_well.ensures.evaluations
