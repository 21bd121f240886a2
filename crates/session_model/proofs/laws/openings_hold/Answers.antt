use Rattle.session_model.proofs.Opening.{opens_with_nothing, openings_hold, restarts_hold}
use Rattle.session_model.proofs.laws.openings_hold.Goals as goal

pub returns-clause-nothing : goal.returns-clause-nothing
returns-clause-nothing c = opens_with_nothing

pub returns-clause-openings : goal.returns-clause-openings
returns-clause-openings c = openings_hold

pub returns-clause-restarts : goal.returns-clause-restarts
returns-clause-restarts c = restarts_hold
