use Rattle.session_replays.proofs.Stepping.{openings_replay, restarts_replay}
use Rattle.session_replays.proofs.laws.openings_replay.Goals as goal

pub returns-clause-openings : goal.returns-clause-openings
returns-clause-openings c = openings_replay c.openings_hold.ensures.openings

pub returns-clause-restarts : goal.returns-clause-restarts
returns-clause-restarts c = restarts_replay c.openings_hold.ensures.restarts
