use Rattle.session_replays.proofs.Defining.{steps_define_well, histories_stay_well, catalogs_stay_well, runs_stay_well}
use Rattle.session_replays.proofs.laws.bodies_stay_well.Goals as goal

pub returns-clause-steps : goal.returns-clause-steps
returns-clause-steps c = steps_define_well c.answers_are_well.ensures

pub returns-clause-histories : goal.returns-clause-histories
returns-clause-histories c = histories_stay_well c.answers_are_well.ensures

pub returns-clause-catalogs : goal.returns-clause-catalogs
returns-clause-catalogs c = catalogs_stay_well

pub returns-clause-runs : goal.returns-clause-runs
returns-clause-runs c = runs_stay_well
