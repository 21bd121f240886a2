use Rattle.reach_laws.proofs.Found.{calls_reached, triggers_reached, bodies_reached}
use Rattle.reach_laws.proofs.laws.runs_are_reached.Goals as goal

pub returns-clause-calls : goal.returns-clause-calls
returns-clause-calls c = calls_reached

pub returns-clause-triggers : goal.returns-clause-triggers
returns-clause-triggers c = triggers_reached

pub returns-clause-bodies : goal.returns-clause-bodies
returns-clause-bodies c = bodies_reached
