use Rattle.sql_locals.proofs.Places.{found_within}
use Rattle.sql_locals.proofs.locals.last_place.Goals as goal

pub returns-clause-within : goal.returns-clause-within
returns-clause-within c = found_within c.loop-at.found c.loop-at.at c.args.locals.now c.args.name.now c.loop-at-test.false c.loop-at.invariant
