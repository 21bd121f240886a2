use Rattle.std.proofs.Common.{◌≡◌, drop}
use Rattle.sql_locals.specs.Locals.{last_place}
use Rattle.sql_locals.proofs.Places.{placed_from}
use Rattle.sql_locals.proofs.locals.last_place.Given as goal

abbrev pub invariant-loop-at : goal.invariant-loop-at
invariant-loop-at l = placed_from l.found l.at (drop l.at l.locals) l.name ≡ last_place l.locals l.name
