use Rattle.sql_locals.proofs.Places.{literals_taken}
use Rattle.sql_locals.proofs.locals.Locals.cut.Goals as goal

pub invariant_of-self : goal.invariant_of-self
invariant_of-self c = rw c.truncate.ensures.items (literals_taken c.args.count c.self.inside.list.items c.self.invariant)
