use Rattle.std.proofs.Common.{◌≡◌, get_or, None, Some, sym, ◌∙◌}
use Rattle.sql_locals.specs.Locals.{last_place}
use Rattle.sql_locals.proofs.Places.{find_found, find_missing}
use Rattle.sql_locals.proofs.locals.Locals.find.Goals as goal

pub returns-in-None : goal.returns-in-None
returns-in-None c =
    let at : last_place c.args.self.now c.args.name.now ≡ None = rw (← c.self.view_is, ← c.deref.ensures.value) (sym c.last_place.ensures.place ∙ c.in-None.is) in
    sym (find_missing c.args.name.now None c.args.self.now at)

pub returns-in-Some : goal.returns-in-Some
returns-in-Some c =
    let at : last_place c.args.self.now c.args.name.now ≡ Some c.in-Some.at = rw (← c.self.view_is, ← c.deref.ensures.value) (sym c.last_place.ensures.place ∙ c.in-Some.is) in
    let is : c.index.result.now ≡ get_or c.args.self.now c.in-Some.at c.index.result.now = rw c.self.view_is at c.index.ensures in
    sym (find_found c.args.name.now None c.args.self.now c.in-Some.at c.index.result.now at is)
