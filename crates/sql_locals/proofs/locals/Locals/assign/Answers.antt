use Rattle.std.proofs.Common.{◌≡◌, get_or, None, Some, sym, ap, ◌∙◌}
use Rattle.std.specs.Prelude.{is_some}
use Rattle.sql_locals.specs.declared.locals.Local.{Local}
use Rattle.std.specs.declared.option.Option.{Option}
use Rattle.sql_locals.specs.Locals.{last_place}
use Rattle.sql_locals.proofs.Places.{find_found, find_missing, set_found, set_missing, literals_set}
use Rattle.sql_locals.proofs.locals.Locals.assign.Goals as goal

pub invariant_of-self : goal.invariant_of-self
invariant_of-self c = literals_set c.in-Some.at _ c.self.inside.list.items c.is_literal.ensures c.self.invariant

pub returns-in-None-clause-found : goal.returns-in-None-clause-found
returns-in-None-clause-found c =
    let at : last_place c.args.self.now c.args.name.now ≡ None = rw (← c.self.view_is, ← c.deref.ensures.value) (sym c.last_place.ensures.place ∙ c.in-None.is) in
    sym (ap (λ (o : Option Local). is_some o) (find_missing c.args.name.now None c.args.self.now at))

pub returns-in-None-clause-assigned : goal.returns-in-None-clause-assigned
returns-in-None-clause-assigned c =
    let at : last_place c.args.self.now c.args.name.now ≡ None = rw (← c.self.view_is, ← c.deref.ensures.value) (sym c.last_place.ensures.place ∙ c.in-None.is) in
    sym (set_missing c.args.name.now c.args.value c.args.self.now at)

pub returns-in-Some-clause-found : goal.returns-in-Some-clause-found
returns-in-Some-clause-found c =
    let at : last_place c.args.self.now c.args.name.now ≡ Some c.in-Some.at = rw (← c.self.view_is, ← c.deref.ensures.value) (sym c.last_place.ensures.place ∙ c.in-Some.is) in
    let is : c.index_mut.result.now ≡ get_or c.args.self.now c.in-Some.at c.index_mut.result.now = rw c.self.view_is at c.index_mut.ensures.value in
    sym (ap (λ (o : Option Local). is_some o) (find_found c.args.name.now None c.args.self.now c.in-Some.at c.index_mut.result.now at is))

pub returns-in-Some-clause-assigned : goal.returns-in-Some-clause-assigned
returns-in-Some-clause-assigned c =
    let at : last_place c.self.inside.list.items c.args.name.now ≡ Some c.in-Some.at = rw (← c.deref.ensures.value) (sym c.last_place.ensures.place ∙ c.in-Some.is) in
    rw (← c.self.view_is) (set_found c.args.name.now c.args.value c.self.inside.list.items c.in-Some.at c.index_mut.result.now at c.index_mut.ensures.value)
