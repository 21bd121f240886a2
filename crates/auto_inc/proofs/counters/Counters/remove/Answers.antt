use Rattle.std.proofs.Common.{◌≡◌, Some, None, sym, subst, ◌∙◌}
use Rattle.std.specs.Prelude.{position}
use Rattle.val_types.proofs.Lookup.{removed, all_left}
use Rattle.auto_inc.specs.Counting.{counts_for}
use Rattle.auto_inc.specs.Counting.{counters_beside, value_for}
use Rattle.auto_inc.proofs.Places.{gone, one_each_left}
use Rattle.auto_inc.proofs.counters.Counters.remove.Goals as goal

pub returns-in-Some-clause-removed : goal.returns-in-Some-clause-removed
returns-in-Some-clause-removed c =
    let at : position (counts_for c.args.table.now) c.self.inside.counters.items ≡ Some c.in-Some.at = rw (← c.deref.ensures.value) (sym c.counter_of.ensures.place ∙ c.in-Some.is) in
    rw (← c.self.view_is) (c.remove.ensures.items ∙ removed (counts_for c.args.table.now) c.self.inside.counters.items c.in-Some.at at)

pub returns-in_default-clause-removed : goal.returns-in_default-clause-removed
returns-in_default-clause-removed c =
    let at : position (counts_for c.args.table.now) c.self.inside.counters.items ≡ None = rw (← c.deref.ensures.value) (sym c.counter_of.ensures.place ∙ c.in_default.is) in
    rw (← c.self.view_is) (sym (all_left (counts_for c.args.table.now) c.self.inside.counters.items at))

pub invariant_of-self : goal.invariant_of-self
invariant_of-self c =
    let at : position (counts_for c.args.table.now) c.self.inside.counters.items ≡ Some c.in-Some.at = rw (← c.deref.ensures.value) (sym c.counter_of.ensures.place ∙ c.in-Some.is) in
    rw (c.remove.ensures.items ∙ removed (counts_for c.args.table.now) c.self.inside.counters.items c.in-Some.at at) (one_each_left (counts_for c.args.table.now) c.self.inside.counters.items c.self.invariant)

pub returns-in-Some-clause-gone : goal.returns-in-Some-clause-gone
returns-in-Some-clause-gone c =
    let at : position (counts_for c.args.table.now) c.self.inside.counters.items ≡ Some c.in-Some.at = rw (← c.deref.ensures.value) (sym c.counter_of.ensures.place ∙ c.in-Some.is) in
    rw (c.remove.ensures.items ∙ removed (counts_for c.args.table.now) c.self.inside.counters.items c.in-Some.at at) (gone c.args.table.now c.self.inside.counters.items c.self.invariant)

pub returns-in_default-clause-gone : goal.returns-in_default-clause-gone
returns-in_default-clause-gone c =
    let at : position (counts_for c.args.table.now) c.self.inside.counters.items ≡ None = rw (← c.deref.ensures.value) (sym c.counter_of.ensures.place ∙ c.in_default.is) in
    let same : c.self.inside.counters.items ≡ counters_beside c.args.table.now c.self.inside.counters.items = sym (all_left (counts_for c.args.table.now) c.self.inside.counters.items at) in
    rw (← c.self.view_is) (subst (λ cs. value_for c.args.table.now cs ≡ None) (sym same) (gone c.args.table.now c.self.inside.counters.items c.self.invariant))
