use Rattle.std.proofs.Common.{◌≡◌, Some, None, refl, sym, ◌∙◌}
use Rattle.std.specs.Prelude.{position}
use Rattle.val_types.proofs.Lookup.{changed, unchanged}
use Rattle.auto_inc.specs.Counting.{counts_for}
use Rattle.auto_inc.proofs.Places.{still_one_each, tables_kept}
use Rattle.auto_inc.proofs.counters.Counters.reset.Goals as goal

pub returns-in-Some-clause-reset : goal.returns-in-Some-clause-reset
returns-in-Some-clause-reset c =
    let at : position (counts_for c.args.table.now) c.self.inside.counters.items ≡ Some c.in-Some.at = rw (← c.deref.ensures.value) (sym c.counter_of.ensures.place ∙ c.in-Some.is) in
    let d = c.index_mut.result.now in
    rw (← c.self.view_is) (changed (counts_for c.args.table.now) (λ counter. record counter { value = 1 }) c.self.inside.counters.items c.in-Some.at (record d { value = 1 }) d at c.index_mut.ensures.value refl)

pub returns-in_default-clause-reset : goal.returns-in_default-clause-reset
returns-in_default-clause-reset c =
    let at : position (counts_for c.args.table.now) c.self.inside.counters.items ≡ None = rw (← c.deref.ensures.value) (sym c.counter_of.ensures.place ∙ c.in_default.is) in
    rw (← c.self.view_is) (sym (unchanged (counts_for c.args.table.now) (λ counter. record counter { value = 1 }) c.self.inside.counters.items at))

pub invariant_of-self : goal.invariant_of-self
invariant_of-self c =
    still_one_each c.self.inside.counters.items _ (tables_kept c.self.inside.counters.items c.in-Some.at c.index_mut.result.now 1 c.index_mut.ensures.value) c.self.invariant

pub returns-in-Some-clause-tables : goal.returns-in-Some-clause-tables
returns-in-Some-clause-tables c = rw (← c.self.view_is) (tables_kept c.self.inside.counters.items c.in-Some.at c.index_mut.result.now 1 c.index_mut.ensures.value)
