use Rattle.std.proofs.Common.{rules, ◌≡◌, max, Some, None, sym, ap, ◌∙◌}
use Rattle.std.specs.Prelude.{position}
use mir.Syntax.{w64}
use mir.Val.{SFits}
use Rattle.std.proofs.lemmas.Int.{to_z-of_z}
use Rattle.val_types.proofs.Lookup.{changed, unchanged}
use Rattle.auto_inc.specs.Counting.{behind, counts_for}
use Rattle.auto_inc.proofs.Places.{still_one_each, tables_kept}
use Rattle.auto_inc.proofs.counters.Counters.raise.Goals as goal

pub returns-in-Some-clause-raised : goal.returns-in-Some-clause-raised
returns-in-Some-clause-raised c =
    let at : position (counts_for c.args.table.now) c.self.inside.counters.items ≡ Some c.in-Some.at = rw (← c.deref.ensures.value) (sym c.counter_of.ensures.place ∙ c.in-Some.is) in
    let fits : SFits w64 c.args.value = search rules in
    let number : c.behind.result ≡ behind c.args.value = simp to_z-of_z at c.behind.ensures in
    let d = c.index_mut-counter.result.now in
    let value : c.max-counter.result ≡ max (behind c.args.value) d.value = rw number at c.max-counter.ensures in
    rw (← c.self.view_is)
    (changed (counts_for c.args.table.now) (λ counter. record counter { value = max (behind c.args.value) counter.value }) c.self.inside.counters.items c.in-Some.at (record d { value = c.max-counter.result }) d at c.index_mut-counter.ensures.value
    (ap (λ n. record d { value = n }) value))

pub returns-in_default-clause-raised : goal.returns-in_default-clause-raised
returns-in_default-clause-raised c =
    let at : position (counts_for c.args.table.now) c.self.inside.counters.items ≡ None = rw (← c.deref.ensures.value) (sym c.counter_of.ensures.place ∙ c.in_default.is) in
    rw (← c.self.view_is) (sym (unchanged (counts_for c.args.table.now) (λ counter. record counter { value = max (behind c.args.value) counter.value }) c.self.inside.counters.items at))

pub invariant_of-self : goal.invariant_of-self
invariant_of-self c =
    still_one_each c.self.inside.counters.items _ (tables_kept c.self.inside.counters.items c.in-Some.at c.index_mut-counter.result.now c.max-counter.result c.index_mut-counter.ensures.value) c.self.invariant

pub returns-in-Some-clause-tables : goal.returns-in-Some-clause-tables
returns-in-Some-clause-tables c = rw (← c.self.view_is) (tables_kept c.self.inside.counters.items c.in-Some.at c.index_mut-counter.result.now c.max-counter.result c.index_mut-counter.ensures.value)
