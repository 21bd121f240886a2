use Rattle.std.proofs.Common.{rules, ◌≡◌, max, Some, ap}
use Rattle.std.specs.Prelude.{position}
use mir.Syntax.{w64}
use mir.Val.{SFits}
use Rattle.std.proofs.lemmas.Int.{to_z-of_z}
use Rattle.val_types.proofs.Lookup.{changed}
use Rattle.auto_inc.specs.Counting.{behind, counts_for}
use Rattle.auto_inc.proofs.Places.{from_place, still_one_each, tables_kept}
use Rattle.auto_inc.proofs.counters.Counters.raise_at.Goals as goal

pub invariant_of-self : goal.invariant_of-self
invariant_of-self c =
    still_one_each c.self.inside.counters.items _ (tables_kept c.self.inside.counters.items c.args.at c.index_mut-counter.result.now c.max-counter.result c.index_mut-counter.ensures.value) c.self.invariant

pub returns-clause-raised : goal.returns-clause-raised
returns-clause-raised c = λ table placed.
    let at : position (counts_for table) c.self.inside.counters.items ≡ Some c.args.at = rw c.self.view_is (from_place table c.args.self.now (Some c.args.at) placed) in
    let fits : SFits w64 c.args.value = search rules in
    let number : c.behind.result ≡ behind c.args.value = simp to_z-of_z at c.behind.ensures in
    let d = c.index_mut-counter.result.now in
    let value : c.max-counter.result ≡ max (behind c.args.value) d.value = rw number at c.max-counter.ensures in
    rw (← c.self.view_is)
    (changed (counts_for table) (λ counter. record counter { value = max (behind c.args.value) counter.value }) c.self.inside.counters.items c.args.at (record d { value = c.max-counter.result }) d at c.index_mut-counter.ensures.value
    (ap (λ n. record d { value = n }) value))

pub returns-clause-tables : goal.returns-clause-tables
returns-clause-tables c = rw (← c.self.view_is) (tables_kept c.self.inside.counters.items c.args.at c.index_mut-counter.result.now c.max-counter.result c.index_mut-counter.ensures.value)
