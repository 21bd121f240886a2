use Rattle.std.proofs.Common.{◌≡◌, sym}
use Rattle.std.specs.Prelude.{position}
use Rattle.auto_inc.specs.Counting.{counts_for}
use Rattle.auto_inc.proofs.Places.{absent_if, at_place}
use Rattle.auto_inc.proofs.counters.Counters.place.Goals as goal

pub returns-clause-place : goal.returns-clause-place
returns-clause-place c =
    let at : position (counts_for c.args.table.now) c.args.self.now ≡ c.counter_of.result = rw (← c.self.view_is, ← c.deref.ensures.value) (sym c.counter_of.ensures.place) in
    sym (at_place c.args.table.now c.args.self.now c.counter_of.result at)

pub returns-clause-absent : goal.returns-clause-absent
returns-clause-absent c =
    let at : position (counts_for c.args.table.now) c.args.self.now ≡ c.counter_of.result = rw (← c.self.view_is, ← c.deref.ensures.value) (sym c.counter_of.ensures.place) in
    absent_if c.args.table.now c.args.self.now c.counter_of.result at
