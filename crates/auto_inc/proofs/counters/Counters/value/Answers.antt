use Rattle.std.proofs.Common.{◌≡◌, get_or, Option, Some, None, sym, ap, ◌∙◌}
use Rattle.std.specs.Prelude.{position, unwrap_or}
use Rattle.std.specs.Option.{option_map}
use Rattle.val_types.proofs.Lookup.{found, missing}
use Rattle.auto_inc.specs.declared.counters.Counter.{Counter}
use Rattle.auto_inc.specs.Counting.{counts_for}
use Rattle.auto_inc.proofs.counters.Counters.value.Goals as goal

pub returns-in-Some : goal.returns-in-Some
returns-in-Some c =
    let at : position (counts_for c.args.table.now) c.args.self.now ≡ Some c.in-Some.at = rw (← c.self.view_is, ← c.deref.ensures.value) (sym c.counter_of.ensures.place ∙ c.in-Some.is) in
    let is : c.index.result.now ≡ get_or c.args.self.now c.in-Some.at c.index.result.now = rw c.self.view_is at c.index.ensures in
    sym (ap (λ (o : Option Counter). unwrap_or (option_map (λ (counter : Counter). counter.value) o) 0) (found (counts_for c.args.table.now) c.args.self.now c.in-Some.at c.index.result.now at is))

pub returns-in-None : goal.returns-in-None
returns-in-None c =
    let at : position (counts_for c.args.table.now) c.args.self.now ≡ None = rw (← c.self.view_is, ← c.deref.ensures.value) (sym c.counter_of.ensures.place ∙ c.in-None.is) in
    sym (ap (λ (o : Option Counter). unwrap_or (option_map (λ (counter : Counter). counter.value) o) 0) (missing (counts_for c.args.table.now) c.args.self.now at))
