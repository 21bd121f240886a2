use Rattle.std.proofs.Common.{◌≡◌, get_or, Option, Some, sym, ap}
use Rattle.std.specs.Prelude.{unwrap_or}
use Rattle.std.specs.Option.{option_map}
use Rattle.val_types.proofs.Lookup.{found}
use Rattle.auto_inc.specs.declared.counters.Counter.{Counter}
use Rattle.auto_inc.specs.Counting.{counts_for}
use Rattle.auto_inc.proofs.Places.{from_place}
use Rattle.auto_inc.proofs.counters.Counters.value_at.Goals as goal

pub returns : goal.returns
returns c = λ table placed.
    let is : c.index.result.now ≡ get_or c.args.self.now c.args.at c.index.result.now = rw c.self.view_is at c.index.ensures in
    sym (ap (λ (o : Option Counter). unwrap_or (option_map (λ (counter : Counter). counter.value) o) 0)
    (found (counts_for table) c.args.self.now c.args.at c.index.result.now (from_place table c.args.self.now (Some c.args.at) placed) is))
