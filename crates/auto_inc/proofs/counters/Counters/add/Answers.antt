use Rattle.std.proofs.Common.{◌≡◌, None}
use Rattle.auto_inc.specs.Counting.{value_for}
use Rattle.auto_inc.proofs.Places.{one_each_behind}
use Rattle.auto_inc.proofs.counters.Counters.add.Goals as goal

pub invariant_of-self-2 : goal.invariant_of-self-2
invariant_of-self-2 c =
    let free : value_for c.in_ok-table.table c.self.inside.counters.items ≡ None = rw (c.in_ok-table.ensures, c.self.view_is) c.requires in
    rw c.in_ok-push.ensures.items (one_each_behind c.self.inside.counters.items _ c.self.invariant free)
