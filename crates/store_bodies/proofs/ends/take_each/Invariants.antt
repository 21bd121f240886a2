use Rattle.std.proofs.Common.{◌≡◌, ◌-◌}
use Rattle.store_model.specs.Reading.{so_many}
use Rattle.store_model.specs.Snapshots.{end_in}
use Rattle.store_bodies.specs.Ends.{ends_at}
use Rattle.store_bodies.proofs.Counting.{ahead}
use Rattle.store_bodies.proofs.ends.take_each.Given as goal

abbrev pub invariant-loop-end : goal.invariant-loop-end
invariant-loop-end l = ahead (ends_at l.list) (so_many end_in (l.count - l._end) l.rest) ≡ so_many end_in l.count l.fn.bytes
