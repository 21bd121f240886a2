use Rattle.std.proofs.Common.{◌≡◌, ◌-◌}
use Rattle.store_model.specs.Reading.{so_many, change_in}
use Rattle.store_bodies.proofs.Counting.{ahead}
use Rattle.store_bodies.proofs.changes.take_each.Given as goal

abbrev pub invariant-loop-change : goal.invariant-loop-change
invariant-loop-change l = ahead l.list (so_many change_in (l.count - l._change) l.rest) ≡ so_many change_in l.count l.fn.bytes
