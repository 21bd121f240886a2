use Rattle.std.proofs.Common.{◌≡◌, ◌-◌}
use Rattle.store_model.specs.Reading.{so_many, row_in}
use Rattle.store_bodies.proofs.Counting.{ahead}
use Rattle.store_bodies.proofs.snapshots.take_each.Given as goal

abbrev pub invariant-loop-row : goal.invariant-loop-row
invariant-loop-row l = ahead l.list (so_many row_in (l.count - l._row) l.rest) ≡ so_many row_in l.count l.fn.bytes
