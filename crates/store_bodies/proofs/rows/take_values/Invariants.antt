use Rattle.std.proofs.Common.{◌≡◌, ◌-◌}
use Rattle.store_model.specs.Reading.{so_many, value_in}
use Rattle.store_bodies.proofs.Counting.{ahead}
use Rattle.store_bodies.proofs.rows.take_values.Given as goal

abbrev pub invariant-loop-value : goal.invariant-loop-value
invariant-loop-value l = ahead l.row (so_many value_in (l.count - l._value) l.rest) ≡ so_many value_in l.count l.fn.bytes
