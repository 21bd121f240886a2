use Rattle.std.proofs.Common.{arith}
use Rattle.row_events.proofs.Measuring.{values_end}
use Rattle.row_events.proofs.image_sizes.values_size.Goals as goal

pub returns : goal.returns
returns c =
    let none = values_end c.args.columns.now c.args.row.now c.loop-place.place (omega (arith, c.loop-place-test.false, c.min-place-end.ensures)) in
    omega (arith, none, c.loop-place.invariant.same, c.loop-place.invariant.fits)
