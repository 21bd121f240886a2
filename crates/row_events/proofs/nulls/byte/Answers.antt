use Rattle.std.proofs.Common.{arith, map}
use Rattle.log_model.specs.Items.{is_nullable}
use Rattle.row_image.proofs.Packing.{eight}
use Rattle.row_events.proofs.nulls.byte.Goals as goal

pub returns : goal.returns
returns c =
    omega (arith, eight (map is_nullable c.args.columns.now), c.bit.ensures.exact, c.bit-2.ensures.exact, c.bit-3.ensures.exact, c.bit-4.ensures.exact, c.bit-5.ensures.exact, c.bit-6.ensures.exact, c.bit-7.ensures.exact, c.bit-8.ensures.exact)
