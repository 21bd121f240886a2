use Rattle.std.proofs.Common.{arith, length-append}
use Rattle.event_codec.specs.Bitmap.{bitmap_size, present_bits}
use Rattle.event_codec.proofs.Stepping.{bits_length}
use Rattle.row_events.proofs.event_sizes.present_size.Goals as goal

pub returns-in-Insert-clause-exact : goal.returns-in-Insert-clause-exact
returns-in-Insert-clause-exact c =
    let bits = bits_length (bitmap_size c.args.columns) c.args.columns in
    rw c.in-Insert.is (omega (arith, bits, c.div_ceil.ensures))

pub returns-in-Update-clause-exact : goal.returns-in-Update-clause-exact
returns-in-Update-clause-exact c =
    let bits = present_bits (bitmap_size c.args.columns) c.args.columns in
    let one = bits_length (bitmap_size c.args.columns) c.args.columns in
    rw c.in-Update.is (omega (arith, length-append bits bits, one, c.div_ceil-in-Update.ensures))

pub returns-in-Delete-clause-exact : goal.returns-in-Delete-clause-exact
returns-in-Delete-clause-exact c =
    let bits = bits_length (bitmap_size c.args.columns) c.args.columns in
    rw c.in-Delete.is (omega (arith, bits, c.div_ceil-in-Delete.ensures))
