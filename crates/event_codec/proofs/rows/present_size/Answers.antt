use Rattle.std.proofs.Common.{arith, length-append}
use Rattle.event_codec.specs.Bitmap.{bitmap_size, present_bits}
use Rattle.event_codec.proofs.Stepping.{bits_length}
use Rattle.event_codec.proofs.rows.present_size.Goals as goal

pub returns-in-Update : goal.returns-in-Update
returns-in-Update c =
    let bits = present_bits (bitmap_size c.args.columns) c.args.columns in
    let size = c.bitmap_size-in-Update.ensures in
    let one = bits_length (bitmap_size c.args.columns) c.args.columns in
    rw c.in-Update.is (omega (arith, length-append bits bits, one, size))
