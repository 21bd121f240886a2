use Rattle.std.proofs.Common.{arith, length}
use Rattle.event_codec.specs.Bitmap.{bitmap_size}
use Rattle.row_image.proofs.Packing.{bits_grow}
use Rattle.row_events.proofs.nulls.nulls_of.Goals as goal

pub loop-byte-preserved : goal.loop-byte-preserved
loop-byte-preserved c =
    bits_grow _ _ _ (bitmap_size (length c.args.columns.now)) _ _ _ _ c.loop-byte.invariant (omega (arith, c.div_ceil-byte-end.ensures)) c.in_ok-push.ensures.ok
    c.byte.ensures c.behind_eight-rest.ensures
