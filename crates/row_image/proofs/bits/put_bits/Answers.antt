use Rattle.std.proofs.Common.{arith, length}
use Rattle.byte_fields.proofs.FieldLaws.{begins_more}
use Rattle.event_codec.specs.Bitmap.{bitmap_size}
use Rattle.row_image.proofs.Packing.{bits_grow, longer}
use Rattle.row_image.proofs.bits.put_bits.Goals as goal

pub loop-byte-preserved : goal.loop-byte-preserved
loop-byte-preserved c = record {
  written =
      bits_grow _ _ _ (bitmap_size (length c.args.row.now)) _ _ _ _ c.loop-byte.invariant.written (omega (arith, c.div_ceil-byte-end.ensures)) c.in_ok-push.ensures.ok
      c.byte.ensures c.behind_eight-rest.ensures;
  front = rw c.in_ok-push.ensures.ok (begins_more _ _ _ c.loop-byte.invariant.long c.loop-byte.invariant.front);
  long = longer _ _ _ _ c.in_ok-push.ensures.ok c.loop-byte.invariant.long;
}
