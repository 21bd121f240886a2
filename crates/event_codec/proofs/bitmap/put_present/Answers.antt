use Rattle.std.proofs.Common.{arith}
use Rattle.byte_fields.proofs.FieldLaws.{begins_more}
use Rattle.event_codec.specs.Bitmap.{bitmap_size}
use Rattle.event_codec.proofs.Stepping.{bits_grow, longer}
use Rattle.event_codec.proofs.bitmap.put_present.Goals as goal

pub loop-byte-preserved : goal.loop-byte-preserved
loop-byte-preserved c = record {
  written =
      bits_grow _ _ _ (bitmap_size c.args.columns) _ _ _ _ c.loop-byte.invariant.written (omega arith) c.in_ok-push.ensures.ok c.mask.ensures
      c.saturating_sub-left.ensures;
  front = rw c.in_ok-push.ensures.ok (begins_more _ _ _ c.loop-byte.invariant.long c.loop-byte.invariant.front);
  long = longer _ _ _ _ c.in_ok-push.ensures.ok c.loop-byte.invariant.long;
}
