use Rattle.std.proofs.Common.{◌≡◌, ◌++◌, ◌-◌, ◌≤◌, length}
use Rattle.byte_fields.specs.Field.{BeginsWith}
use Rattle.event_codec.specs.Bitmap.{bitmap_size, present_bits}
use Rattle.event_codec.proofs.bitmap.put_present.Given as goal

abbrev pub invariant-loop-byte : goal.invariant-loop-byte
invariant-loop-byte l = record {
  written : l.out ++ present_bits (bitmap_size l.columns - l._byte) l.left ≡ l.fn.out ++ present_bits (bitmap_size l.columns) l.columns;
  front : BeginsWith l.out l.fn.out;
  long : length l.fn.out ≤ length l.out;
}
