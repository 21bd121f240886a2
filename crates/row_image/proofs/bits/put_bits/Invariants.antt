use Rattle.std.proofs.Common.{◌≡◌, ◌++◌, ◌-◌, ◌≤◌, length, map}
use Rattle.val_types.specs.Fitting.{is_null}
use Rattle.byte_fields.specs.Field.{BeginsWith}
use Rattle.event_codec.specs.Bitmap.{bitmap_size}
use Rattle.log_model.specs.Images.{bitmap, bits_bytes}
use Rattle.row_image.proofs.bits.put_bits.Given as goal

abbrev pub invariant-loop-byte : goal.invariant-loop-byte
invariant-loop-byte l = record {
  written : l.out ++ bitmap (bitmap_size (length l.row) - l._byte) (map is_null l.rest) ≡ l.fn.out ++ bits_bytes (map is_null l.row);
  front : BeginsWith l.out l.fn.out;
  long : length l.fn.out ≤ length l.out;
}
