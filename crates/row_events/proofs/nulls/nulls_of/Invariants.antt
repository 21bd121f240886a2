use Rattle.std.proofs.Common.{◌≡◌, ◌++◌, ◌-◌, length, map}
use Rattle.event_codec.specs.Bitmap.{bitmap_size}
use Rattle.log_model.specs.Images.{bitmap, bits_bytes}
use Rattle.log_model.specs.Items.{is_nullable}
use Rattle.row_events.proofs.nulls.nulls_of.Given as goal

abbrev pub invariant-loop-byte : goal.invariant-loop-byte
invariant-loop-byte l = l.bytes ++ bitmap (bitmap_size (length l.columns) - l._byte) (map is_nullable l.rest) ≡ bits_bytes (map is_nullable l.columns)
