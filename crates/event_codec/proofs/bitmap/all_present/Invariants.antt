use Rattle.std.proofs.Common.{◌≡◌, drop}
use Rattle.event_codec.specs.Bitmap.{all_present}
use Rattle.event_codec.proofs.bitmap.all_present.Given as goal

abbrev pub invariant-loop-byte : goal.invariant-loop-byte
invariant-loop-byte l = all_present l.left (drop l.byte-index l.bits) ≡ all_present l.columns l.bits
