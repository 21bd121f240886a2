use Rattle.std.proofs.Common.{◌≡◌, drop}
use Rattle.script_read.specs.Bytes.{trim_front}
use Rattle.script_read.proofs.bytes.trim_front.Given as goal

abbrev pub invariant-loop-i : goal.invariant-loop-i
invariant-loop-i l = trim_front (drop l.i l.bytes) ≡ trim_front l.bytes
