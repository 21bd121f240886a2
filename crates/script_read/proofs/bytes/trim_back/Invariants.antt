use Rattle.std.proofs.Common.{◌≡◌, ◌≤◌, length, reverse}
use Rattle.script_read.specs.Bytes.{trim_front}
use Rattle.script_read.proofs.bytes.trim_back.Given as goal

abbrev pub invariant-loop-rest : goal.invariant-loop-rest
invariant-loop-rest l = (reverse (trim_front (reverse l.rest)) ≡ reverse (trim_front (reverse l.fn.bytes))) × (length l.rest ≤ length l.fn.bytes)

abbrev pub decreases-loop-rest : goal.decreases-loop-rest
decreases-loop-rest l = length l.rest
