use Rattle.std.proofs.Common.{◌≡◌, ◌++◌, drop}
use Rattle.log_print.specs.Escapes.{escapes}
use Rattle.log_print.proofs.putting.put_escapes.Given as goal

-- the bytes so far, and those that are left
abbrev pub invariant-loop-byte : goal.invariant-loop-byte
invariant-loop-byte l = l.out ++ escapes (drop l.byte-index l.bytes) ≡ l.fn.out ++ escapes l.bytes
