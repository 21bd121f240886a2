use Rattle.std.proofs.Common.{◌≡◌, ◌++◌, drop}
use Rattle.log_print.specs.Escapes.{before_zero, escapes}
use Rattle.log_print.proofs.putting.put_version.Given as goal

-- the bytes so far, and those before the first 0 that are left
abbrev pub invariant-loop-byte : goal.invariant-loop-byte
invariant-loop-byte l = l.out ++ escapes (before_zero (drop l.byte-index l.version)) ≡ l.fn.out ++ escapes (before_zero l.version)
