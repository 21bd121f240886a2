use Rattle.std.proofs.Common.{◌≡◌, ◌++◌, drop}
use Rattle.sql_print.specs.Names.{doubled}
use Rattle.sql_print.proofs.names.write_doubled.Given as goal

abbrev pub invariant-loop-byte : goal.invariant-loop-byte
invariant-loop-byte l = l.out ++ doubled (drop l.byte-index l.bytes) ≡ l.fn.out ++ doubled l.bytes
