use Rattle.std.proofs.Common.{◌≡◌, drop}
use Rattle.sql_print.specs.Names.{doubled}
use Rattle.name_const_length.specs.Growing.{grown}
use Rattle.name_const_length.proofs.lengths.add_doubled.Given as goal

abbrev pub invariant-loop-byte : goal.invariant-loop-byte
invariant-loop-byte l = grown l.total (doubled (drop l.byte-index l.bytes)) ≡ grown l.fn.total (doubled l.bytes)
