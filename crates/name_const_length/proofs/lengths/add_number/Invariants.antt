use Rattle.std.proofs.Common.{◌≡◌}
use Rattle.std.specs.Fmt.{decimal}
use Rattle.name_const_length.specs.Growing.{grown}
use Rattle.name_const_length.proofs.lengths.add_number.Given as goal

abbrev pub invariant-loop-rest : goal.invariant-loop-rest
invariant-loop-rest l = grown l.total (decimal l.rest) ≡ grown l.fn.total (decimal l.number)

abbrev pub decreases-loop-rest : goal.decreases-loop-rest
decreases-loop-rest l = l.rest
