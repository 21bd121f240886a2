use Rattle.std.proofs.Common.{◌<◌, length}
use Rattle.repl_fixed.proofs.draws.draws_of.Given as goal

abbrev pub invariant-loop-number : goal.invariant-loop-number
invariant-loop-number l = 0 < length l.draws
