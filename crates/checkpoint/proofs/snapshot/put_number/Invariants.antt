use Rattle.std.proofs.Common.{◌≡◌, ◌++◌, take, drop}
use Rattle.checkpoint.proofs.snapshot.put_number.Given as goal

-- the bytes of the number until here, and those that were there behind them
abbrev pub invariant-loop-at : goal.invariant-loop-at
invariant-loop-at l = l.bytes ≡ take l.at l.field ++ drop l.at l.fn.bytes
