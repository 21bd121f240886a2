use Rattle.std.proofs.Common.{◌≡◌, ◌++◌}
use Rattle.log_entries.proofs.variables.VarsDuplicate.duplicate.Given as goal

abbrev pub invariant-loop-name : goal.invariant-loop-name
invariant-loop-name l = l.copy ++ l.name-iterator ≡ l.self
