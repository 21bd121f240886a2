use Rattle.std.proofs.Common.{◌≡◌, drop}
use Rattle.value_rules.specs.Functions.{first_known}
use Rattle.expr_ops.proofs.functions.first_known.Given as goal

-- the values before this one are NULL, so the rest decides
abbrev pub invariant-loop-value : goal.invariant-loop-value
invariant-loop-value l = first_known (drop l.value-index l.value-items) ≡ first_known l.values
