use Rattle.std.proofs.Common.{◌≡◌, zip, length}
use Rattle.answer_making.specs.session_model.Commands.{first_refused}
use Rattle.session_set.proofs.assigning.first_refused.Given as goal

abbrev pub invariant-loop-targets : goal.invariant-loop-targets
invariant-loop-targets l = first_refused l.fn.is_open (zip l.fn.targets l.fn.values) ≡ first_refused l.fn.is_open (zip l.targets l.values)

abbrev pub decreases-loop-targets : goal.decreases-loop-targets
decreases-loop-targets l = length l.targets
