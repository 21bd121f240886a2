use Rattle.std.proofs.Common.{◌≡◌, zip, length}
use Rattle.answer_making.specs.session_model.Commands.{all_assigned}
use Rattle.session_set.proofs.assigning.assign_all.Given as goal

abbrev pub invariant-loop-targets : goal.invariant-loop-targets
invariant-loop-targets l = all_assigned l.fn.session (zip l.fn.targets l.fn.values) ≡ all_assigned l.session (zip l.targets l.values)

abbrev pub decreases-loop-targets : goal.decreases-loop-targets
decreases-loop-targets l = length l.targets
