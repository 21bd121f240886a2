use Rattle.checkpoint_model.proofs.Gates.{older_shut, older_torn, shut_torn}
use Rattle.checkpoint_model.proofs.Keeping.{older_may_change, other_is_older}
use Rattle.checkpoint_model.proofs.laws.other_generation_does_not_count.Goals as goal

pub returns-clause-other : goal.returns-clause-other
returns-clause-other c kind generation image held stands = other_is_older kind generation image held stands

pub returns-clause-changes : goal.returns-clause-changes
returns-clause-changes c kind generation image image' held stands same older journal logs = older_may_change kind generation image image' held stands same older journal logs

pub returns-clause-gates : goal.returns-clause-gates
returns-clause-gates c = record { torn = older_torn; shut = older_shut; behind = shut_torn }
