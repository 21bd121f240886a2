use Rattle.log_model.proofs.Scanning.{not_whole_front, front_not_whole}
use Rattle.log_model.proofs.group_laws.not_whole_is_front.Goals as goal

pub returns-clause-only : goal.returns-clause-only
returns-clause-only c = not_whole_front

pub returns-clause-always : goal.returns-clause-always
returns-clause-always c = front_not_whole
