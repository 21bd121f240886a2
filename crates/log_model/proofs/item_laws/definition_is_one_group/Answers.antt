use Rattle.log_model.proofs.OneGroup.{one_definition}
use Rattle.log_model.proofs.item_laws.definition_is_one_group.Goals as goal

pub returns : goal.returns
returns c = one_definition
