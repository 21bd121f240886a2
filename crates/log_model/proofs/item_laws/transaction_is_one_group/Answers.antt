use Rattle.log_model.proofs.OneGroup.{one_transaction}
use Rattle.log_model.proofs.item_laws.transaction_is_one_group.Goals as goal

pub returns : goal.returns
returns c = one_transaction
