use Rattle.log_model.proofs.Growing.{head_length}
use Rattle.log_model.proofs.item_laws.heads_have_length.Goals as goal

pub returns : goal.returns
returns c = head_length
