use Rattle.log_model.proofs.Parsing.{whole}
use Rattle.log_model.proofs.group_laws.whole_is_items.Goals as goal

pub returns : goal.returns
returns c = whole
