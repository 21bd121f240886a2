use Rattle.log_model.proofs.Growing.{transaction_moves, definition_moves}
use Rattle.log_model.proofs.item_laws.entries_have_length.Goals as goal

pub returns : goal.returns
returns c = (transaction_moves, definition_moves)
