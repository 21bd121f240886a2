use Rattle.statement_names.proofs.Named.{in_order}
use Rattle.statement_names.proofs.laws.names_are_in_byte_order.Goals as goal

pub returns : goal.returns
returns c = in_order
