use Rattle.row_store.proofs.Asides.{asides_return_so}
use Rattle.row_store.proofs.laws.asides_return.Goals as goal

pub returns : goal.returns
returns c = asides_return_so
