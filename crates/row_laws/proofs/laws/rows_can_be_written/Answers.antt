use Rattle.row_laws.proofs.Writable.{writable}
use Rattle.row_laws.proofs.laws.rows_can_be_written.Goals as goal

pub returns : goal.returns
returns c = writable
