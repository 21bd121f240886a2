use Rattle.key_order.proofs.Counts.{counts_rows}
use Rattle.key_order.proofs.laws.rows_are_counted.Goals as goal

pub returns : goal.returns
returns c = counts_rows
