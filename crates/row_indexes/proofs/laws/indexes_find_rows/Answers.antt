use Rattle.row_indexes.proofs.Indexing.{found_in_both}
use Rattle.row_indexes.proofs.laws.indexes_find_rows.Goals as goal

pub returns : goal.returns
returns c = found_in_both
