use Rattle.row_indexes.proofs.Wholes.{first_in_way}
use Rattle.row_indexes.proofs.laws.indexes_find_ways.Goals as goal

pub returns : goal.returns
returns c = first_in_way
