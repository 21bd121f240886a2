use Rattle.std.proofs.Common.{ap}
use Rattle.row_store.specs.Shelves.{store_of}
use Rattle.row_store.proofs.tables.Tables.new.Goals as goal

pub returns : goal.returns
unfolding store_of
returns c = ap store_of c.new.ensures.items
