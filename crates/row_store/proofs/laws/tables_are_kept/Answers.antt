use Rattle.row_store.proofs.Shelved.{whole}
use Rattle.row_store.proofs.laws.tables_are_kept.Goals as goal

pub returns : goal.returns
returns c = rw (← c.tables.view_is) (whole c.tables.inside.shelves.items c.tables.invariant)
