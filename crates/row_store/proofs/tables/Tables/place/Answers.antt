use Rattle.std.proofs.Common.{ap, ◌∙◌}
use Rattle.std.specs.Prelude.{position}
use Rattle.row_store.specs.Shelves.{is_named}
use Rattle.row_store.proofs.Shelved.{place_is}
use Rattle.row_store.proofs.tables.Tables.place.Goals as goal

pub returns : goal.returns
returns c =
    rw (← c.self.view_is)
    (c.shelf_of.ensures.place ∙ ap (position (is_named c.args.table.now)) c.deref.ensures.value ∙ place_is c.args.table.now c.self.inside.shelves.items)
