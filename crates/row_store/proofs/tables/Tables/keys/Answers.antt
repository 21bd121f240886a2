use Rattle.std.proofs.Common.{◌≡◌, Some, sym, ◌∙◌, ◌<◌, length, arith}
use Rattle.table_rules.specs.Stores.{place_of}
use Rattle.row_store.specs.Shelves.{store_of}
use Rattle.table_rules.proofs.Places.{no_keys}
use Rattle.row_store.proofs.Shelved.{place_within, keys_of}
use Rattle.row_store.proofs.Beside.{if_ok}
use Rattle.row_store.proofs.tables.Tables.keys.Goals as goal

pub index-requires : goal.index-requires
index-requires c =
    let at : place_of c.args.table.now (store_of c.self.inside.shelves.items).tables ≡ Some c.in-Some.at = rw c.self.view_is (sym c.place.ensures ∙ c.in-Some.is) in
    let less : c.in-Some.at < length c.self.inside.shelves.items = place_within c.args.table.now c.self.inside.shelves.items c.in-Some.at at in
    omega (arith, less, c.self.inside.shelves.ok)

pub returns-in-None : goal.returns-in-None
returns-in-None c = c.new.ensures ∙ sym (no_keys c.args.table.now c.args.self.now.tables (sym c.place.ensures ∙ c.in-None.is))

pub returns-in-Some : goal.returns-in-Some
returns-in-Some c =
    let at : place_of c.args.table.now (store_of c.self.inside.shelves.items).tables ≡ Some c.in-Some.at = rw c.self.view_is (sym c.place.ensures ∙ c.in-Some.is) in
    rw (← c.self.view_is)
    (if_ok c.keys.result _ _ (λ keys e. e ∙ keys_of c.args.table.now c.self.inside.shelves.items c.in-Some.at c.index.result.now c.index.ensures at) c.keys.ensures)
