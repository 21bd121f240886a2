use Rattle.std.proofs.Common.{◌≡◌, Some, None, sym, ◌∙◌, ◌<◌, length, arith}
use Rattle.table_rules.specs.Stores.{place_of}
use Rattle.row_store.specs.Shelves.{store_of}
use Rattle.row_store.proofs.Shelved.{place_within, names_set, cleared_at, beside_at}
use Rattle.table_rules.proofs.Places.{nothing_cleared}
use Rattle.row_store.proofs.Staying.{committed_cleared, none_committed}
use Rattle.row_store.proofs.tables.Tables.clear.Goals as goal

pub index_mut-requires : goal.index_mut-requires
index_mut-requires c =
    let at : place_of c.args.table.now (store_of c.self.inside.shelves.items).tables ≡ Some c.in-Some.at = rw c.self.view_is (sym c.place.ensures ∙ c.in-Some.is) in
    let less : c.in-Some.at < length c.self.inside.shelves.items = place_within c.args.table.now c.self.inside.shelves.items c.in-Some.at at in
    omega (arith, less, c.self.inside.shelves.ok)

pub invariant_of-self : goal.invariant_of-self
invariant_of-self c = names_set c.self.inside.shelves.items c.in-Some.at c.clear.new.self c.index_mut.result.now c.self.invariant c.index_mut.ensures.value c.clear.ensures.definition

pub returns-in-Some-clause-tables : goal.returns-in-Some-clause-tables
returns-in-Some-clause-tables c =
    let at : place_of c.args.table.now (store_of c.self.inside.shelves.items).tables ≡ Some c.in-Some.at = rw c.self.view_is (sym c.place.ensures ∙ c.in-Some.is) in
    rw (← c.self.view_is)
    (cleared_at c.args.table.now c.self.inside.shelves.items c.in-Some.at c.index_mut.result.now c.clear.new.self c.index_mut.ensures.value c.clear.ensures.definition c.clear.ensures.rows at)

pub returns-in-Some-clause-keys : goal.returns-in-Some-clause-keys
returns-in-Some-clause-keys c =
    let at : place_of c.args.table.now (store_of c.self.inside.shelves.items).tables ≡ Some c.in-Some.at = rw c.self.view_is (sym c.place.ensures ∙ c.in-Some.is) in
    rw (← c.self.view_is)
    (beside_at c.args.table.now c.self.inside.shelves.items c.in-Some.at c.index_mut.result.now c.clear.new.self c.index_mut.ensures.value c.clear.ensures.definition at)

pub returns-in_default-clause-tables : goal.returns-in_default-clause-tables
returns-in_default-clause-tables c = nothing_cleared c.args.table.now c.args.self.now.tables (sym c.place.ensures ∙ c.in_default.is)

pub returns-in-Some-clause-committed : goal.returns-in-Some-clause-committed
returns-in-Some-clause-committed c =
    let at : place_of c.args.table.now (store_of c.self.inside.shelves.items).tables ≡ Some c.in-Some.at = rw c.self.view_is (sym c.place.ensures ∙ c.in-Some.is) in
    rw (← c.self.view_is)
    (committed_cleared c.args.table.now c.self.inside.shelves.items c.in-Some.at c.index_mut.result.now c.clear.new.self c.index_mut.ensures.value c.clear.ensures.definition c.clear.ensures.committed at)

pub returns-in_default-clause-committed : goal.returns-in_default-clause-committed
returns-in_default-clause-committed c =
    let none : place_of c.args.table.now (store_of c.self.inside.shelves.items).tables ≡ None = rw c.self.view_is (sym c.place.ensures ∙ c.in_default.is) in
    rw (← c.self.view_is)
    (nothing_cleared c.args.table.now (store_of c.self.inside.shelves.items).committed (none_committed c.args.table.now c.self.inside.shelves.items none))
