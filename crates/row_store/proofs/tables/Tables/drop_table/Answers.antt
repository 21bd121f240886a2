use Rattle.std.proofs.Common.{◌≡◌, Some, None, sym, ap, ◌∙◌, ◌<◌, length, arith}
use Rattle.table_rules.specs.Stores.{names_differ, place_of}
use Rattle.row_store.specs.Shelves.{definitions_on, store_of}
use Rattle.row_store.proofs.Shelved.{place_within, names_left, dropped_at, gone_at, beside_dropped}
use Rattle.table_rules.proofs.Places.{nothing_dropped, none_named}
use Rattle.row_store.proofs.Staying.{committed_dropped, none_committed}
use Rattle.row_store.proofs.tables.Tables.drop_table.Goals as goal

pub remove-requires : goal.remove-requires
remove-requires c =
    let at : place_of c.args.table.now (store_of c.self.inside.shelves.items).tables ≡ Some c.in-Some.at = rw c.self.view_is (sym c.place.ensures ∙ c.in-Some.is) in
    let less : c.in-Some.at < length c.self.inside.shelves.items = place_within c.args.table.now c.self.inside.shelves.items c.in-Some.at at in
    omega (arith, less, c.self.inside.shelves.ok)

pub invariant_of-self : goal.invariant_of-self
invariant_of-self c =
    let at : place_of c.args.table.now (store_of c.self.inside.shelves.items).tables ≡ Some c.in-Some.at = rw c.self.view_is (sym c.place.ensures ∙ c.in-Some.is) in
    ap (λ shelves. names_differ (definitions_on shelves)) c.remove.ensures.items ∙ names_left c.args.table.now c.self.inside.shelves.items c.in-Some.at c.self.invariant at

pub returns-in-Some-clause-tables : goal.returns-in-Some-clause-tables
returns-in-Some-clause-tables c =
    let at : place_of c.args.table.now (store_of c.self.inside.shelves.items).tables ≡ Some c.in-Some.at = rw c.self.view_is (sym c.place.ensures ∙ c.in-Some.is) in
    rw (← c.self.view_is) (ap (λ shelves. (store_of shelves).tables) c.remove.ensures.items ∙ dropped_at c.args.table.now c.self.inside.shelves.items c.in-Some.at at)

pub returns-in-Some-clause-gone : goal.returns-in-Some-clause-gone
returns-in-Some-clause-gone c =
    let at : place_of c.args.table.now (store_of c.self.inside.shelves.items).tables ≡ Some c.in-Some.at = rw c.self.view_is (sym c.place.ensures ∙ c.in-Some.is) in
    rw c.remove.ensures.items (gone_at c.args.table.now c.self.inside.shelves.items c.in-Some.at c.self.invariant at)

pub returns-in-Some-clause-keys : goal.returns-in-Some-clause-keys
returns-in-Some-clause-keys c =
    let at : place_of c.args.table.now (store_of c.self.inside.shelves.items).tables ≡ Some c.in-Some.at = rw c.self.view_is (sym c.place.ensures ∙ c.in-Some.is) in
    rw (← c.self.view_is, c.remove.ensures.items) (beside_dropped c.args.table.now c.self.inside.shelves.items c.in-Some.at at)

pub returns-in_default-clause-tables : goal.returns-in_default-clause-tables
returns-in_default-clause-tables c = nothing_dropped c.args.table.now c.args.self.now.tables (sym c.place.ensures ∙ c.in_default.is)

pub returns-in_default-clause-gone : goal.returns-in_default-clause-gone
returns-in_default-clause-gone c = none_named c.args.table.now c.args.self.now.tables (sym c.place.ensures ∙ c.in_default.is)

pub returns-in-Some-clause-committed : goal.returns-in-Some-clause-committed
returns-in-Some-clause-committed c =
    let at : place_of c.args.table.now (store_of c.self.inside.shelves.items).tables ≡ Some c.in-Some.at = rw c.self.view_is (sym c.place.ensures ∙ c.in-Some.is) in
    rw (← c.self.view_is) (ap (λ shelves. (store_of shelves).committed) c.remove.ensures.items ∙ committed_dropped c.args.table.now c.self.inside.shelves.items c.in-Some.at at)

pub returns-in_default-clause-committed : goal.returns-in_default-clause-committed
returns-in_default-clause-committed c =
    let none : place_of c.args.table.now (store_of c.self.inside.shelves.items).tables ≡ None = rw c.self.view_is (sym c.place.ensures ∙ c.in_default.is) in
    rw (← c.self.view_is)
    (nothing_dropped c.args.table.now (store_of c.self.inside.shelves.items).committed (none_committed c.args.table.now c.self.inside.shelves.items none))
