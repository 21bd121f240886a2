use Rattle.std.proofs.Common.{◌≡◌, ◌<◌, length, true, Some, None, sym, ◌∙◌, arith}
use Rattle.std.specs.Prelude.{is_some}
use Rattle.val_types.specs.Changes.{inverse, table_of}
use Rattle.table_rules.specs.Changes.{applied}
use Rattle.table_rules.specs.Stores.{place_of, keeps_put}
use Rattle.row_store.specs.Shelves.{store_of}
use Rattle.row_store.proofs.Shelved.{place_within, names_set, back_step, back_entries, taken_back, keeps_same, whole}
use Rattle.row_store.proofs.Unnamed.{none_applied}
use Rattle.table_rules.proofs.Leading.{still_same}
use Rattle.row_store.proofs.Setting.{still_set}
use Rattle.row_store.proofs.tables.Tables.take_back.Goals as goal

pub index_mut-requires : goal.index_mut-requires
index_mut-requires c =
    let at : place_of (table_of c.args.change) (store_of c.self.inside.shelves.items).tables ≡ Some c.in-Some.at = rw (c.self.view_is, ← c.table.ensures) (sym c.place.ensures ∙ c.in-Some.is) in
    let less : c.in-Some.at < length c.self.inside.shelves.items = place_within (table_of c.args.change) c.self.inside.shelves.items c.in-Some.at at in
    omega (arith, less, c.self.inside.shelves.ok)

pub take_back-requires-clause-step : goal.take_back-requires-clause-step
take_back-requires-clause-step c =
    let at : place_of (table_of c.args.change) (store_of c.self.inside.shelves.items).tables ≡ Some c.in-Some.at = rw (c.self.view_is, ← c.table.ensures) (sym c.place.ensures ∙ c.in-Some.is) in
    let step : is_some (applied (inverse c.args.change) (store_of c.self.inside.shelves.items).tables) ≡ true = rw c.self.view_is c.requires.step in
    back_step c.args.change c.self.inside.shelves.items c.in-Some.at c.index_mut.result.now c.index_mut.ensures.value at step

pub take_back-requires-clause-entries : goal.take_back-requires-clause-entries
take_back-requires-clause-entries c =
    let at : place_of (table_of c.args.change) (store_of c.self.inside.shelves.items).tables ≡ Some c.in-Some.at = rw (c.self.view_is, ← c.table.ensures) (sym c.place.ensures ∙ c.in-Some.is) in
    let kept : keeps_put (store_of c.self.inside.shelves.items) (inverse c.args.change) ≡ true = rw c.self.view_is c.requires.kept in
    back_entries c.args.change c.self.inside.shelves.items c.in-Some.at c.index_mut.result.now c.index_mut.ensures.value at kept

pub invariant_of-self : goal.invariant_of-self
invariant_of-self c = names_set c.self.inside.shelves.items c.in-Some.at c.take_back.new.self c.index_mut.result.now c.self.invariant c.index_mut.ensures.value c.take_back.ensures.stays.definition

pub returns-in-Some-clause-tables : goal.returns-in-Some-clause-tables
returns-in-Some-clause-tables c =
    let at : place_of (table_of c.args.change) (store_of c.self.inside.shelves.items).tables ≡ Some c.in-Some.at = rw (c.self.view_is, ← c.table.ensures) (sym c.place.ensures ∙ c.in-Some.is) in
    rw (← c.self.view_is)
    (taken_back c.args.change c.self.inside.shelves.items c.in-Some.at c.index_mut.result.now c.take_back.new.self c.index_mut.ensures.value c.take_back.ensures.stays.definition at c.take_back.ensures.rows)

pub returns-in-Some-clause-keys : goal.returns-in-Some-clause-keys
returns-in-Some-clause-keys c =
    let at : place_of (table_of c.args.change) (store_of c.self.inside.shelves.items).tables ≡ Some c.in-Some.at = rw (c.self.view_is, ← c.table.ensures) (sym c.place.ensures ∙ c.in-Some.is) in
    let less : c.in-Some.at < length c.self.inside.shelves.items = place_within (table_of c.args.change) c.self.inside.shelves.items c.in-Some.at at in
    rw (← c.self.view_is)
    (keeps_same c.self.inside.shelves.items c.in-Some.at c.index_mut.result.now c.take_back.new.self c.self.invariant less c.index_mut.ensures.value c.take_back.ensures.stays.definition c.take_back.ensures.keys)

pub returns-in-Some-clause-whole : goal.returns-in-Some-clause-whole
returns-in-Some-clause-whole c =
    whole _ (names_set c.self.inside.shelves.items c.in-Some.at c.take_back.new.self c.index_mut.result.now c.self.invariant c.index_mut.ensures.value c.take_back.ensures.stays.definition)

pub returns-in_default-clause-tables : goal.returns-in_default-clause-tables
returns-in_default-clause-tables c =
    let none : place_of (table_of c.args.change) c.args.self.now.tables ≡ None = rw (← c.table.ensures) (sym c.place.ensures ∙ c.in_default.is) in
    absurd (none_applied c.args.change c.args.self.now.tables none c.requires.step)

pub returns-in_default-clause-whole : goal.returns-in_default-clause-whole
returns-in_default-clause-whole c =
    let none : place_of (table_of c.args.change) c.args.self.now.tables ≡ None = rw (← c.table.ensures) (sym c.place.ensures ∙ c.in_default.is) in
    absurd (none_applied c.args.change c.args.self.now.tables none c.requires.step)

pub returns-in-Some-clause-still : goal.returns-in-Some-clause-still
returns-in-Some-clause-still c =
    rw (← c.self.view_is) (still_set c.self.inside.shelves.items c.in-Some.at c.index_mut.result.now c.take_back.new.self c.index_mut.ensures.value c.take_back.ensures.stays)

pub returns-in_default-clause-still : goal.returns-in_default-clause-still
returns-in_default-clause-still c = still_same c.args.self.now
