use Rattle.std.proofs.Common.{◌≡◌, ◌<◌, ◌≤◌, length, true, sym, ◌∙◌, arith}
use Rattle.val_types.specs.Fitting.{row_fits}
use Rattle.table_rules.specs.Stores.{fits_at}
use Rattle.row_store.specs.Shelves.{store_of}
use Rattle.row_store.proofs.Shelved.{none_past, fits_shelf_at, names_set, stored_insert, kept_here, keeps_set}
use Rattle.table_rules.proofs.Leading.{still_same}
use Rattle.row_store.proofs.Setting.{still_set}
use Rattle.row_store.proofs.tables.Tables.insert_at.Goals as goal

pub returns-then-at-len-clause-stored : goal.returns-then-at-len-clause-stored
returns-then-at-len-clause-stored c =
    let past : length c.self.inside.shelves.items ≤ c.args.at = omega arith in
    rw (← c.self.view_is) (λ name e. absurd (none_past name c.self.inside.shelves.items c.args.at past e))

pub insert-requires : goal.insert-requires
insert-requires c =
    let less : c.args.at < length c.self.inside.shelves.items = omega arith in
    let fits : fits_at c.args.at c.args.row (store_of c.self.inside.shelves.items).tables ≡ true = rw c.self.view_is c.requires in
    sym (fits_shelf_at c.args.row c.self.inside.shelves.items c.args.at c.index_mut.result.now less c.index_mut.ensures.value) ∙ fits

pub invariant_of-self : goal.invariant_of-self
invariant_of-self c = names_set c.self.inside.shelves.items c.args.at c.insert.new.self c.index_mut.result.now c.self.invariant c.index_mut.ensures.value c.insert.ensures.stays.definition

pub returns-clause-stored : goal.returns-clause-stored
returns-clause-stored c =
    let less : c.args.at < length c.self.inside.shelves.items = omega arith in
    let fits : fits_at c.args.at c.args.row (store_of c.self.inside.shelves.items).tables ≡ true = rw c.self.view_is c.requires in
    let row : row_fits c.index_mut.result.now.sheet.definition.columns c.args.row ≡ true = sym (fits_shelf_at c.args.row c.self.inside.shelves.items c.args.at c.index_mut.result.now less c.index_mut.ensures.value) ∙ fits in
    rw (← c.self.view_is)
    (stored_insert c.insert.result c.args.row c.self.inside.shelves.items c.args.at c.index_mut.result.now c.insert.new.self c.index_mut.ensures.value c.insert.ensures.stays.definition row c.insert.ensures.stored)

pub returns-clause-kept : goal.returns-clause-kept
returns-clause-kept c =
    rw (← c.self.view_is)
    (kept_here _ c.insert.result c.args.row c.self.inside.shelves.items c.args.at c.index_mut.result.now c.insert.new.self c.index_mut.ensures.value c.insert.ensures.stays.definition c.insert.ensures.entry)

pub returns-clause-keys : goal.returns-clause-keys
returns-clause-keys c =
    let less : c.args.at < length c.self.inside.shelves.items = omega arith in
    rw (← c.self.view_is)
    (keeps_set c.self.inside.shelves.items c.args.at c.index_mut.result.now c.insert.new.self c.self.invariant less c.index_mut.ensures.value c.insert.ensures.stays.definition c.insert.ensures.stays.entries)

pub returns-then-at-len-clause-still : goal.returns-then-at-len-clause-still
returns-then-at-len-clause-still c = still_same c.args.self.now

pub returns-clause-still : goal.returns-clause-still
returns-clause-still c =
    rw (← c.self.view_is) (still_set c.self.inside.shelves.items c.args.at c.index_mut.result.now c.insert.new.self c.index_mut.ensures.value c.insert.ensures.stays)
