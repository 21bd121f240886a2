use Rattle.std.proofs.Common.{◌<◌, ◌≤◌, length, arith}
use Rattle.row_store.proofs.Shelved.{none_past, names_set, stored_delete, keeps_set, before_here}
use Rattle.table_rules.proofs.Leading.{still_same}
use Rattle.row_store.proofs.Setting.{still_set}
use Rattle.row_store.proofs.tables.Tables.delete_at.Goals as goal

pub returns-then-at-len-clause-stored : goal.returns-then-at-len-clause-stored
returns-then-at-len-clause-stored c =
    let past : length c.self.inside.shelves.items ≤ c.args.at = omega arith in
    rw (← c.self.view_is) (λ name e. absurd (none_past name c.self.inside.shelves.items c.args.at past e))

pub invariant_of-self : goal.invariant_of-self
invariant_of-self c = names_set c.self.inside.shelves.items c.args.at c.delete.new.self c.index_mut.result.now c.self.invariant c.index_mut.ensures.value c.delete.ensures.stays.definition

pub returns-clause-stored : goal.returns-clause-stored
returns-clause-stored c =
    rw (← c.self.view_is)
    (stored_delete c.delete.result c.args.key.now c.self.inside.shelves.items c.args.at c.index_mut.result.now c.delete.new.self c.index_mut.ensures.value c.delete.ensures.stays.definition c.delete.ensures.stored)

pub returns-clause-before : goal.returns-clause-before
returns-clause-before c =
    rw (← c.self.view_is)
    (before_here c.delete.result c.args.key.now c.self.inside.shelves.items c.args.at c.index_mut.result.now c.delete.new.self c.index_mut.ensures.value c.delete.ensures.stays.definition c.delete.ensures.before)

pub returns-clause-keys : goal.returns-clause-keys
returns-clause-keys c =
    let less : c.args.at < length c.self.inside.shelves.items = omega arith in
    rw (← c.self.view_is)
    (keeps_set c.self.inside.shelves.items c.args.at c.index_mut.result.now c.delete.new.self c.self.invariant less c.index_mut.ensures.value c.delete.ensures.stays.definition c.delete.ensures.stays.entries)

pub returns-then-at-len-clause-still : goal.returns-then-at-len-clause-still
returns-then-at-len-clause-still c = still_same c.args.self.now

pub returns-clause-still : goal.returns-clause-still
returns-clause-still c =
    rw (← c.self.view_is) (still_set c.self.inside.shelves.items c.args.at c.index_mut.result.now c.delete.new.self c.index_mut.ensures.value c.delete.ensures.stays)
