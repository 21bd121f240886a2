use Rattle.std.proofs.Common.{◌≡◌, ◌≤◌, ◌++◌, map, length, drop, ap, ◌∙◌, arith}
use Rattle.table_rules.specs.Stores.{Store}
use Rattle.row_store.proofs.Walking.{seen, same_tables, same_kept, same_committed, names_seen, all_seen}
use Rattle.row_store.proofs.tables.Tables.copy.Goals as goal

pub invariant_of-result : goal.invariant_of-result
invariant_of-result c =
    let past : length c.self.inside.shelves.items ≤ c.loop-shelf.shelf-index = omega arith in
    let so : map seen c.loop-shelf.shelves.items ++ map seen (drop c.loop-shelf.shelf-index c.self.inside.shelves.items) ≡ map seen c.self.inside.shelves.items =
    rw c.as_slice-shelf-items.ensures.value at c.loop-shelf.invariant in
    names_seen c.loop-shelf.shelves.items c.self.inside.shelves.items (all_seen c.loop-shelf.shelves.items c.self.inside.shelves.items c.loop-shelf.shelf-index past so) c.self.invariant

pub returns-clause-tables : goal.returns-clause-tables
returns-clause-tables c =
    let past : length c.self.inside.shelves.items ≤ c.loop-shelf.shelf-index = omega arith in
    let so : map seen c.loop-shelf.shelves.items ++ map seen (drop c.loop-shelf.shelf-index c.self.inside.shelves.items) ≡ map seen c.self.inside.shelves.items =
    rw c.as_slice-shelf-items.ensures.value at c.loop-shelf.invariant in
    same_tables c.loop-shelf.shelves.items c.self.inside.shelves.items (all_seen c.loop-shelf.shelves.items c.self.inside.shelves.items c.loop-shelf.shelf-index past so) ∙ ap (λ (store : Store). store.tables) c.self.view_is

pub returns-clause-kept : goal.returns-clause-kept
returns-clause-kept c =
    let past : length c.self.inside.shelves.items ≤ c.loop-shelf.shelf-index = omega arith in
    let so : map seen c.loop-shelf.shelves.items ++ map seen (drop c.loop-shelf.shelf-index c.self.inside.shelves.items) ≡ map seen c.self.inside.shelves.items =
    rw c.as_slice-shelf-items.ensures.value at c.loop-shelf.invariant in
    same_kept c.loop-shelf.shelves.items c.self.inside.shelves.items (all_seen c.loop-shelf.shelves.items c.self.inside.shelves.items c.loop-shelf.shelf-index past so) ∙ ap (λ (store : Store). store.kept) c.self.view_is

pub returns-clause-committed : goal.returns-clause-committed
returns-clause-committed c =
    let past : length c.self.inside.shelves.items ≤ c.loop-shelf.shelf-index = omega arith in
    let so : map seen c.loop-shelf.shelves.items ++ map seen (drop c.loop-shelf.shelf-index c.self.inside.shelves.items) ≡ map seen c.self.inside.shelves.items =
    rw c.as_slice-shelf-items.ensures.value at c.loop-shelf.invariant in
    same_committed c.loop-shelf.shelves.items c.self.inside.shelves.items (all_seen c.loop-shelf.shelves.items c.self.inside.shelves.items c.loop-shelf.shelf-index past so) ∙ ap (λ (store : Store). store.committed) c.self.view_is
