use Rattle.std.proofs.Common.{◌≡◌, ◌++◌, map, drop}
use Rattle.row_store.proofs.Walking.{seen}
use Rattle.row_store.proofs.tables.Tables.copy.Given as goal

-- the shelves so far are copied
abbrev pub invariant-loop-shelf : goal.invariant-loop-shelf
invariant-loop-shelf l = map seen l.shelves.items ++ map seen (drop l.shelf-index l.shelf-items) ≡ map seen l.shelf-items
