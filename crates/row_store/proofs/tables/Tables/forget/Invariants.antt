use Rattle.std.proofs.Common.{◌≡◌, length}
use Rattle.row_store.proofs.Setting.{GoesOn}
use Rattle.row_store.proofs.Asides.{IsBare}
use Rattle.row_store.proofs.tables.Tables.forget.Given as goal

-- the shelves so far show the rows that are there to stay
abbrev pub invariant-loop-i : goal.invariant-loop-i
invariant-loop-i l = record {
  long : length l.self-inside.shelves.items ≡ l.i-end;
  bare : GoesOn IsBare l.fn.self l.i l.self-inside.shelves.items;
}
