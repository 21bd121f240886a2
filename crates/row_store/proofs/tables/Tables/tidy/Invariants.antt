use Rattle.std.proofs.Common.{◌≡◌, length}
use Rattle.row_store.proofs.Setting.{GoesOn}
use Rattle.row_store.proofs.Staying.{IsTidied}
use Rattle.row_store.proofs.tables.Tables.tidy.Given as goal

-- the shelves so far are tidied
abbrev pub invariant-loop-i : goal.invariant-loop-i
invariant-loop-i l = record {
  long : length l.self-inside.shelves.items ≡ l.i-end;
  tidied : GoesOn IsTidied l.fn.self l.i l.self-inside.shelves.items;
}
