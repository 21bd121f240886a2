use Rattle.std.proofs.Common.{◌≡◌, ◌≤◌, length}
use Rattle.std.specs.Prelude.{vec_capacity, vec_len}
use Rattle.row_store.proofs.Asides.{Takes}
use Rattle.row_store.proofs.tables.Tables.set_aside.Given as goal

-- the shelves so far are set aside, and there is room for the others
abbrev pub invariant-loop-i : goal.invariant-loop-i
invariant-loop-i l = record {
  long : length l.self-inside.shelves.items ≡ l.count;
  so_far : length l.overlays.items ≡ l.i;
  len : vec_len l.overlays ≡ l.i;
  room : l.count ≤ vec_capacity l.overlays;
  takes : Takes l.fn.self l.overlays.items l.self-inside.shelves.items;
}
