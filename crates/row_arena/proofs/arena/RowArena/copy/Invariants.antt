use Rattle.std.proofs.Common.{◌≡◌, take}
use Rattle.row_arena.proofs.arena.RowArena.copy.Given as goal

-- the rows so far are shared
abbrev pub invariant-loop-row : goal.invariant-loop-row
invariant-loop-row l = record { so_far : l.rows.items ≡ take l.row-index l.row-items }
