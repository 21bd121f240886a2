use Rattle.std.proofs.Common.{◌≡◌, take}
use Rattle.table_sheet.proofs.overlay.Overlay.copy.Given as goal

-- the entries so far are copied
abbrev pub invariant-loop-entry : goal.invariant-loop-entry
invariant-loop-entry l = record { so_far : l.entries.items ≡ take l.entry-index l.entry-items }
