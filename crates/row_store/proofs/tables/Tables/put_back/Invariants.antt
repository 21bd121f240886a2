use Rattle.std.proofs.Common.{length}
use Rattle.row_store.proofs.Asides.{PutsBack}
use Rattle.row_store.proofs.tables.Tables.put_back.Given as goal

-- what is left is still to be put back
abbrev pub invariant-loop-overlay : goal.invariant-loop-overlay
invariant-loop-overlay l = PutsBack l.overlays.items l.self-inside.shelves.items l.fn.aside l.fn.self

abbrev pub decreases-loop-overlay : goal.decreases-loop-overlay
decreases-loop-overlay l = length l.overlays.items
