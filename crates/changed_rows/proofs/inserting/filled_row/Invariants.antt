use Rattle.changed_rows.proofs.Inserts.{FillsLeft}
use Rattle.changed_rows.proofs.inserting.filled_row.Given as goal

abbrev pub invariant-loop-place : goal.invariant-loop-place
invariant-loop-place l = FillsLeft l.definition l.places l.fn.values l.place-index l.row l.rest
