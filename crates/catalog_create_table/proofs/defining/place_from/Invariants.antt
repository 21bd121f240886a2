use Rattle.std.proofs.Common.{◌≡◌, drop}
use Rattle.catalog_create_table.specs.Placed.{place_from}
use Rattle.catalog_create_table.proofs.defining.place_from.Given as goal

abbrev pub invariant-loop-column : goal.invariant-loop-column
invariant-loop-column l = (l.at ≡ l.column-index) × (place_from l.at (drop l.column-index l.columns) l.name ≡ place_from 0 l.columns l.name)
