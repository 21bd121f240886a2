use Rattle.std.proofs.Common.{◌≡◌, drop}
use Rattle.catalog_create_table.specs.Placed.{auto_from}
use Rattle.catalog_create_table.proofs.defining.auto_from.Given as goal

abbrev pub invariant-loop-column : goal.invariant-loop-column
invariant-loop-column l = (l.at ≡ l.column-index) × (auto_from l.at (drop l.column-index l.columns) ≡ auto_from 0 l.columns)
