use Rattle.std.proofs.Common.{◌≡◌, drop}
use Rattle.std.specs.List.{list_any}
use Rattle.catalog_checks.specs.catalog_rules.Creating.{has_ill_preset}
use Rattle.catalog_create_table.proofs.columns.has_ill_preset.Given as goal

abbrev pub invariant-loop-column : goal.invariant-loop-column
invariant-loop-column l = list_any has_ill_preset (drop l.column-index l.columns) ≡ list_any has_ill_preset l.columns
