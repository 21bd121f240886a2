use Rattle.std.proofs.Common.{◌≡◌, map, drop}
use Rattle.val_types.specs.declared.definitions.ColumnDef.{ColumnDef}
use Rattle.catalog_objects.specs.catalog_rules.Names.{is_among}
use Rattle.catalog_checks.proofs.inserting.is_column.Given as goal

abbrev pub invariant-loop-column : goal.invariant-loop-column
invariant-loop-column l = is_among (map (λ (c : ColumnDef). c.name) (drop l.column-index l.columns)) l.name ≡ is_among (map (λ (c : ColumnDef). c.name) l.columns) l.name
