use Rattle.std.proofs.Common.{◌≡◌, map, drop}
use Rattle.val_types.specs.declared.definitions.ColumnDef.{ColumnDef}
use Rattle.catalog_objects.specs.catalog_rules.Names.{has_twice}
use Rattle.catalog_checks.proofs.inserting.has_columns_twice.Given as goal

abbrev pub invariant-loop-i : goal.invariant-loop-i
invariant-loop-i l = has_twice (map (λ (c : ColumnDef). c.name) (drop l.i l.columns)) ≡ has_twice (map (λ (c : ColumnDef). c.name) l.columns)
