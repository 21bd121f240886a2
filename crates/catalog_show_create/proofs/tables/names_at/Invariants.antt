use Rattle.std.proofs.Common.{◌≡◌, map, take}
use Rattle.val_types.specs.declared.definitions.ColumnDef.{ColumnDef}
use Rattle.catalog_objects.specs.catalog_rules.Defined.{names_at}
use Rattle.catalog_show_create.proofs.tables.names_at.Given as goal

abbrev pub invariant-loop-place : goal.invariant-loop-place
invariant-loop-place l = l.names ≡ names_at (map (λ (c : ColumnDef). c.name) l.columns) (take l.place-index l.places)
