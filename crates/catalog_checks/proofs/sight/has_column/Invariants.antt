use Rattle.std.proofs.Common.{◌≡◌, map, drop}
use Rattle.val_types.specs.declared.definitions.ColumnDef.{ColumnDef}
use Rattle.catalog_objects.specs.catalog_rules.Names.{is_among}
use Rattle.catalog_checks.proofs.sight.has_column.Given as goal

-- none of the columns so far is the one
abbrev pub invariant-loop-own : goal.invariant-loop-own
invariant-loop-own l =
    is_among (map (λ (c : ColumnDef). c.name) (drop l.own-index l.own-items)) l.column ≡ is_among (map (λ (c : ColumnDef). c.name) l.definition.columns) l.column
