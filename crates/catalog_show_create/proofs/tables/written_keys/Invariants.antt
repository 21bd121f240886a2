use Rattle.std.proofs.Common.{◌≡◌, map, take}
use Rattle.val_types.specs.declared.definitions.ColumnDef.{ColumnDef}
use Rattle.catalog_objects.specs.catalog_rules.Defined.{written_key}
use Rattle.catalog_show_create.proofs.tables.written_keys.Given as goal

abbrev pub invariant-loop-key : goal.invariant-loop-key
invariant-loop-key l = l.all ≡ map (written_key (map (λ (c : ColumnDef). c.name) l.columns)) (take l.key-index l.keys)
