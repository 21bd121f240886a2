use Rattle.std.proofs.Common.{◌≡◌, ◌++◌, drop, map}
use Rattle.val_types.specs.declared.definitions.ColumnDef.{ColumnDef}
use Rattle.changed_rows.specs.catalog_rules.Defined.{places_of}
use Rattle.changed_rows.specs.catalog_rules.Objects.{columns_of}
use Rattle.sql_statements.proofs.columns.all_places.Given as goal

abbrev pub invariant-loop-column : goal.invariant-loop-column
invariant-loop-column l =
    l.places ++ places_of (columns_of l.definition) (map (λ (c : ColumnDef). c.name) (drop l.column-index l.definition.columns)) ≡ places_of (columns_of l.definition) (columns_of l.definition)
