use Rattle.std.proofs.Common.{◌≡◌, map, drop}
use Rattle.sql_tree.specs.declared.statements.Column.{Column}
use Rattle.catalog_checks.specs.catalog_rules.Names.{is_among}
use Rattle.catalog_create_table.proofs.keys.is_column.Given as goal

abbrev pub invariant-loop-column : goal.invariant-loop-column
invariant-loop-column l = is_among (map (λ (c : Column). c.name) (drop l.column-index l.columns)) l.name ≡ is_among (map (λ (c : Column). c.name) l.columns) l.name
