use Rattle.std.proofs.Common.{◌≡◌, map, drop}
use Rattle.sql_tree.specs.declared.statements.Column.{Column}
use Rattle.catalog_checks.specs.catalog_rules.Names.{has_twice}
use Rattle.catalog_create_table.proofs.keys.has_columns_twice.Given as goal

abbrev pub invariant-loop-i : goal.invariant-loop-i
invariant-loop-i l = has_twice (map (λ (c : Column). c.name) (drop l.i l.columns)) ≡ has_twice (map (λ (c : Column). c.name) l.columns)
