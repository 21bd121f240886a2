use Rattle.std.proofs.Common.{◌≡◌, map, drop}
use Rattle.sql_tree.specs.declared.statements.Column.{Column}
use Rattle.catalog_checks.specs.catalog_rules.Creating.{has_unknown}
use Rattle.catalog_create_table.proofs.keys.has_unknown.Given as goal

abbrev pub invariant-loop-name : goal.invariant-loop-name
invariant-loop-name l = has_unknown (map (λ (c : Column). c.name) l.columns) (drop l.name-index l.names) ≡ has_unknown (map (λ (c : Column). c.name) l.columns) l.names
