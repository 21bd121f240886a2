use Rattle.std.proofs.Common.{◌≡◌, ◌++◌, map, drop}
use Rattle.sql_tree.specs.declared.statements.Column.{Column}
use Rattle.catalog_checks.specs.catalog_rules.Defined.{places_of}
use Rattle.catalog_create_table.proofs.defining.places_of.Given as goal

abbrev pub invariant-loop-name : goal.invariant-loop-name
invariant-loop-name l = l.places ++ places_of (map (λ (c : Column). c.name) l.columns) (drop l.name-index l.name-items) ≡ places_of (map (λ (c : Column). c.name) l.columns) l.names
