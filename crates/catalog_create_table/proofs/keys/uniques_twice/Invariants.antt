use Rattle.std.proofs.Common.{◌≡◌, map, drop}
use Rattle.std.specs.List.{list_any}
use Rattle.sql_tree.specs.declared.statements.UniqueKey.{UniqueKey}
use Rattle.catalog_checks.specs.catalog_rules.Names.{has_twice}
use Rattle.catalog_create_table.proofs.keys.uniques_twice.Given as goal

abbrev pub invariant-loop-key : goal.invariant-loop-key
invariant-loop-key l = list_any has_twice (map (λ (k : UniqueKey). k.columns) (drop l.key-index l.keys)) ≡ list_any has_twice (map (λ (k : UniqueKey). k.columns) l.keys)
