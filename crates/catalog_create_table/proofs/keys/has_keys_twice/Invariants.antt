use Rattle.std.proofs.Common.{◌≡◌, map, drop}
use Rattle.sql_tree.specs.declared.statements.UniqueKey.{UniqueKey}
use Rattle.catalog_checks.specs.catalog_rules.Names.{has_twice}
use Rattle.catalog_create_table.proofs.keys.has_keys_twice.Given as goal

abbrev pub invariant-loop-i : goal.invariant-loop-i
invariant-loop-i l = has_twice (map (λ (k : UniqueKey). k.name) (drop l.i l.keys)) ≡ has_twice (map (λ (k : UniqueKey). k.name) l.keys)
