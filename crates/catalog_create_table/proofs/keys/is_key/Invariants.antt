use Rattle.std.proofs.Common.{◌≡◌, map, drop}
use Rattle.sql_tree.specs.declared.statements.UniqueKey.{UniqueKey}
use Rattle.catalog_checks.specs.catalog_rules.Names.{is_among}
use Rattle.catalog_create_table.proofs.keys.is_key.Given as goal

abbrev pub invariant-loop-key : goal.invariant-loop-key
invariant-loop-key l = is_among (map (λ (k : UniqueKey). k.name) (drop l.key-index l.keys)) l.name ≡ is_among (map (λ (k : UniqueKey). k.name) l.keys) l.name
