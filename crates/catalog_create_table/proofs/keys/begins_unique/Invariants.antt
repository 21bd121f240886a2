use Rattle.std.proofs.Common.{◌≡◌, map, drop}
use Rattle.sql_tree.specs.declared.statements.UniqueKey.{UniqueKey}
use Rattle.catalog_checks.specs.catalog_rules.Creating.{begins_key}
use Rattle.catalog_create_table.proofs.keys.begins_unique.Given as goal

abbrev pub invariant-loop-key : goal.invariant-loop-key
invariant-loop-key l = begins_key (map (λ (k : UniqueKey). k.columns) (drop l.key-index l.keys)) l.column ≡ begins_key (map (λ (k : UniqueKey). k.columns) l.keys) l.column
