use Rattle.std.proofs.Common.{◌≡◌, map, drop, length, nat_lt}
use Rattle.std.specs.List.{list_any}
use Rattle.sql_tree.specs.declared.statements.UniqueKey.{UniqueKey}
use Rattle.catalog_create_table.proofs.keys.uniques_wide.Given as goal

abbrev pub invariant-loop-key : goal.invariant-loop-key
invariant-loop-key l = list_any (λ columns. nat_lt 4 (length columns)) (map (λ (k : UniqueKey). k.columns) (drop l.key-index l.keys)) ≡ list_any (λ columns. nat_lt 4 (length columns)) (map (λ (k : UniqueKey). k.columns) l.keys)
