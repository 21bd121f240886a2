use Rattle.std.proofs.Common.{◌≡◌, ◌++◌, ℕ, List, Some, drop, map}
use Rattle.std.specs.Option.{option_map}
use Rattle.val_types.specs.declared.value.Value.{Value}
use Rattle.table_rules.specs.Stored.{rows_of}
use Rattle.table_rules.specs.Stores.{place_of}
use Rattle.sql_tree.specs.View.{view_aggregate}
use Rattle.key_order.specs.Columns.{ends_in}
use Rattle.key_order.proofs.ends.ends.Given as goal

abbrev pub invariant-loop-one : goal.invariant-loop-one
invariant-loop-one l =
    (name : List ℕ) → place_of name l.tables.tables ≡ Some l.at
    → option_map (λ (rest : List Value). l.values ++ rest) (ends_in l.outside l.definition (rows_of name l.tables.tables) (map view_aggregate (drop l.one-index l.one-items))) ≡ ends_in l.outside l.definition (rows_of name l.tables.tables) (map view_aggregate l.one-items)
