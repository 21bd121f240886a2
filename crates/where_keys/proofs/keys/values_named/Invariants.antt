use Rattle.std.proofs.Common.{◌≡◌, ◌++◌, List, drop}
use Rattle.std.specs.Option.{option_map}
use Rattle.val_types.specs.declared.value.Value.{Value}
use Rattle.sql_tree.specs.View.{view_tree}
use Rattle.where_keys.specs.Keys.{key_in}
use Rattle.where_keys.proofs.keys.values_named.Given as goal

abbrev pub invariant-loop-column : goal.invariant-loop-column
invariant-loop-column l =
    option_map (λ (rest : List Value). l.values ++ rest) (key_in l.outside l.definition (view_tree l.condition) (drop l.column-index l.column-items)) ≡ key_in l.outside l.definition (view_tree l.condition) l.column-items
