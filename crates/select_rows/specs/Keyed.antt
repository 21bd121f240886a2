-- Rows with what they are ordered by, in order.
use Rattle.std.specs.Prelude.{Bool, List, [], ◌∷◌}
use Rattle.std.specs.Ordering.{is_lt}
use Rattle.value_rules.specs.Selecting.{by_items, in_order}
use Rattle.select_rows.specs.declared.keyed.Keyed.{Keyed}

-- whether a row comes before another by the values of its items
abbrev pub comes_before : List Bool → Keyed → Keyed → Bool
comes_before down x y = is_lt (by_items down x.by y.by)

-- the rows in order; which items are descending is what the first row says
abbrev pub ordered_rows : List Keyed → List Keyed
ordered_rows [] = []
ordered_rows (row ∷ rows) = in_order (comes_before row.down) (row ∷ rows)
