use Rattle.std.proofs.Common.{◌≡◌, drop}
use Rattle.val_types.specs.Keys.{values_at}
use Rattle.val_types.specs.Order.{key_order}
use Rattle.row_index.proofs.comparing.values_cmp.Given as goal

-- the values so far are the same, so the rest decides
abbrev pub invariant-loop-column : goal.invariant-loop-column
invariant-loop-column l =
    key_order (values_at (drop l.column-index l.column-items) l.row) (values_at (drop l.column-index l.column-items) l.other) ≡ key_order (values_at l.column-items l.row) (values_at l.column-items l.other)
