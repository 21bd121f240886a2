use Rattle.std.proofs.Common.{◌≡◌, ◌≤◌, drop, length}
use Rattle.val_types.specs.Keys.{values_at}
use Rattle.val_types.specs.Order.{key_order}
use Rattle.row_index.proofs.comparing.columns_cmp.Given as goal

-- the values so far are those that are looked for, so the rest decides
abbrev pub invariant-loop-i : goal.invariant-loop-i
invariant-loop-i l = record {
  within : l.i ≤ length l.values;
  rest : key_order (values_at (drop l.i l.columns) l.row) (drop l.i l.values) ≡ key_order (values_at l.columns l.row) l.values;
}
