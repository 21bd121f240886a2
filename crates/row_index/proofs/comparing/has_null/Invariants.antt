use Rattle.std.proofs.Common.{◌≡◌, drop}
use Rattle.std.specs.List.{list_any}
use Rattle.val_types.specs.Fitting.{is_null}
use Rattle.val_types.specs.Keys.{values_at}
use Rattle.row_index.proofs.comparing.has_null.Given as goal

-- the values so far are not NULL, so the rest decides
abbrev pub invariant-loop-column : goal.invariant-loop-column
invariant-loop-column l = list_any is_null (values_at (drop l.column-index l.column-items) l.row) ≡ list_any is_null (values_at l.column-items l.row)
