use Rattle.std.proofs.Common.{◌≡◌, drop}
use Rattle.val_types.specs.Keys.{same_values, values_at}
use Rattle.table_sheet.proofs.comparing.same_on.Given as goal

-- the values so far are the same, so the rest decides
abbrev pub invariant-loop-column : goal.invariant-loop-column
invariant-loop-column l =
    same_values (values_at (drop l.column-index l.column-items) l.a) (values_at (drop l.column-index l.column-items) l.b) ≡ same_values (values_at l.column-items l.a) (values_at l.column-items l.b)
