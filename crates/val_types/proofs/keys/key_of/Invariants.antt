use Rattle.std.proofs.Common.{◌≡◌, take}
use Rattle.val_types.specs.Keys.{values_at}
use Rattle.val_types.proofs.keys.key_of.Given as goal

-- the key so far has the values of the columns so far
abbrev pub invariant-loop-column : goal.invariant-loop-column
invariant-loop-column l = l.key ≡ values_at (take l.column-index l.column-items) l.row
