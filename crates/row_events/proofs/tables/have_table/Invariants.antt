use Rattle.std.proofs.Common.{◌≡◌, ◌≤◌, length, map, take}
use Rattle.val_types.specs.Changes.{table_of}
use Rattle.row_events.specs.Tables.{has}
use Rattle.row_events.proofs.tables.have_table.Given as goal

abbrev pub invariant-loop-left : goal.invariant-loop-left
invariant-loop-left l = record {
  within : l.left ≤ length l.changes;
  same : has (map table_of (take l.left l.changes)) l.name ≡ has (map table_of l.changes) l.name;
}

abbrev pub decreases-loop-left : goal.decreases-loop-left
decreases-loop-left l = l.left
