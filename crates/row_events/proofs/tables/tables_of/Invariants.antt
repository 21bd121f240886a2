use Rattle.std.proofs.Common.{◌≡◌, ◌++◌, map, take, drop}
use Rattle.val_types.specs.Changes.{table_of}
use Rattle.log_model.specs.Items.{tables_of}
use Rattle.row_events.specs.Tables.{new_among}
use Rattle.row_events.proofs.tables.tables_of.Given as goal

abbrev pub invariant-loop-place : goal.invariant-loop-place
invariant-loop-place l = l.names ++ new_among (map table_of (take l.place l.changes)) (map table_of (drop l.place l.changes)) ≡ tables_of l.changes
