use Rattle.std.proofs.Common.{◌≡◌, ◌+◌, ◌-◌, ◌^◌, ◌≤◌, drop, take, length, map}
use Rattle.val_types.specs.Changes.{table_of}
use Rattle.event_codec.specs.Event.{table_map}
use Rattle.log_model.specs.Items.{maps_from, tables_of}
use Rattle.row_events.specs.Sizes.{bounded, sizes}
use Rattle.row_events.specs.Tables.{new_among}
use Rattle.row_events.proofs.event_sizes.maps_size.Given as goal

abbrev pub invariant-loop-place : goal.invariant-loop-place
invariant-loop-place l = record {
  same : bounded (l.size + sizes (map table_map (maps_from 1 l.defs (new_among (map table_of (take l.place l.changes)) (map table_of (drop l.place l.changes))))))
      ≡ bounded (sizes (map table_map (maps_from 1 l.defs (tables_of l.changes))));
  fits : l.size ≤ 2 ^ 64 - 1;
}
