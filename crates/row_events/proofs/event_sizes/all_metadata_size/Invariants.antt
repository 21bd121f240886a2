use Rattle.std.proofs.Common.{◌≡◌, ◌+◌, ◌*◌, ◌≤◌, drop, length, map}
use Rattle.std.specs.Prelude.{flat_map}
use Rattle.log_model.specs.Items.{kind_of, type_metadata}
use Rattle.row_events.proofs.event_sizes.all_metadata_size.Given as goal

abbrev pub invariant-loop-column : goal.invariant-loop-column
invariant-loop-column l = record {
  exact : l.size + length (flat_map type_metadata (map kind_of (drop l.column-index l.columns))) ≡ length (flat_map type_metadata (map kind_of l.columns));
  few : l.size ≤ 2 * l.column-index;
}
