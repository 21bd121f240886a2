use Rattle.std.proofs.Common.{◌≡◌, ◌+◌, ◌-◌, ◌^◌, ◌≤◌, drop, length, map}
use Rattle.log_model.specs.Images.{values_bytes}
use Rattle.log_model.specs.Items.{kind_of}
use Rattle.row_events.specs.Sizes.{bounded}
use Rattle.row_events.proofs.image_sizes.values_size.Given as goal

abbrev pub invariant-loop-place : goal.invariant-loop-place
invariant-loop-place l = record {
  same : bounded (l.size + length (values_bytes (map kind_of (drop l.place l.columns)) (drop l.place l.row))) ≡ bounded (length (values_bytes (map kind_of l.columns) l.row));
  fits : l.size ≤ 2 ^ 64 - 1;
}
