use Rattle.std.proofs.Common.{◌≡◌, ◌++◌, ◌≤◌, drop, length}
use Rattle.std.specs.Prelude.{flat_map}
use Rattle.byte_fields.specs.Field.{BeginsWith}
use Rattle.store_model.specs.Snapshots.{end_bytes}
use Rattle.store_bodies.specs.Ends.{ends_at}
use Rattle.store_bodies.proofs.ends.put_each.Given as goal

abbrev pub invariant-loop-end : goal.invariant-loop-end
invariant-loop-end l = record {
  written : l.out ++ flat_map end_bytes (ends_at (drop l.end-index l.ends)) ≡ l.fn.out ++ flat_map end_bytes (ends_at l.ends);
  front : BeginsWith l.out l.fn.out;
  long : length l.fn.out ≤ length l.out;
}
