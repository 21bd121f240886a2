use Rattle.std.proofs.Common.{◌≡◌, ◌++◌, ◌≤◌, drop, length}
use Rattle.std.specs.Prelude.{flat_map}
use Rattle.std.specs.List.{AllByRecursion}
use Rattle.byte_fields.specs.Field.{BeginsWith}
use Rattle.store_model.specs.Bodies.{change_bytes, IsChange}
use Rattle.store_bodies.proofs.putting.put_each.Given as goal

abbrev pub invariant-loop-change : goal.invariant-loop-change
invariant-loop-change l = record {
  fit : AllByRecursion IsChange (drop l.change-index l.changes);
  written : l.out ++ flat_map change_bytes (drop l.change-index l.changes) ≡ l.fn.out ++ flat_map change_bytes l.changes;
  front : BeginsWith l.out l.fn.out;
  long : length l.fn.out ≤ length l.out;
}
