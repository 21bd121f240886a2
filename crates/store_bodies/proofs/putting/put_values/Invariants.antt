use Rattle.std.proofs.Common.{◌≡◌, ◌++◌, ◌≤◌, drop, length}
use Rattle.std.specs.Prelude.{flat_map}
use Rattle.std.specs.List.{AllByRecursion}
use Rattle.byte_fields.specs.Field.{BeginsWith}
use Rattle.store_model.specs.Bodies.{value_bytes, IsValue}
use Rattle.store_bodies.proofs.putting.put_values.Given as goal

abbrev pub invariant-loop-value : goal.invariant-loop-value
invariant-loop-value l = record {
  fit : AllByRecursion IsValue (drop l.value-index l.values);
  written : l.out ++ flat_map value_bytes (drop l.value-index l.values) ≡ l.fn.out ++ flat_map value_bytes l.values;
  front : BeginsWith l.out l.fn.out;
  long : length l.fn.out ≤ length l.out;
}
