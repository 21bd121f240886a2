use Rattle.std.proofs.Common.{◌≡◌, ◌++◌, ◌≤◌, drop, length}
use Rattle.byte_fields.specs.Field.{BeginsWith}
use Rattle.log_model.specs.Images.{IsRow, values_bytes}
use Rattle.row_image.specs.Walk.{types_in}
use Rattle.row_image.proofs.row.put_values.Given as goal

abbrev pub invariant-loop-column : goal.invariant-loop-column
invariant-loop-column l = record {
  fits : IsRow (types_in (drop l.column l.columns)) (drop l.column l.row);
  written : l.out ++ values_bytes (types_in (drop l.column l.columns)) (drop l.column l.row) ≡ l.fn.out ++ values_bytes (types_in l.columns) l.row;
  front : BeginsWith l.out l.fn.out;
  long : length l.fn.out ≤ length l.out;
}
