use Rattle.std.proofs.Common.{◌≡◌, ◌++◌, drop}
use Rattle.std.specs.Prelude.{flat_map}
use Rattle.store_model.specs.Bodies.{row_bytes}
use Rattle.snapshot_bodies.proofs.objects.put_rows.Given as goal

abbrev pub invariant-loop-row : goal.invariant-loop-row
invariant-loop-row l = l.out ++ flat_map row_bytes (drop l.row-index l.rows) ≡ l.fn.out ++ flat_map row_bytes l.rows
