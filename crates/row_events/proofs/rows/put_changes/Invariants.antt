use Rattle.std.proofs.Common.{◌≡◌, ◌++◌, drop}
use Rattle.std.specs.Prelude.{flat_map}
use Rattle.log_model.specs.Images.{change_bytes}
use Rattle.row_image.specs.Walk.{types_in}
use Rattle.row_events.specs.Runs.{HaveRows}
use Rattle.row_events.proofs.rows.put_changes.Given as goal

abbrev pub invariant-loop-change : goal.invariant-loop-change
invariant-loop-change l = record {
  rows : HaveRows (types_in l.columns) (drop l.change-index l.changes);
  written : l.out ++ flat_map (change_bytes (types_in l.columns)) (drop l.change-index l.changes) ≡ l.fn.out ++ flat_map (change_bytes (types_in l.columns)) l.changes;
}
