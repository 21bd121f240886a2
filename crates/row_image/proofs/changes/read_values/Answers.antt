use Rattle.std.proofs.Common.{arith}
use Rattle.row_image.proofs.Columns.{made_value}
use Rattle.row_image.proofs.changes.read_values.Goals as goal

pub loop-kind-preserved : goal.loop-kind-preserved
loop-kind-preserved c = record {
  at = omega arith;
  same =
      made_value _ _ _ _ _ _ _ _ _ _ _ _ _ _ c.loop-kind.invariant.at (omega arith) c.column_type.ensures c.in-Some.ensures c.in_ok-kept-in-Some.ensures
      c.in_ok-push-in-Some.ensures.ok c.behind_type-metadata.ensures c.loop-kind.invariant.same;
}
