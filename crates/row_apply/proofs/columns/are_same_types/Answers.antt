use Rattle.std.proofs.Common.{arith}
use Rattle.row_apply.proofs.Alike.{none_left}
use Rattle.row_apply.proofs.columns.are_same_types.Goals as goal

pub returns-in_default : goal.returns-in_default
returns-in_default c = none_left c.args.map.now.kinds.now c.loop-kind.metadata.now c.loop-kind.kind-index c.loop-kind.columns.now _ (omega arith) (omega arith) c.loop-kind.invariant
