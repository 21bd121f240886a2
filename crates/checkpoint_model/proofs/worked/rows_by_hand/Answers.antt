use Rattle.std.proofs.Common.{refl}
use Rattle.byte_fields.specs.Field.{number_bytes}
use Rattle.store_model.specs.Bodies.{row_bytes}
use Rattle.store_model.specs.Snapshots.{snapshot_body}
use Rattle.checkpoint_model.proofs.worked.rows_by_hand.Goals as goal

pub returns-clause-source : goal.returns-clause-source
unfolding number_bytes snapshot_body row_bytes
returns-clause-source c = refl

pub returns-clause-of_143 : goal.returns-clause-of_143
unfolding number_bytes snapshot_body row_bytes
returns-clause-of_143 c = refl

pub returns-clause-replica : goal.returns-clause-replica
unfolding number_bytes snapshot_body row_bytes
returns-clause-replica c = refl
