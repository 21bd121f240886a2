use Rattle.std.proofs.Common.{refl}
use Rattle.byte_fields.specs.Field.{number_bytes}
use Rattle.store_model.specs.Snapshots.{snapshot_body}
use Rattle.checkpoint_model.proofs.worked.pieces_by_hand.Goals as goal

pub returns-clause-new : goal.returns-clause-new
unfolding number_bytes snapshot_body
returns-clause-new c = refl

pub returns-clause-one_byte : goal.returns-clause-one_byte
unfolding number_bytes snapshot_body
returns-clause-one_byte c = refl

pub returns-clause-over : goal.returns-clause-over
unfolding number_bytes snapshot_body
returns-clause-over c = refl

pub returns-clause-closed : goal.returns-clause-closed
unfolding number_bytes snapshot_body
returns-clause-closed c = refl

pub returns-clause-gates : goal.returns-clause-gates
unfolding number_bytes snapshot_body
returns-clause-gates c = refl
