use Rattle.std.proofs.Common.{refl}
use Rattle.byte_fields.specs.Field.{number_at}
use Rattle.gate_journal.specs.Records.{records}
use Rattle.gate_journal.proofs.worked.damage_by_hand.Goals as goal

pub returns-clause-no_length : goal.returns-clause-no_length
unfolding records number_at
returns-clause-no_length c = refl

pub returns-clause-no_body : goal.returns-clause-no_body
unfolding records number_at
returns-clause-no_body c = refl

pub returns-clause-no_gate : goal.returns-clause-no_gate
unfolding records number_at
returns-clause-no_gate c = refl

pub returns-clause-second : goal.returns-clause-second
unfolding records number_at
returns-clause-second c = refl

pub returns-clause-behind_closed : goal.returns-clause-behind_closed
unfolding records number_at
returns-clause-behind_closed c = refl
