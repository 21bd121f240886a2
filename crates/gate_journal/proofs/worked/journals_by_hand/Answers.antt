use Rattle.std.proofs.Common.{refl}
use Rattle.byte_fields.specs.Field.{number_at}
use Rattle.gate_journal.specs.Records.{records}
use Rattle.gate_journal.proofs.worked.journals_by_hand.Goals as goal

pub returns-clause-none : goal.returns-clause-none
unfolding records number_at
returns-clause-none c = refl

pub returns-clause-one_byte : goal.returns-clause-one_byte
unfolding records number_at
returns-clause-one_byte c = refl

pub returns-clause-closed : goal.returns-clause-closed
unfolding records number_at
returns-clause-closed c = refl

pub returns-clause-two : goal.returns-clause-two
unfolding records number_at
returns-clause-two c = refl

pub returns-clause-staged : goal.returns-clause-staged
unfolding records number_at
returns-clause-staged c = refl

pub returns-clause-opened : goal.returns-clause-opened
unfolding records number_at
returns-clause-opened c = refl

pub returns-clause-at_gate : goal.returns-clause-at_gate
unfolding records number_at
returns-clause-at_gate c = refl
