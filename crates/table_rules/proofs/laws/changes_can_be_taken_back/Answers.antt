use Rattle.table_rules.proofs.Leading.{still_taken_back, noted_taken_back, last_taken_back, none_taken_back}
use Rattle.table_rules.proofs.laws.changes_can_be_taken_back.Goals as goal

pub returns-clause-none : goal.returns-clause-none
returns-clause-none c = none_taken_back

pub returns-clause-still : goal.returns-clause-still
returns-clause-still c = still_taken_back

pub returns-clause-noted : goal.returns-clause-noted
returns-clause-noted c = noted_taken_back

pub returns-clause-last : goal.returns-clause-last
returns-clause-last c = last_taken_back
