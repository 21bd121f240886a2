use Rattle.counting_laws.proofs.Counts.{inserts, updates, deletes, performed, statements}
use Rattle.counting_laws.proofs.laws.statements_count_changes.Goals as goal

pub returns-clause-inserts : goal.returns-clause-inserts
returns-clause-inserts c = inserts

pub returns-clause-updates : goal.returns-clause-updates
returns-clause-updates c = updates

pub returns-clause-deletes : goal.returns-clause-deletes
returns-clause-deletes c = deletes

pub returns-clause-performed : goal.returns-clause-performed
returns-clause-performed c = performed

pub returns-clause-statements : goal.returns-clause-statements
returns-clause-statements c = statements
