use Rattle.store_load.proofs.reached.Reached.take.Goals as goal

pub returns-in-Transaction : goal.returns-in-Transaction
returns-in-Transaction c base made = rw c.in-Transaction.is (c.commit.ensures base made)

pub returns-in-Definition : goal.returns-in-Definition
returns-in-Definition c base made = rw c.in-Definition.is (c.commit-in-Definition.ensures base made)

pub returns-in_ok-begin_log-in-LogStart : goal.returns-in_ok-begin_log-in-LogStart
returns-in_ok-begin_log-in-LogStart c base made = rw c.in-LogStart.is (c.in_ok-begin_log-in-LogStart.ensures base made)

pub returns-in-TransactionApplied : goal.returns-in-TransactionApplied
returns-in-TransactionApplied c base made = rw c.in-TransactionApplied.is (c.carry_out.ensures base made)

pub returns-in-DefinitionApplied : goal.returns-in-DefinitionApplied
returns-in-DefinitionApplied c base made = rw c.in-DefinitionApplied.is (c.carry_out-in-DefinitionApplied.ensures base made)

pub returns-in-PlaceMoved : goal.returns-in-PlaceMoved
returns-in-PlaceMoved c base made = rw c.in-PlaceMoved.is (c.carry_out-in-PlaceMoved.ensures base made)
