use Rattle.store_load.proofs.applying.is_next.Goals as goal

pub returns-in-Transaction : goal.returns-in-Transaction
returns-in-Transaction c base = rw c.in-Transaction.is (c.is_next_commit.ensures base)

pub returns-in-Definition : goal.returns-in-Definition
returns-in-Definition c base = rw c.in-Definition.is (c.is_next_commit-in-Definition.ensures base)

pub returns-in-LogStart : goal.returns-in-LogStart
returns-in-LogStart c base = rw c.in-LogStart.is (c.begins_log.ensures base)
