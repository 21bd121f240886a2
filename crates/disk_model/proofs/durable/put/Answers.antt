use Rattle.disk_model.proofs.Laws.{only_synced}
use Rattle.disk_model.proofs.Putting.{puts_write, puts_sync, put_reads}
use Rattle.disk_model.proofs.durable.put.Goals as goal

pub returns-in_err-write-clause-puts : goal.returns-in_err-write-clause-puts
returns-in_err-write-clause-puts g c = puts_write _ _ _ _ c.requires.durable c.requires.within _ _ c.write.ensures.story

pub returns-in_err-sync-clause-puts : goal.returns-in_err-sync-clause-puts
returns-in_err-sync-clause-puts g c = puts_sync _ _ _ _ c.requires.durable c.requires.within _ _ _ _ c.write.ensures.story c.sync.ensures.story

pub returns-clause-durable : goal.returns-clause-durable
returns-clause-durable g c = only_synced _ _ _ c.in_ok-sync.ensures.story

pub returns-clause-reads : goal.returns-clause-reads
returns-clause-reads g c = put_reads _ _ _ _ _ _ c.in_ok-write.ensures.room c.in_ok-write.ensures.story c.in_ok-sync.ensures.story

pub returns-clause-puts : goal.returns-clause-puts
returns-clause-puts g c = puts_sync _ _ _ _ c.requires.durable c.requires.within _ _ _ _ c.write.ensures.story c.sync.ensures.story
