use Rattle.disk_model.proofs.Putting.{works_write, written_ok}
use Rattle.disk_model.proofs.unsynced.write_unsynced.Goals as goal

pub returns-clause-reads : goal.returns-clause-reads
returns-clause-reads g c = written_ok _ _ _ _ _ _ c.write.ensures.room c.write.ensures.story

pub returns-clause-works : goal.returns-clause-works
returns-clause-works g c = works_write _ _ _ _ _ _ c.write.ensures.story
