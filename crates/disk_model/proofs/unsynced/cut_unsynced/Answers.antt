use Rattle.disk_model.proofs.Putting.{works_cut, cut_ok}
use Rattle.disk_model.proofs.unsynced.cut_unsynced.Goals as goal

pub returns-clause-reads : goal.returns-clause-reads
returns-clause-reads g c = cut_ok _ _ _ _ _ c.cut.ensures.story

pub returns-clause-works : goal.returns-clause-works
returns-clause-works g c = works_cut _ _ _ _ _ c.cut.ensures.story
