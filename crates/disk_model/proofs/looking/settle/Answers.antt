use Rattle.disk_model.proofs.Quiet.{quiet_sync, settled_ok}
use Rattle.disk_model.proofs.looking.settle.Goals as goal

pub returns-clause-durable : goal.returns-clause-durable
returns-clause-durable g c = settled_ok _ _ _ _ c.sync.ensures.story

pub returns-clause-quiet : goal.returns-clause-quiet
returns-clause-quiet g c = quiet_sync _ _ _ _ c.sync.ensures.story
