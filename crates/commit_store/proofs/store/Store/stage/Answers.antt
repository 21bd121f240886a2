use Rattle.commit_store.proofs.Standing.{images_stay, keeps_staged}
use Rattle.commit_store.proofs.store.Store.stage.Goals as goal

pub returns-clause-keeps : goal.returns-clause-keeps
returns-clause-keeps g c held keeps = keeps_staged _ c.args.self.now held keeps.holds _ c.stage.ensures.steps c.stage.result c.requires.prepared.0
    (c.stage.ensures.staged c.requires.prepared.0 c.requires.prepared.1) c.stage.ensures.records

pub returns-clause-images : goal.returns-clause-images
returns-clause-images g c held keeps = images_stay _ c.args.self.now held keeps.holds _ c.stage.ensures.steps
