use Rattle.commit_store.proofs.Standing.{images_stay, keeps_started}
use Rattle.commit_store.proofs.store.Store.start.Goals as goal

pub returns-clause-keeps : goal.returns-clause-keeps
returns-clause-keeps g c held holds = keeps_started _ c.args.self.now held holds _ c.start.ensures.steps c.start.result c.start.new.self c.start.ensures.file c.start.ensures.rests c.start.ensures.records

pub returns-clause-images : goal.returns-clause-images
returns-clause-images g c held holds = images_stay _ c.args.self.now held holds _ c.start.ensures.steps
