use Rattle.commit_store.proofs.Standing.{keeps_roomy}
use Rattle.commit_store.proofs.Taking.{other_room}
use Rattle.commit_store.proofs.store.Store.make_room.Goals as goal

pub returns-clause-keeps : goal.returns-clause-keeps
returns-clause-keeps c t held keeps = keeps_roomy t c.args.self.now held c.make_room.new.self c.make_room.ensures.list keeps

pub returns-clause-rest : goal.returns-clause-rest
returns-clause-rest c = other_room c.args.self.now c.make_room.new.self c.make_room.ensures.list
