use Rattle.replay_log.proofs.Applying.{is_fresh}
use Rattle.replay_log.proofs.replaying.Replaying.new.Goals as goal

pub returns-clause-fresh : goal.returns-clause-fresh
returns-clause-fresh c = is_fresh c.args.node c.want-log.result.0 c.want-log.result.1 c.requires c.want-log.ensures
