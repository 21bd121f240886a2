use Rattle.binlog_items.proofs.Encoding.{logged_front}
use Rattle.binlog_items.proofs.items.Items.cut.Goals as goal

pub invariant_of-self : goal.invariant_of-self
invariant_of-self c = rw c.cut.ensures (logged_front c.args.mark c.self.inside.cache c.self.invariant)
