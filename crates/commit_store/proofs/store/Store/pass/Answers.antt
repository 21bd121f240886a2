use Rattle.std.proofs.Common.{◌<◌, arith}
use Rattle.commit_store.proofs.Taking.{passed_begun, passed_committed}
use Rattle.commit_store.proofs.store.Store.pass.Goals as goal

pub returns-in-Committed : goal.returns-in-Committed
returns-in-Committed c = passed_committed c.args.self.now.next c.in-Committed.head c.args.self.now c.set_last.new.self c.in-Committed.is c.set_last.ensures.list c.set_last.ensures.room

pub put-requires : goal.put-requires
put-requires c = let some : 0 < c.args.self.now.ends.room = (rw c.in-LogBegun.is at c.requires) in omega (arith, c.set_last-in-LogBegun.ensures.room)

pub returns-in-LogBegun : goal.returns-in-LogBegun
returns-in-LogBegun c =
    passed_begun c.args.self.now.next c.in-LogBegun.old_end c.in-LogBegun.pos c.args.self.now c.set_last-in-LogBegun.new.self c.put.new.self c.in-LogBegun.is
    c.set_last-in-LogBegun.ensures.list c.set_last-in-LogBegun.ensures.room c.put.ensures.list c.put.ensures.room
