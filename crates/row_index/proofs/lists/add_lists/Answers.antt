use Rattle.row_index.proofs.Listing.{keeps_on, keeps_pushed}
use Rattle.row_index.proofs.lists.add_lists.Goals as goal

pub loop-alloc-preserved : goal.loop-alloc-preserved
loop-alloc-preserved c =
    keeps_on c.args.lists.now.items c.loop-alloc.lists.items c.push.new.self.items c.loop-alloc.invariant (keeps_pushed c.loop-alloc.lists.items c.push.new.self.items c.new.result c.in_ok-push.ensures.items c.new.ensures.numbers)
