use Rattle.std.proofs.Common.{◌∙◌, arith}
use Rattle.block_list.proofs.Weights.{room_of_more}
use Rattle.block_list.proofs.blocks.Blocks.make_hold.Goals as goal

pub returns-in_err-add_spare-clause-room : goal.returns-in_err-add_spare-clause-room
returns-in_err-add_spare-clause-room c =
    room_of_more c.args.self.now.blocks c.add_spare.new.self.blocks c.args.self.now.spares c.add_spare.new.self.spares (c.add_spare.ensures.numbers ∙ c.loop-alloc.invariant.0)
    (omega (arith, c.in_err-add_spare.ensures.err, c.loop-alloc.invariant.1))

pub returns-clause-room : goal.returns-clause-room
returns-clause-room c = room_of_more c.args.self.now.blocks c.loop-alloc.self.blocks c.args.self.now.spares c.loop-alloc.self.spares c.loop-alloc.invariant.0 c.loop-alloc.invariant.1
