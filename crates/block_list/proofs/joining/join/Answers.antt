use Rattle.std.proofs.Common.{◌+◌, ◌<◌, length, arith}
use Rattle.block_list.proofs.Meeting.{alone, apart_read, one_read}
use Rattle.block_list.proofs.joining.join.Goals as goal
use Rattle.block_list.proofs.joining.join.Goals.{then-at-len-via-then-at-len, then-at-len-via-else-at-len+then-len-gt-HOLDS}

pub returns-then-at-len-clause-blocks : goal.returns-then-at-len-clause-blocks
returns-then-at-len-clause-blocks c =
    elim c.then-at-len.branch [
      | then-at-len-via-then-at-len w ↦ alone c.args.blocks.now.items c.args.at (omega (arith, w.if-at-len.true, c.len.ensures, c.args.blocks.now.ok.0))
      | then-at-len-via-else-at-len+then-len-gt-HOLDS w ↦
          let there : c.args.at + 1 < length c.args.blocks.now.items = omega (arith, w.if-at-len.false, c.len.ensures, c.requires.there, c.args.blocks.now.ok.0) in
          apart_read c.args.blocks.now.items c.args.at w.index.result.now w.index-else-at-len.result.now there w.index.ensures w.index-else-at-len.ensures
          (omega (arith, w.if-len-gt-HOLDS.true, w.len-else-at-len.ensures.count, w.len-else-at-len-2.ensures.count))
    ]

pub returns-clause-blocks : goal.returns-clause-blocks
returns-clause-blocks c =
    let there : c.args.at + 1 < length c.args.blocks.now.items = omega (arith, c.if-at-len.false, c.len.ensures, c.requires.there, c.args.blocks.now.ok.0) in
    rw c.move_tail.ensures.moved
    (one_read c.args.blocks.now.items c.args.at c.index.result.now c.index-else-at-len.result.now c.remove-behind.result c.index_mut.result.now c.remove-behind.new.self.items there
    c.index.ensures c.index-else-at-len.ensures (omega (arith, c.if-len-gt-HOLDS.false, c.len-else-at-len.ensures.count, c.len-else-at-len-2.ensures.count))
    c.remove-behind.ensures.value c.remove-behind.ensures.items c.index_mut.ensures.value)
