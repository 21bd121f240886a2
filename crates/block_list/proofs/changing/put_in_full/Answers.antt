use Rattle.std.proofs.Common.{◌<◌, length, arith}
use Rattle.block_list.proofs.Changed.{becomes_split, becomes_next}
use Rattle.block_list.proofs.changing.put_in_full.Goals as goal

pub returns-then-spot-len-clause-blocks : goal.returns-then-spot-len-clause-blocks
returns-then-spot-len-clause-blocks c =
    becomes_next c.args.blocks.now.items c.put_last.new.blocks.items c.args.number c.args.spot.block c.args.spot.at c.requires.shaped
    (omega (arith, c.if-spot-len.true, c.len.ensures, c.args.blocks.now.ok.0)) c.if-spot-eq-HOLDS.true (omega (arith, c.requires.full, c.requires.within)) (omega (arith, c.requires.full)) c.put_last.ensures.blocks

pub returns-else-spot-eq-HOLDS-clause-blocks : goal.returns-else-spot-eq-HOLDS-clause-blocks
returns-else-spot-eq-HOLDS-clause-blocks c =
    let lt : c.args.spot.block < length c.args.blocks.now.items = omega (arith, c.requires.there, c.args.blocks.now.ok.0) in
    becomes_split c.args.blocks.now.items c.args.spot.block c.args.spot.at c.args.number c.split.new.blocks.items c.join_around.new.blocks.items c.requires.shaped lt c.requires.within c.requires.full c.split.ensures.blocks c.join_around.ensures.blocks
