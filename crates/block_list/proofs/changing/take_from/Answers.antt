use Rattle.std.proofs.Common.{◌≡◌, ◌<◌, length, ap, arith}
use Rattle.std.proofs.lemmas.List.{nil_from_length}
use Rattle.block_list.proofs.Changed.{becomes_taken, becomes_emptied, number_is, there, written}
use Rattle.block_list.proofs.changing.take_from.Goals as goal

pub returns-then-len-eq0-clause-number : goal.returns-then-len-eq0-clause-number
returns-then-len-eq0-clause-number c =
    number_is c.args.blocks.now.items c.args.spot.block c.args.spot.at c.remove-number.result c.index_mut.result.now (there c.args.blocks.now.items c.args.spot.block c.args.spot.at c.requires.spot) c.requires.spot c.index_mut.ensures.value c.remove-number.ensures.number

pub returns-then-len-eq0-clause-blocks : goal.returns-then-len-eq0-clause-blocks
returns-then-len-eq0-clause-blocks c =
    let lt : c.args.spot.block < length c.args.blocks.now.items = there c.args.blocks.now.items c.args.spot.block c.args.spot.at c.requires.spot in
    let same : c.index.result.now ≡ c.remove-number.new.self = written c.args.blocks.now.items c.args.spot.block c.remove-number.new.self c.index.result.now lt c.index.ensures in
    becomes_emptied c.args.blocks.now.items c.args.spot.block c.args.spot.at c.index_mut.result.now c.remove-number.new.self c.remove.new.self.items c.requires.shaped lt c.requires.spot c.index_mut.ensures.value c.remove-number.ensures.rest
    (nil_from_length c.remove-number.new.self (omega (arith, ap length same, c.len.ensures.count, c.if-len-eq0.true))) c.remove.ensures.items

pub returns-else-len-eq0-clause-number : goal.returns-else-len-eq0-clause-number
returns-else-len-eq0-clause-number c =
    number_is c.args.blocks.now.items c.args.spot.block c.args.spot.at c.remove-number.result c.index_mut.result.now (there c.args.blocks.now.items c.args.spot.block c.args.spot.at c.requires.spot) c.requires.spot c.index_mut.ensures.value c.remove-number.ensures.number

pub returns-else-len-eq0-clause-blocks : goal.returns-else-len-eq0-clause-blocks
returns-else-len-eq0-clause-blocks c =
    let lt : c.args.spot.block < length c.args.blocks.now.items = there c.args.blocks.now.items c.args.spot.block c.args.spot.at c.requires.spot in
    let same : c.index.result.now ≡ c.remove-number.new.self = written c.args.blocks.now.items c.args.spot.block c.remove-number.new.self c.index.result.now lt c.index.ensures in
    becomes_taken c.args.blocks.now.items c.args.spot.block c.args.spot.at c.index_mut.result.now c.remove-number.new.self c.join_around.new.blocks.items c.requires.shaped lt c.requires.spot c.index_mut.ensures.value c.remove-number.ensures.rest
    (omega (arith, ap length same, c.len.ensures.count, c.if-len-eq0.false)) c.join_around.ensures.blocks
