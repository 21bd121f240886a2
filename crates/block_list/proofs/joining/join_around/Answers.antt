use Rattle.std.proofs.Common.{◌<◌, length, arith, ◌∙◌}
use Rattle.block_list.proofs.Splitting.{around, around_has}
use Rattle.block_list.proofs.joining.join_around.Goals as goal

pub join-requires-then-first-gt0-clause-there : goal.join-requires-then-first-gt0-clause-there
join-requires-then-first-gt0-clause-there c =
    let there : c.args.last < length c.args.blocks.now.items = omega (arith, c.requires.there, c.args.blocks.now.ok.0) in
    omega (arith, c.if-first-gt0.true, c.join.new.blocks.ok.0, around_has c.args.blocks.now.items c.join.new.blocks.items c.args.first c.args.last c.requires.order there c.join.ensures.blocks)

pub returns-then-first-gt0-clause-blocks : goal.returns-then-first-gt0-clause-blocks
returns-then-first-gt0-clause-blocks c =
    let there : c.args.last < length c.args.blocks.now.items = omega (arith, c.requires.there, c.args.blocks.now.ok.0) in
    c.join-then-first-gt0.ensures.blocks
    ∙ around c.args.blocks.now.items c.join.new.blocks.items c.args.first c.args.last c.if-first-gt0.true c.requires.order there c.join.ensures.blocks
