use Rattle.std.proofs.Common.{◌+◌, ◌<◌, length, ap, arith}
use Rattle.block_list.proofs.Standing.{some_at, next_place, at_end}
use Rattle.block_list.proofs.blocks.Blocks.standing.Goals as goal

pub returns-then-spot-blocks-clause-some : goal.returns-then-spot-blocks-clause-some
returns-then-spot-blocks-clause-some c =
    let lt : c.args.spot.block + 1 < length c.args.self.now.blocks = omega (arith, c.if-spot-blocks.true, c.block_count-blocks.ensures.count) in (
      some_at c.args.self.now.blocks (c.args.spot.block + 1) c.block_count-blocks.ensures.shaped lt,
      next_place c.args.self.now.blocks c.args.spot.block c.args.spot.at lt (c.requires).1 (omega (arith, c.if-spot-numbers_of.false, ap length c.numbers_of.ensures.value)),
    )

pub returns-clause-none : goal.returns-clause-none
returns-clause-none c =
    at_end c.args.self.now.blocks c.args.spot.block c.args.spot.at (c.requires).0 (omega (arith, c.if-spot-blocks.false, c.block_count-blocks.ensures.count)) (c.requires).1
    (omega (arith, c.if-spot-numbers_of.false, ap length c.numbers_of.ensures.value))
