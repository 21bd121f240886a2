use Rattle.std.proofs.Common.{◌<◌, length, ap, arith}
use Rattle.block_list.proofs.Standing.{before_first}
use Rattle.block_list.proofs.blocks.Blocks.before.Goals as goal

pub returns-clause-some : goal.returns-clause-some
returns-clause-some c =
    let some : 0 < c.args.spot.block = omega (arith, c.if-spot-eq0.false) in
    let more : 0 < length c.numbers_of.result.now = c.numbers_of.ensures.some (omega (arith, some, (c.requires).0)) in (
      omega (arith, more, ap length c.numbers_of.ensures.value),
      before_first c.args.self.now.blocks c.args.spot.block c.args.spot.at (length c.numbers_of.result.now) (omega (arith, c.if-spot-gt0.false)) some (omega (arith, some, (c.requires).0))
          (ap length c.numbers_of.ensures.value) more,
    )
