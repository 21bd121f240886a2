use Rattle.std.proofs.Common.{length, ap, arith}
use Rattle.block_list.proofs.Standing.{at_end}
use Rattle.block_list.proofs.blocks.Blocks.end.Goals as goal

pub returns-clause-place : goal.returns-clause-place
returns-clause-place c =
    at_end c.args.self.now.blocks c.saturating_sub-block.result (length c.numbers_of.result.now) (omega (arith, c.saturating_sub-block.ensures, c.block_count.ensures.count)) (omega (arith, c.saturating_sub-block.ensures, c.block_count.ensures.count))
    (omega (arith, ap length c.numbers_of.ensures.value)) (omega (arith, ap length c.numbers_of.ensures.value))
