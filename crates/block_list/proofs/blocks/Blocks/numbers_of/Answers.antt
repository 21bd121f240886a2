use Rattle.std.proofs.Common.{◌≡◌, length, ap, arith}
use Rattle.std.proofs.lemmas.Grind.{common_steps}
use Rattle.block_list.specs.Layouts.{AreShaped}
use Rattle.block_list.specs.Spots.{block_at}
use Rattle.block_list.proofs.Standing.{shaped_same, some_at}
use Rattle.block_list.proofs.blocks.Blocks.numbers_of.Goals as goal

pub returns-in-Some-clause-some : goal.returns-in-Some-clause-some
returns-in-Some-clause-some c = λ lt.
    let shaped : AreShaped c.args.self.now.blocks = shaped_same _ c.args.self.now c.self.view_is c.self.invariant.shaped in
    let value : c.as_slice.result.now ≡ block_at c.args.self.now.blocks c.args.block = grind (arith, common_steps) in
    omega (arith, ap length value, some_at c.args.self.now.blocks c.args.block shaped lt)
