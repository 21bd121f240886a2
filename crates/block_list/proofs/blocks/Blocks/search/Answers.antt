use Rattle.std.proofs.Common.{◌+◌, ◌-◌, length, ap, arith}
use Rattle.block_list.proofs.Standing.{some_at}
use Rattle.block_list.proofs.Digits.{within_digits, size_within}
use Rattle.block_list.proofs.Found.{first_in, found_in, missing_in}
use Rattle.block_list.proofs.blocks.Blocks.search.Goals as goal

pub returns-in-Ok-clause-spot : goal.returns-in-Ok-clause-spot
returns-in-Ok-clause-spot g c =
    some_at c.args.self.now.blocks (c.in-Ok.before + 1) c.block_count.ensures.shaped (omega (arith, c.in-Ok.ensures.within))

pub returns-in-Ok-clause-place : goal.returns-in-Ok-clause-place
returns-in-Ok-clause-place g c = λ order computes in_order.
    first_in order c.args.self.now.blocks c.block_count.ensures.shaped in_order c.in-Ok.before (λ parted. c.in-Ok.ensures.place order computes in_order)

pub returns-in-Ok-clause-cost : goal.returns-in-Ok-clause-cost
returns-in-Ok-clause-cost g c =
    within_digits c.args.self.now.blocks 0 (c.block_of.new.steps - c.args.steps.now) 0 (c.block_of.new.steps - c.args.steps.now) c.block_count.ensures.shaped (omega arith) (omega arith) c.in-Ok.ensures.cost (omega arith) (omega arith)

pub returns-in-Ok-place_of-clause-place : goal.returns-in-Ok-place_of-clause-place
returns-in-Ok-place_of-clause-place g c = λ order computes in_order.
    found_in order c.args.self.now.blocks c.block_count.ensures.shaped in_order c.in-Err.block c.in-Ok-place_of.at c.numbers_of.result.now c.numbers_of.ensures.value (c.in-Ok-place_of.ensures.place order computes)

pub returns-in-Ok-place_of-clause-cost : goal.returns-in-Ok-place_of-clause-cost
returns-in-Ok-place_of-clause-cost g c =
    within_digits c.args.self.now.blocks (length c.numbers_of.result.now) (c.block_of.new.steps - c.args.steps.now) (c.place_of.new.steps - c.block_of.new.steps) (c.place_of.new.steps - c.args.steps.now)
    c.block_count.ensures.shaped c.numbers_of.ensures.few (omega (arith, ap length c.numbers_of.ensures.value, size_within c.args.self.now.blocks c.in-Err.block)) c.in-Err.ensures.cost c.in-Ok-place_of.ensures.cost
    (omega (arith, c.in-Err.ensures.more, c.in-Ok-place_of.ensures.more))

pub returns-in-Err-place_of-clause-place : goal.returns-in-Err-place_of-clause-place
returns-in-Err-place_of-clause-place g c = λ order computes in_order.
    missing_in order c.args.self.now.blocks c.block_count.ensures.shaped in_order c.in-Err.block c.in-Err-place_of.at c.numbers_of.result.now c.numbers_of.ensures.value
    (omega (arith, c.if-block_count-eq0.false, c.block_count.ensures.count)) (λ parted. c.in-Err.ensures.place order computes in_order) (c.in-Err-place_of.ensures.place order computes)

pub returns-in-Err-place_of-clause-cost : goal.returns-in-Err-place_of-clause-cost
returns-in-Err-place_of-clause-cost g c =
    within_digits c.args.self.now.blocks (length c.numbers_of.result.now) (c.block_of.new.steps - c.args.steps.now) (c.place_of.new.steps - c.block_of.new.steps) (c.place_of.new.steps - c.args.steps.now)
    c.block_count.ensures.shaped c.numbers_of.ensures.few (omega (arith, ap length c.numbers_of.ensures.value, size_within c.args.self.now.blocks c.in-Err.block)) c.in-Err.ensures.cost c.in-Err-place_of.ensures.cost
    (omega (arith, c.in-Err.ensures.more, c.in-Err-place_of.ensures.more))
