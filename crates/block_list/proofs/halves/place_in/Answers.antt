use Rattle.std.proofs.Common.{◌≡◌, ◌+◌, ◌-◌, ◌*◌, ◌≤◌, ◌<◌, ◌/◌, sym, ◌∙◌, arith}
use Rattle.block_list.proofs.Halving.{halved_once, spent_once, low_less, high_greater}
use Rattle.block_list.proofs.halves.place_in.Goals as goal

pub loop-low-preserved-in-Less : goal.loop-low-preserved-in-Less
loop-low-preserved-in-Less g c =
    let middle_in : c.loop-low.low + (c.loop-low.high - c.loop-low.low) / 2 < c.args.count = omega (arith, c.loop-low-test.true, c.loop-low.invariant.within) in
    let half : 2 * (c.loop-low.high - (c.loop-low.low + (c.loop-low.high - c.loop-low.low) / 2 + 1)) ≤ c.loop-low.high - c.loop-low.low = omega arith in
    let one : c.tick.new.self - c.args.steps.now ≡ c.loop-low.steps - c.args.steps.now + 1 = omega (arith, c.tick.ensures, c.loop-low.invariant.more) in
    record {
      ordered = omega (arith, c.loop-low-test.true);
      within = c.loop-low.invariant.within;
      less = λ order computes parted i lt. low_less order c.args.count (c.loop-low.low + (c.loop-low.high - c.loop-low.low) / 2) i parted middle_in (sym (computes _ _ middle_in c.compare_at.ensures) ∙ c.in-Less.is) (omega (arith, lt));
      greater = c.loop-low.invariant.greater;
      halved = rw one (halved_once (c.loop-low.steps - c.args.steps.now) (c.loop-low.high - c.loop-low.low) (c.loop-low.high - (c.loop-low.low + (c.loop-low.high - c.loop-low.low) / 2 + 1)) c.args.count c.loop-low.invariant.halved half);
      spent = rw one (spent_once (c.loop-low.steps - c.args.steps.now) (c.loop-low.high - c.loop-low.low) c.args.count c.loop-low.invariant.halved (omega (arith, c.loop-low-test.true)));
      more = omega (arith, c.tick.ensures, c.loop-low.invariant.more);
    }

pub loop-low-preserved : goal.loop-low-preserved
loop-low-preserved g c =
    let middle_in : c.loop-low.low + (c.loop-low.high - c.loop-low.low) / 2 < c.args.count = omega (arith, c.loop-low-test.true, c.loop-low.invariant.within) in
    let half : 2 * (c.loop-low.low + (c.loop-low.high - c.loop-low.low) / 2 - c.loop-low.low) ≤ c.loop-low.high - c.loop-low.low = omega arith in
    let one : c.tick.new.self - c.args.steps.now ≡ c.loop-low.steps - c.args.steps.now + 1 = omega (arith, c.tick.ensures, c.loop-low.invariant.more) in
    record {
      ordered = omega arith;
      within = omega (arith, c.loop-low-test.true, c.loop-low.invariant.within);
      less = c.loop-low.invariant.less;
      greater = λ order computes parted i le lt. high_greater order c.args.count (c.loop-low.low + (c.loop-low.high - c.loop-low.low) / 2) i parted (sym (computes _ _ middle_in c.compare_at.ensures) ∙ c.in-Greater.is) le lt;
      halved = rw one (halved_once (c.loop-low.steps - c.args.steps.now) (c.loop-low.high - c.loop-low.low) (c.loop-low.low + (c.loop-low.high - c.loop-low.low) / 2 - c.loop-low.low) c.args.count c.loop-low.invariant.halved half);
      spent = rw one (spent_once (c.loop-low.steps - c.args.steps.now) (c.loop-low.high - c.loop-low.low) c.args.count c.loop-low.invariant.halved (omega (arith, c.loop-low-test.true)));
      more = omega (arith, c.tick.ensures, c.loop-low.invariant.more);
    }

pub returns-in-Equal-clause-cost : goal.returns-in-Equal-clause-cost
returns-in-Equal-clause-cost g c =
    let one : c.tick.new.self - c.args.steps.now ≡ c.loop-low.steps - c.args.steps.now + 1 = omega (arith, c.tick.ensures, c.loop-low.invariant.more) in
    rw one (spent_once (c.loop-low.steps - c.args.steps.now) (c.loop-low.high - c.loop-low.low) c.args.count c.loop-low.invariant.halved (omega (arith, c.loop-low-test.true)))
