use Rattle.std.proofs.Common.{rules, arith, ap, ℕ, ◌+◌, ◌≡◌, false, true, Ok}
use Rattle.log_reader.proofs.Inputs.{takes_more, on_err}
use Rattle.log_reader.proofs.Fronts.{passed_more, passed_takes, filled, not_filled}
use Rattle.log_reader.proofs.front.pass_to.Goals as goal

pub returns-in_err-whole-clause-takes : goal.returns-in_err-whole-clause-takes
returns-in_err-whole-clause-takes g c =
    on_err _ (takes_more _ _ _ (passed_takes c.args.from c.loop-at.at _ _ c.loop-at.invariant.passed) c.in_err-whole.ensures.takes)

pub returns-then-not-whole-clause-passes : goal.returns-then-not-whole-clause-passes
returns-then-not-whole-clause-passes g c =
    let off : c.in_ok-whole.whole ≡ false = search rules in
    let short = not_filled _ _ _ _ off c.in_ok-whole.ensures.fills in
    let few = short.0 in (
      passed_more c.args.from c.loop-at.at _ _ _ _ _ c.fill.new.bytes c.loop-at.invariant.passed c.loop-at.invariant.none c.in_ok-whole.ensures.joined (ap (λ (n : ℕ). c.loop-at.at + n) c.len.ensures),
      omega (arith, few, c.len.ensures, c.min-count.ensures, c.loop-at-test.true),
      short.1,
    )

pub loop-at-preserved : goal.loop-at-preserved
loop-at-preserved g c =
    let on : c.in_ok-whole.whole ≡ true = search rules in
    let all = filled _ _ _ _ on c.in_ok-whole.ensures.fills in
    record {
      passed = passed_more c.args.from c.loop-at.at _ _ _ _ _ c.fill.new.bytes c.loop-at.invariant.passed c.loop-at.invariant.none c.in_ok-whole.ensures.joined (ap (λ (n : ℕ). c.loop-at.at + n) c.len.ensures);
      none = search rules;
      within = omega (arith, all, c.len.ensures, c.min-count.ensures, c.loop-at-test.true);
      later = omega (arith, c.loop-at.invariant.later, c.in_ok-whole.ensures.later);
      fresh = λ old. c.in_ok-whole.ensures.goes_on (ap Ok on) (c.loop-at.invariant.fresh old);
      room = search rules;
    }
