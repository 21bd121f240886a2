use Rattle.script_read.proofs.Numbers.{some_number}
use Rattle.script_read.proofs.bytes.number_to.Goals as goal

pub returns-clause-within : goal.returns-clause-within
returns-clause-within c =
    (some_number c.args.digits.now c.loop-digit.digit-index c.loop-digit.number c.loop-digit-test.false (cc) c.loop-digit.invariant.1, c.loop-digit.invariant.0)
