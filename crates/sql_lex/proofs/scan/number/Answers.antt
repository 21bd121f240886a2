use Rattle.sql_lex.proofs.Steps.{number_large}
use Rattle.sql_lex.proofs.scan.number.Goals as goal

pub returns-then-number : goal.returns-then-number
returns-then-number c =
    number_large c.args.digits.now c.loop-digit.digit-index c.loop-digit.number _ c.loop-digit-test.true c.if-number.true c.loop-digit.invariant.0
