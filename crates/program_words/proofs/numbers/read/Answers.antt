use Rattle.std.proofs.Common.{arith, sym}
use Rattle.program_words.proofs.Digits.{read, past, unread}
use Rattle.program_words.proofs.numbers.read.Goals as goal

pub returns-in-Ok : goal.returns-in-Ok
returns-in-Ok c = sym (read _ c.args.limit c.args.digits.now c.parse.result c.in-Ok.number c.requires.some c.requires.low c.requires.high c.parse.ensures.value.0 c.in-Ok.is c.if-number-limit.true)

pub returns-in-Ok-2 : goal.returns-in-Ok-2
returns-in-Ok-2 c = sym (past _ c.args.limit c.args.digits.now c.parse.result c.in-Ok.number c.requires.some c.requires.low c.requires.high c.parse.ensures.value.0 c.in-Ok.is c.if-number-limit.false)

pub returns-in-Err : goal.returns-in-Err
returns-in-Err c = sym (unread _ c.args.limit c.args.digits.now c.parse.result c.in-Err.field-0 (omega (arith, c.ranges.limit)) c.requires.some c.requires.low c.requires.high c.parse.ensures.value.0 c.in-Err.is)
