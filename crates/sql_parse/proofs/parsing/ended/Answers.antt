use Rattle.std.proofs.Common.{arith}
use Rattle.sql_parse.proofs.ParseLaws.{more_left, no_token, all_read}
use Rattle.sql_parse.proofs.parsing.ended.Goals as goal

pub returns-then-left-gt0 : goal.returns-then-left-gt0
returns-then-left-gt0 c = λ s us e h. more_left c.args.text.now c.args.lexemes.now c.args.stop s us c.args.left c.place-at.result e c.if-left-gt0.true c.place-at.ensures

pub returns-then-stop-text : goal.returns-then-stop-text
returns-then-stop-text c = λ s us e h. no_token c.args.text.now c.args.lexemes.now c.args.stop s us c.args.left e (omega arith) (omega arith)

pub returns : goal.returns
returns c = λ s us e h. all_read c.args.text.now c.args.lexemes.now c.args.stop s us c.args.left c.args.kept c.whole.result e (omega arith) c.requires (omega arith) h c.whole.ensures
