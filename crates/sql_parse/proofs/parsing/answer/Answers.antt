use Rattle.std.proofs.Common.{sym}
use Rattle.sql_parse.proofs.ParseLaws.{ok_answer, syntax_answer, deep_answer}
use Rattle.sql_parse.proofs.parsing.answer.Goals as goal

pub returns-in-Ok : goal.returns-in-Ok
returns-in-Ok c =
    let e = c.in-Ok.ensures in
    ok_answer c.args.text.now c.args.lexemes.now c.args.stop c.new.result c.in-Ok.rest e.0 c.ended.result e.1 c.new.ensures (c.ended.ensures e.0 c.in-Ok.rest (sym c.len.ensures) e.2)

pub returns-in-Err-Syntax : goal.returns-in-Err-Syntax
returns-in-Err-Syntax c =
    syntax_answer c.args.text.now c.args.lexemes.now c.args.stop c.new.result c.in-Err-Syntax.rest c.in-Err-Syntax.field-0 c.len-in-Err-Syntax.result c.place-at.result c.in-Err-Syntax.field-0-is
    c.in-Err-Syntax.ensures c.new.ensures c.place-at.ensures c.len-in-Err-Syntax.ensures

pub returns-in-Err-Deep : goal.returns-in-Err-Deep
returns-in-Err-Deep c =
    deep_answer c.args.text.now c.args.lexemes.now c.args.stop c.new.result c.in-Err-Deep.field-0-0 c.in-Err-Deep.field-0 c.in-Err-Deep.field-0-is c.in-Err-Deep.ensures c.new.ensures
