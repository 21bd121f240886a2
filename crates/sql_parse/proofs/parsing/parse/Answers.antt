use Rattle.sql_parse.proofs.ParseLaws.{settled}
use Rattle.sql_parse.proofs.parsing.parse.Goals as goal

pub returns : goal.returns
returns c =
    let places = rw c.as_slice.ensures at c.in_ok-lexemes.ensures.places in
    let said = rw c.as_slice.ensures at c.in_ok-lexemes.ensures.said in
    let answers = rw c.as_slice-2.ensures at c.answer.ensures in
    let k = settled c.args.text.now c.in_ok-tokens.tokens c.in_ok-tokens.stop c.in_ok-lexemes.lexemes c.answer.result c.in_ok-tokens.ensures.front places said answers in
    record { statement = k.0; cause = k.1; read = k.2; refused = k.3; deep = k.4 }
