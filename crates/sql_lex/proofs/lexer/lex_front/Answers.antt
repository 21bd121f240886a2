use Rattle.sql_lex.proofs.Fronts.{stops_here, in_range, blank_here, token_here}
use Rattle.sql_lex.proofs.SpanLaws.{tokens_spans, tokens_say, says_only}
use Rattle.sql_lex.proofs.lexer.lex_front.Goals as goal

pub returns-in-Nothing-clause-front : goal.returns-in-Nothing-clause-front
returns-in-Nothing-clause-front c =
    stops_here c.args.text.now c.pieces.at c.pieces.tokens c.pieces.behind_minus _ c.behind.ensures c.pieces.invariant.goes_on c.in-Nothing.ensures.value

pub pieces-preserved-in-Blank : goal.pieces-preserved-in-Blank
pieces-preserved-in-Blank c =
    let within = c.in-Blank.ensures.within in
    let g = c.pieces.invariant.goes_on in
    record {
      in_range = in_range c.args.text.now c.pieces.at c.pieces.tokens c.pieces.behind_minus _ c.behind.ensures g c.in-Blank.count within.0 within.1 c.pieces.invariant.in_range;
      goes_on = blank_here c.args.text.now c.pieces.at c.pieces.tokens c.pieces.behind_minus _ c.behind.ensures g c.in-Blank.count within.0 within.1 c.in-Blank.ensures.value;
    }

pub pieces-preserved : goal.pieces-preserved
pieces-preserved c =
    let within = c.in-Token.ensures.within in
    let g = c.pieces.invariant.goes_on in
    record {
      in_range = in_range c.args.text.now c.pieces.at c.pieces.tokens c.pieces.behind_minus _ c.behind.ensures g c.in-Token.count within.0 within.1 c.pieces.invariant.in_range;
      goes_on = token_here c.args.text.now c.pieces.at c.pieces.tokens c.pieces.behind_minus _ c.behind.ensures g c.in-Token.count within.0 within.1
          c.in-Token.kind _ c.in-Token.ensures.value c.is_minus-behind_minus.ensures _ c.in_ok-push-in-Token.ensures.ok;
    }

pub returns-in-Nothing-clause-spans : goal.returns-in-Nothing-clause-spans
returns-in-Nothing-clause-spans c = tokens_spans c.args.text.now c.pieces.tokens c.pieces.at (returns-in-Nothing-clause-front c)

pub returns-in-Nothing-clause-says : goal.returns-in-Nothing-clause-says
returns-in-Nothing-clause-says c = tokens_say c.args.text.now c.pieces.tokens c.pieces.at (returns-in-Nothing-clause-front c)

pub returns-in-Nothing-clause-said : goal.returns-in-Nothing-clause-said
returns-in-Nothing-clause-said c = λ ps s. says_only c.args.text.now ps s c.pieces.tokens c.pieces.at (returns-in-Nothing-clause-front c)
