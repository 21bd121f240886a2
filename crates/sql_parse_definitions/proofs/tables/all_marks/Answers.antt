use Rattle.std.proofs.Common.{◌-◌, sym, ◌∙◌, rules, arith}
use Rattle.sql_grammar.specs.Sets.{next_in}
use Rattle.sql_syntax.specs.Tokens.{kind}
use Rattle.sql_syntax.specs.Tables.{marked, mark, mark_words}
use Rattle.sql_parse_tokens.proofs.Reading.{steps_stop, steps_end, step_goes, step_fails}
use Rattle.sql_parse_definitions.proofs.tables.all_marks.Goals as goal

pub returns-then-not-is_in : goal.returns-then-not-is_in
returns-then-not-is_in c =
    sym c.loop-turn.invariant ∙ steps_stop marked (next_in kind mark_words) (λ m. (mark c.args.has_key m).read) (c.len-turn-end.result - c.loop-turn._turn) c.loop-turn.marks c.loop-turn.rest (sym c.if-not-is_in.ensures)

pub returns-in_err-more : goal.returns-in_err-more
returns-in_err-more c =
    let e = step_fails marked (next_in kind mark_words) (λ m. (mark c.args.has_key m).read) c.len-turn-end.result c.loop-turn._turn c.loop-turn.marks c.loop-turn.rest _ c.in_err-more.field-0.0
    (omega arith) c.if-not-is_in.ensures c.in_err-more.ensures c.loop-turn.invariant in
    search (rules, e)

pub loop-turn-preserved : goal.loop-turn-preserved
loop-turn-preserved c =
    step_goes marked (next_in kind mark_words) (λ m. (mark c.args.has_key m).read) c.len-turn-end.result c.loop-turn._turn c.loop-turn.marks c.in_ok-more.more c.loop-turn.rest c.in_ok-more.after _
    (omega arith) c.if-not-is_in.ensures c.in_ok-more.ensures c.loop-turn.invariant

pub returns : goal.returns
returns c = sym c.loop-turn.invariant ∙ steps_end marked (next_in kind mark_words) (λ m. (mark c.args.has_key m).read) c.len-turn-end.result c.loop-turn._turn c.loop-turn.marks c.loop-turn.rest (omega arith)
