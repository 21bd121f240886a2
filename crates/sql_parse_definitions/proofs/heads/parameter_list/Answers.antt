use Rattle.std.proofs.Common.{sym, ◌∙◌, rules, arith}
use Rattle.sql_syntax.specs.Programs.{parameter_of}
use Rattle.sql_parse_tokens.proofs.Reading.{list_stops, list_turn, list_ends, list_goes_on}
use Rattle.sql_parse_definitions.proofs.heads.parameter_list.Goals as goal

pub returns-then-not-is_mark : goal.returns-then-not-is_mark
returns-then-not-is_mark c =
    sym c.loop-turn.invariant ∙ list_stops (parameter_of c.args.may_in c.args.depth) c.len-turn-end.result c.loop-turn._turn c.loop-turn.parameters c.loop-turn.rest c.if-not-is_mark.ensures

pub returns-in_err-parameter : goal.returns-in_err-parameter
returns-in_err-parameter c =
    rw (← c.loop-turn.invariant, list_turn (parameter_of c.args.may_in c.args.depth) c.len-turn-end.result c.loop-turn._turn c.loop-turn.parameters c.loop-turn.rest (omega arith) c.if-not-is_mark.ensures) (search rules)

pub loop-turn-preserved : goal.loop-turn-preserved
loop-turn-preserved c =
    rw (c.in_ok-push-2.ensures.ok)
    (list_goes_on (parameter_of c.args.may_in c.args.depth) c.len-turn-end.result c.loop-turn._turn c.loop-turn.parameters c.loop-turn.rest (omega arith) c.if-not-is_mark.ensures c.in_ok-parameter.ensures c.loop-turn.invariant)

pub returns : goal.returns
returns c = sym c.loop-turn.invariant ∙ list_ends (parameter_of c.args.may_in c.args.depth) c.len-turn-end.result c.loop-turn._turn c.loop-turn.parameters c.loop-turn.rest (omega arith)
