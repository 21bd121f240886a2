use Rattle.std.proofs.Common.{sym, ◌∙◌, rules, arith}
use Rattle.sql_syntax.specs.Parts.{a_name}
use Rattle.sql_parse_tokens.proofs.Reading.{list_stops, list_turn, list_ends, list_goes_on}
use Rattle.sql_parse_tokens.proofs.parts.name_list.Goals as goal

pub returns-then-not-is_mark : goal.returns-then-not-is_mark
returns-then-not-is_mark c = sym c.loop-turn.invariant ∙ list_stops a_name c.len-turn-end.result c.loop-turn._turn c.loop-turn.names c.loop-turn.rest c.if-not-is_mark.ensures

pub returns-in_err-name : goal.returns-in_err-name
returns-in_err-name c = rw (← c.loop-turn.invariant, list_turn a_name c.len-turn-end.result c.loop-turn._turn c.loop-turn.names c.loop-turn.rest (omega arith) c.if-not-is_mark.ensures) (search rules)

pub loop-turn-preserved : goal.loop-turn-preserved
loop-turn-preserved c = rw (c.in_ok-push-2.ensures.ok) (list_goes_on a_name c.len-turn-end.result c.loop-turn._turn c.loop-turn.names c.loop-turn.rest (omega arith) c.if-not-is_mark.ensures c.in_ok-name.ensures c.loop-turn.invariant)

pub returns : goal.returns
returns c = sym c.loop-turn.invariant ∙ list_ends a_name c.len-turn-end.result c.loop-turn._turn c.loop-turn.names c.loop-turn.rest (omega arith)
