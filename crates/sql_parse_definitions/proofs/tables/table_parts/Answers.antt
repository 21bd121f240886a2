use Rattle.std.proofs.Common.{◌-◌, ◌||◌, refl, ap, sym, ◌∙◌, rules, arith}
use Rattle.sql_grammar.specs.Rule.{then_one}
use Rattle.sql_parse_tokens.proofs.Reading.{steps_stop, steps_end}
use Rattle.sql_parse_definitions.proofs.TableSteps.{part_step, comma_next, parts_begin, parts_go, parts_fail}
use Rattle.sql_parse_definitions.proofs.tables.table_parts.Goals as goal

pub loop-turn-init : goal.loop-turn-init
loop-turn-init c =
    parts_begin c.args.depth c.len-turn-end.result c.args.rest c.in_ok-first.rest c.in_ok-first.first c.push.new.self c.is_primary-has_key.result c.in_ok-first.ensures c.is_primary-has_key.ensures
    (c.in_ok-push.ensures.ok ∙ rw c.new-parts.ensures refl) c.len-turn-end.ensures

pub returns-then-not-is_mark : goal.returns-then-not-is_mark
returns-then-not-is_mark c =
    sym c.loop-turn.invariant.1 ∙ steps_stop then_one comma_next (part_step c.args.depth) (c.len-turn-end.result - c.loop-turn._turn) c.loop-turn.parts c.loop-turn.rest (sym c.if-not-is_mark.ensures)

pub returns-in_err-part : goal.returns-in_err-part
returns-in_err-part c =
    let e = parts_fail c.args.depth c.len-turn-end.result c.loop-turn._turn c.loop-turn.parts c.loop-turn.rest c.loop-turn.has_key _ c.in_err-part.field-0.0
    (omega arith) c.if-not-is_mark.ensures c.loop-turn.invariant c.in_err-part.ensures in
    search (rules, e)

pub loop-turn-preserved : goal.loop-turn-preserved
loop-turn-preserved c =
    parts_go c.args.depth c.len-turn-end.result c.loop-turn._turn c.loop-turn.parts c.push-in-loop-turn.new.self c.in_ok-part.part c.loop-turn.rest c.in_ok-part.after c.loop-turn.has_key _ _
    (omega arith) c.if-not-is_mark.ensures c.loop-turn.invariant c.in_ok-part.ensures (ap (λ b. c.loop-turn.has_key || b) c.is_primary-has_key-in-loop-turn.ensures) c.in_ok-push-2.ensures.ok

pub returns : goal.returns
returns c = sym c.loop-turn.invariant.1 ∙ steps_end then_one comma_next (part_step c.args.depth) c.len-turn-end.result c.loop-turn._turn c.loop-turn.parts c.loop-turn.rest (omega arith)
