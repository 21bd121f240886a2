use Rattle.std.proofs.Common.{◌-◌, sym, ◌∙◌, rules, arith}
use Rattle.sql_parse_definitions.proofs.TraitSteps.{traits_stop, traits_end, traits_go, traits_fail}
use Rattle.sql_parse_definitions.proofs.heads.traits.Goals as goal

pub returns-then-not-is_in : goal.returns-then-not-is_in
returns-then-not-is_in c = sym c.loop-turn.invariant ∙ traits_stop (c.len-turn-end.result - c.loop-turn._turn) c.loop-turn.rest (sym c.if-not-is_in.ensures)

pub returns-in_err-after : goal.returns-in_err-after
returns-in_err-after c =
    let e = traits_fail c.len-turn-end.result c.loop-turn._turn c.loop-turn.rest _ c.in_err-after.field-0.0 (omega arith) c.if-not-is_in.ensures c.loop-turn.invariant c.in_err-after.ensures in
    search (rules, e)

pub loop-turn-preserved : goal.loop-turn-preserved
loop-turn-preserved c =
    traits_go c.len-turn-end.result c.loop-turn._turn c.loop-turn.rest c.in_ok-after.after _ (omega arith) c.if-not-is_in.ensures c.loop-turn.invariant c.in_ok-after.ensures

pub returns : goal.returns
returns c = sym c.loop-turn.invariant ∙ traits_end c.len-turn-end.result c.loop-turn._turn c.loop-turn.rest (omega arith)
