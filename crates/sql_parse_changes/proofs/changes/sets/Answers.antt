use Rattle.std.proofs.Common.{◌-◌, rules, arith}
use Rattle.sql_syntax.specs.Changes.{set_item}
use Rattle.sql_syntax.specs.Expressions.{expression}
use Rattle.sql_parse_tokens.specs.Gives.{Fails}
use Rattle.sql_tree.specs.Depth.{depth_of_value}
use Rattle.sql_tree.specs.StatementView.{view_set}
use Rattle.sql_syntax.specs.Parts.{list_of}
use Rattle.sql_parse_nodes.proofs.KeptLists.{listed_begin, listed_on, listed_stop, listed_end, listed_fail}
use Rattle.sql_parse_changes.proofs.changes.sets.Goals as goal

pub loop-turn-init : goal.loop-turn-init
loop-turn-init c = listed_begin view_set depth_of_value (set_item (expression c.args.depth)) c.args.rest c.in_ok-first.rest c.in_ok-first.first c.in_ok-items.items c.len-turn-end.result c.in_ok-first.ensures c.in_ok-items.ensures c.len-turn-end.ensures

pub returns-then-not-is_mark : goal.returns-then-not-is_mark
returns-then-not-is_mark c = listed_stop view_set depth_of_value (set_item (expression c.args.depth)) _ c.loop-turn.rest (c.len-turn-end.result - c.loop-turn._turn) c.loop-turn.items c.loop-turn.invariant c.if-not-is_mark.ensures

pub returns-in_err-item : goal.returns-in_err-item
returns-in_err-item c =
    let e : Fails c.in_err-item.field-0.0 ((list_of (set_item (expression c.args.depth))).read c.args.rest) =
    listed_fail view_set depth_of_value (set_item (expression c.args.depth)) _ c.loop-turn.rest c.len-turn-end.result c.loop-turn._turn c.loop-turn.items c.in_err-item.field-0.0 c.loop-turn.invariant (omega arith) c.if-not-is_mark.ensures c.in_err-item.ensures in
    search (rules, e)

pub loop-turn-preserved : goal.loop-turn-preserved
loop-turn-preserved c =
    listed_on view_set depth_of_value (set_item (expression c.args.depth)) _ c.loop-turn.rest c.in_ok-item.after c.len-turn-end.result c.loop-turn._turn c.in_ok-item.item c.loop-turn.items c.in_ok-items-2.items c.loop-turn.invariant (omega arith) c.if-not-is_mark.ensures
    c.in_ok-item.ensures c.in_ok-items-2.ensures

pub returns : goal.returns
returns c = listed_end view_set depth_of_value (set_item (expression c.args.depth)) _ c.loop-turn.rest c.len-turn-end.result c.loop-turn._turn c.loop-turn.items c.loop-turn.invariant (omega arith)
