use Rattle.std.proofs.Common.{◌-◌, [], ◌∷◌, rules, arith}
use Rattle.sql_lex.specs.declared.keyword.Keyword.TheVariants as words
use Rattle.sql_grammar.specs.Sets.{next_in}
use Rattle.sql_parse_tokens.specs.Gives.{Fails}
use Rattle.sql_tree.specs.Depth.{depth_of_declared}
use Rattle.sql_tree.specs.StatementView.{view_declaration}
use Rattle.sql_syntax.specs.Programs.{declaration, declarations}
use Rattle.sql_syntax.specs.Tokens.{code, kind}
use Rattle.sql_parse_nodes.proofs.KeptLists.{chained_on, chained_stop, chained_end, chained_fail}
use Rattle.sql_parse_bodies.proofs.bodies.declarations.Goals as goal

pub returns-then-not-is_key : goal.returns-then-not-is_key
returns-then-not-is_key c =
    chained_stop view_declaration depth_of_declared (next_in kind (code words.Declare ∷ [])) (declaration c.args.depth).read _ c.loop-turn.rest (c.len-turn-end.result - c.loop-turn._turn) c.loop-turn.items
    c.loop-turn.invariant c.if-not-is_key.ensures

pub returns-in_err-item : goal.returns-in_err-item
returns-in_err-item c =
    let e : Fails c.in_err-item.field-0.0 ((declarations c.args.depth).read c.args.rest) =
    chained_fail view_declaration depth_of_declared (next_in kind (code words.Declare ∷ [])) (declaration c.args.depth).read _ c.loop-turn.rest c.len-turn-end.result c.loop-turn._turn c.loop-turn.items
    c.in_err-item.field-0.0 c.loop-turn.invariant (omega arith) c.if-not-is_key.ensures c.in_err-item.ensures in
    search (rules, e)

pub loop-turn-preserved : goal.loop-turn-preserved
loop-turn-preserved c =
    chained_on view_declaration depth_of_declared (next_in kind (code words.Declare ∷ [])) (declaration c.args.depth).read _ c.loop-turn.rest c.in_ok-item.after c.len-turn-end.result c.loop-turn._turn
    c.in_ok-item.item c.loop-turn.items c.in_ok-items.items c.loop-turn.invariant (omega arith) c.if-not-is_key.ensures c.in_ok-item.ensures c.in_ok-items.ensures

pub returns : goal.returns
returns c =
    chained_end view_declaration depth_of_declared (next_in kind (code words.Declare ∷ [])) (declaration c.args.depth).read _ c.loop-turn.rest c.len-turn-end.result c.loop-turn._turn c.loop-turn.items
    c.loop-turn.invariant (omega arith)
