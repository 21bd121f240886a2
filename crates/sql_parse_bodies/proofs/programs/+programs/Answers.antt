use Rattle.std.proofs.Common.{◌-◌, [], ◌∷◌, length, map, rules, arith, refl, sym, subst, ◌≡◌}
use Rattle.sql_lex.specs.declared.keyword.Keyword.TheVariants as words
use Rattle.sql_lex.specs.declared.token.Symbol.TheVariants as signs
use Rattle.sql_grammar.specs.Reader.{Read}
use Rattle.sql_grammar.specs.Rule.{any_of, before, behind, both}
use Rattle.sql_grammar.specs.Sets.{next_in}
use Rattle.sql_tree.specs.Depth.{depth_of, depth_of_statements, deepest}
use Rattle.sql_tree.specs.Statement.{Statements, block, if_steps, while_steps, no_else, else_steps}
use Rattle.sql_tree.specs.StatementView.{view, view_branch, view_statements}
use Rattle.sql_parse_tokens.specs.Gives.{Fails}
use Rattle.sql_parse_nodes.specs.Kept.{Keeps}
use Rattle.sql_parse_bodies.specs.KeptParts.{depth_of_branch}
use Rattle.sql_syntax.specs.Programs.{a_branch, a_step, block_body, branches, branches_of, if_body, inner, inner_words, more_steps, next_branch, otherwise, statements_of, steps', steps_if, while_body, with_heads}
use Rattle.sql_syntax.specs.Tokens.{Tok, code, keyword, kind, sign}
use Rattle.sql_parse_nodes.proofs.KeptLists.{chained_end, chained_fail, chained_first, chained_from, chained_on, chained_stop}
use Rattle.sql_parse_nodes.proofs.KeptLaws.{kept_alone, keeps_mapped}
use Rattle.sql_parse_bodies.proofs.ProgramNodes.{block_kept, branch_kept, else_kept, if_kept, statements_deep, statements_seen, while_kept}
use Rattle.sql_parse_bodies.proofs.ProgramSteps.{Heading, behind_is, heading_begin, heading_end, heading_fail, heading_on, heading_skips, heading_stop, heading_table, keeps_before, opened_inner}
use Rattle.sql_parse_bodies.proofs.programs.+programs.Goals as goal

pub inner-loop-turn-init : goal.inner-loop-turn-init
inner-loop-turn-init t c =
    subst (λ hs. Heading c.args.depth hs (c.len-turn-end.result - 0) c.args.rest ≡ (inner c.args.depth).read c.args.rest) (sym c.new-heads.ensures)
    (heading_begin c.args.depth c.len-turn-end.result c.args.rest c.len-turn-end.ensures)

pub inner-returns-then-not-is_key : goal.inner-returns-then-not-is_key
inner-returns-then-not-is_key t c =
    rw (← c.loop-turn.invariant, heading_stop c.args.depth c.loop-turn.heads (c.len-turn-end.result - c.loop-turn._turn) c.loop-turn.rest c.if-not-is_key.ensures) c.bodied.ensures

pub inner-returns-in_err-after : goal.inner-returns-in_err-after
inner-returns-in_err-after t c =
    let e : Fails c.in_err-after.field-0.0 ((inner c.args.depth).read c.args.rest) =
    heading_skips c.args.depth c.loop-turn.heads c.len-turn-end.result c.loop-turn._turn c.loop-turn.rest c.in_err-after.field-0.0 _ (omega arith) c.if-not-is_key.ensures c.loop-turn.invariant c.in_err-after.ensures in
    search (rules, e)

pub inner-returns-then-is_key : goal.inner-returns-then-is_key
inner-returns-then-is_key t c =
    rw (
      ← c.loop-turn.invariant,
      heading_table c.args.depth c.loop-turn.heads c.len-turn-end.result c.loop-turn._turn c.loop-turn.rest c.in_ok-after.after (omega arith) c.if-not-is_key.ensures c.in_ok-after.ensures
          c.if-is_key.ensures,
    ) c.tabled.ensures

pub inner-returns-in_err-head : goal.inner-returns-in_err-head
inner-returns-in_err-head t c =
    let e : Fails c.in_err-head.field-0.0 ((inner c.args.depth).read c.args.rest) =
    heading_fail c.args.depth c.loop-turn.heads c.len-turn-end.result c.loop-turn._turn c.loop-turn.rest c.in_ok-after.after c.in_err-head.field-0.0 _ (omega arith) c.if-not-is_key.ensures c.in_ok-after.ensures
    c.if-is_key.ensures c.loop-turn.invariant c.in_err-head.ensures in
    search (rules, e)

pub inner-loop-turn-preserved : goal.inner-loop-turn-preserved
inner-loop-turn-preserved t c =
    heading_on c.args.depth c.loop-turn.heads c.push.new.self c.in_ok-head.head c.len-turn-end.result c.loop-turn._turn c.loop-turn.rest c.in_ok-after.after c.in_ok-head.after _ (omega arith) c.if-not-is_key.ensures
    c.in_ok-after.ensures c.if-is_key.ensures c.in_ok-head.ensures c.in_ok-push.ensures.ok c.loop-turn.invariant

pub inner-returns : goal.inner-returns
inner-returns t c =
    rw (← c.loop-turn.invariant, heading_end c.args.depth c.loop-turn.heads c.len-turn-end.result c.loop-turn._turn c.loop-turn.rest (omega arith)) c.bodied-2.ensures

pub bodied-returns : goal.bodied-returns
bodied-returns t c =
    let b = c.in_ok-body.ensures in
    (with_heads c.args.heads b.0, rw b.1 refl, c.in_ok-program.ensures b.0 b.2)

pub block-returns : goal.block-returns
block-returns t c =
    opened_inner block_body c.block_body.result c.args.depth c.in_ok-depth.depth (any_of kind (code words.Begin)) c.args.rest c.in_ok-depth.rest (rw c.code.ensures at c.in_ok-depth.ensures.reads)
    c.in_ok-depth.ensures.one_less c.block_body.ensures

pub choice-returns : goal.choice-returns
choice-returns t c =
    opened_inner if_body c.if_body.result c.args.depth c.in_ok-depth.depth (any_of kind (code words.If)) c.args.rest c.in_ok-depth.rest (rw c.code.ensures at c.in_ok-depth.ensures.reads)
    c.in_ok-depth.ensures.one_less c.if_body.ensures

pub repetition-returns : goal.repetition-returns
repetition-returns t c =
    opened_inner while_body c.while_body.result c.args.depth c.in_ok-depth.depth (any_of kind (code words.While)) c.args.rest c.in_ok-depth.rest (rw c.code.ensures at c.in_ok-depth.ensures.reads)
    c.in_ok-depth.ensures.one_less c.while_body.ensures

pub more_steps-loop-turn-init : goal.more_steps-loop-turn-init
more_steps-loop-turn-init t c = λ ss h.
    chained_from view depth_of (next_in kind inner_words) (a_step (inner c.args.depth)).read ss c.args.rest c.args.items c.len-turn-end.result c.len-turn-end.ensures h

pub more_steps-returns-then-not-is_in : goal.more_steps-returns-then-not-is_in
more_steps-returns-then-not-is_in t c = λ ss h.
    chained_stop view depth_of (next_in kind inner_words) (a_step (inner c.args.depth)).read _ c.loop-turn.rest (c.len-turn-end.result - c.loop-turn._turn) c.loop-turn.items (c.loop-turn.invariant ss h)
    c.if-not-is_in.ensures

pub more_steps-returns-in_err-item : goal.more_steps-returns-in_err-item
more_steps-returns-in_err-item t c = λ ss h.
    let e : Fails c.in_err-item.field-0.0 (more_steps (inner c.args.depth) (length c.args.rest) ss c.args.rest) =
    chained_fail view depth_of (next_in kind inner_words) (a_step (inner c.args.depth)).read _ c.loop-turn.rest c.len-turn-end.result c.loop-turn._turn c.loop-turn.items c.in_err-item.field-0.0
    (c.loop-turn.invariant ss h) (omega arith) c.if-not-is_in.ensures c.in_err-item.ensures in
    search (rules, e)

pub more_steps-loop-turn-preserved : goal.more_steps-loop-turn-preserved
more_steps-loop-turn-preserved t c = λ ss h.
    chained_on view depth_of (next_in kind inner_words) (a_step (inner c.args.depth)).read _ c.loop-turn.rest c.in_ok-item.after c.len-turn-end.result c.loop-turn._turn c.in_ok-item.item c.loop-turn.items
    c.in_ok-items.items (c.loop-turn.invariant ss h) (omega arith) c.if-not-is_in.ensures c.in_ok-item.ensures c.in_ok-items.ensures

pub more_steps-returns : goal.more_steps-returns
more_steps-returns t c = λ ss h.
    chained_end view depth_of (next_in kind inner_words) (a_step (inner c.args.depth)).read _ c.loop-turn.rest c.len-turn-end.result c.loop-turn._turn c.loop-turn.items (c.loop-turn.invariant ss h) (omega arith)

pub steps_if-returns : goal.steps_if-returns
steps_if-returns t c =
    keeps_mapped (map view) (deepest depth_of) view_statements depth_of_statements statements_of statements_seen statements_deep c.more_steps.result _ (c.more_steps.ensures [] (rw c.new-part.ensures refl))

pub steps-returns : goal.steps-returns
steps-returns t c =
    let f = c.in_ok-first.ensures in
    rw f.1 (keeps_mapped (map view) (deepest depth_of) view_statements depth_of_statements statements_of statements_seen statements_deep c.more_steps.result _
    (c.more_steps.ensures (f.0 ∷ []) (kept_alone view depth_of f.0 c.in_ok-first.first _ f.2 c.in_ok-first-2.ensures)))

pub branches-loop-turn-init : goal.branches-loop-turn-init
branches-loop-turn-init t c =
    chained_first view_branch depth_of_branch (next_in kind (code words.Elseif ∷ [])) (next_branch c.args.depth (inner c.args.depth)).read (a_branch c.args.depth (inner c.args.depth)) c.args.rest c.in_ok-first.rest
    c.in_ok-first.first c.in_ok-items.items c.len-turn-end.result c.in_ok-first.ensures c.in_ok-items.ensures c.len-turn-end.ensures

pub branches-returns-then-not-is_key : goal.branches-returns-then-not-is_key
branches-returns-then-not-is_key t c =
    chained_stop view_branch depth_of_branch (next_in kind (code words.Elseif ∷ [])) (next_branch c.args.depth (inner c.args.depth)).read _ c.loop-turn.rest (c.len-turn-end.result - c.loop-turn._turn) c.loop-turn.items
    c.loop-turn.invariant c.if-not-is_key.ensures

pub branches-returns-in_err-item : goal.branches-returns-in_err-item
branches-returns-in_err-item t c =
    let e : Fails c.in_err-item.field-0.0 ((branches c.args.depth (inner c.args.depth)).read c.args.rest) =
    chained_fail view_branch depth_of_branch (next_in kind (code words.Elseif ∷ [])) (next_branch c.args.depth (inner c.args.depth)).read _ c.loop-turn.rest c.len-turn-end.result c.loop-turn._turn c.loop-turn.items
    c.in_err-item.field-0.0 c.loop-turn.invariant (omega arith) c.if-not-is_key.ensures c.in_err-item.ensures in
    search (rules, e)

pub branches-loop-turn-preserved : goal.branches-loop-turn-preserved
branches-loop-turn-preserved t c =
    chained_on view_branch depth_of_branch (next_in kind (code words.Elseif ∷ [])) (next_branch c.args.depth (inner c.args.depth)).read _ c.loop-turn.rest c.in_ok-item.after c.len-turn-end.result c.loop-turn._turn
    c.in_ok-item.item c.loop-turn.items c.in_ok-items-2.items c.loop-turn.invariant (omega arith) c.if-not-is_key.ensures c.in_ok-item.ensures c.in_ok-items-2.ensures

pub branches-returns : goal.branches-returns
branches-returns t c =
    chained_end view_branch depth_of_branch (next_in kind (code words.Elseif ∷ [])) (next_branch c.args.depth (inner c.args.depth)).read _ c.loop-turn.rest c.len-turn-end.result c.loop-turn._turn c.loop-turn.items
    c.loop-turn.invariant (omega arith)

pub otherwise-returns-then-not-is_key : goal.otherwise-returns-then-not-is_key
otherwise-returns-then-not-is_key t c = (no_else, rw (← c.if-not-is_key.ensures) refl, refl)

pub otherwise-returns : goal.otherwise-returns
otherwise-returns t c =
    let s = c.in_ok-steps.ensures in
    (else_steps s.0, rw (← c.if-not-is_key.ensures, c.in_ok-rest.ensures, s.1) refl, rw c.some_steps.ensures (else_kept s.0 c.in_ok-steps.steps s.2))

pub a_step-returns : goal.a_step-returns
a_step-returns t c =
    keeps_before view depth_of (inner c.args.depth) (sign signs.Semicolon) c.args.rest c.in_ok-step.rest c.in_ok-step.step c.before_mark.result c.in_ok-step.ensures c.before_mark.ensures

pub steps_to_end-returns : goal.steps_to_end-returns
steps_to_end-returns t c =
    keeps_before view_statements depth_of_statements (steps_if (inner c.args.depth)) (keyword words.End) c.args.rest c.in_ok-body.rest c.in_ok-body.body c.before_key.result c.in_ok-body.ensures c.before_key.ensures

pub block_body-returns : goal.block_body-returns
block_body-returns t c =
    let d = c.in_ok-declarations.ensures in
    let s = c.in_ok-body.ensures in
    (block d.0 s.0, rw (d.1, s.1) refl, rw c.in_ok-blocked.ensures (block_kept d.0 s.0 c.in_ok-declarations.declarations c.in_ok-body.body d.2 s.2))

pub a_branch-returns : goal.a_branch-returns
a_branch-returns t c =
    let e = c.in_ok-condition.ensures in
    let s = c.in_ok-steps.ensures in
    ((e.0, s.0), rw (e.1, s.1) refl, rw c.in_ok-branched.ensures (branch_kept e.0 s.0 c.in_ok-condition.condition c.in_ok-steps.steps e.2 s.2))

pub if_parts-returns : goal.if_parts-returns
if_parts-returns t c =
    let b = c.in_ok-arms.ensures in
    let o = c.in_ok-otherwise.ensures in
    (if_steps (branches_of b.0) o.0, rw (b.1, o.1) refl, rw c.in_ok-chosen.ensures (if_kept b.0 o.0 c.in_ok-arms.arms c.in_ok-otherwise.otherwise b.2 o.2))

pub if_body-returns : goal.if_body-returns
if_body-returns t c =
    keeps_before view depth_of (both (λ bs o. if_steps (branches_of bs) o) (branches c.args.depth (inner c.args.depth)) (otherwise (inner c.args.depth))) (behind (keyword words.End) (keyword words.If))
    c.args.rest c.in_ok-choice.rest c.in_ok-choice.choice c.before_end.result c.in_ok-choice.ensures c.before_end.ensures

pub while_body-returns : goal.while_body-returns
while_body-returns t c =
    let e = c.in_ok-condition.ensures in
    let s = c.in_ok-steps.ensures in
    (while_steps e.0 s.0, rw (e.1, s.1) refl, rw c.in_ok-repeated.ensures (while_kept e.0 s.0 c.in_ok-condition.condition c.in_ok-steps.steps e.2 s.2))

pub do_steps-returns : goal.do_steps-returns
do_steps-returns t c =
    let r = before (steps' (inner c.args.depth)) (behind (keyword words.End) (keyword words.While)) in
    subst (λ (read : Read Tok Statements). Keeps view_statements depth_of_statements c.before_end.result read)
    (sym (behind_is (keyword words.Do) r c.args.rest c.in_ok-rest.rest tt c.in_ok-rest.ensures))
    (keeps_before view_statements depth_of_statements (steps' (inner c.args.depth)) (behind (keyword words.End) (keyword words.While)) c.in_ok-rest.rest c.in_ok-steps.rest c.in_ok-steps.steps
    c.before_end.result c.in_ok-steps.ensures c.before_end.ensures)
