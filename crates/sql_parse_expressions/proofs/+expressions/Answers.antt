use Rattle.std.proofs.Common.{rules, arith, refl, Ok, None, pred, map, [], ◌∷◌}
use Rattle.sql_lex.specs.declared.keyword.Keyword.TheVariants as words
use Rattle.sql_lex.specs.declared.token.Symbol.TheVariants as signs
use Rattle.val_types.specs.declared.ops.UnOp.TheVariants.{Negate, Not}
use Rattle.sql_grammar.specs.Rule.{mapped, alone, both, behind, paired}
use Rattle.val_types.specs.declared.ops.Func3.{Func3}
use Rattle.sql_tree.specs.BuiltIns.{on_three}
use Rattle.sql_tree.specs.Tree.{unary, exists, call, choice, floor_rand, no_tree, no_part, part, subquery, query, items, tree, all_columns, aggregates, no_order, no_origin, from_table}
use Rattle.sql_tree.specs.View.{view_tree, view_trees, view_arm, view_arms, view_part, view_query, view_order, view_orders, view_aggregate, view_aggregates, trees_of, arms_of, orders_of, aggregates_of}
use Rattle.sql_tree.specs.Depth.{depth_of_tree, depth_of_trees, depth_of_arms, depth_of_part, depth_of_query, depth_of_orders, depth_of_aggregates, deepest}
use Rattle.sql_syntax.specs.Tokens.{code, sign_code, one_code, two_code, three_code, many_code, keyword, name_said}
use Rattle.sql_parse_tokens.specs.Gives.{Fails}
use Rattle.sql_parse_nodes.specs.Kept.{view_beside, depth_beside, depth_of_aggregate}
use Rattle.sql_syntax.specs.Parts.{list_of, exprs, closed, arguments, in_parentheses}
use Rattle.sql_syntax.specs.Selects.{selected, single_selected, agg, counted, direction, origin_of}
use Rattle.sql_syntax.specs.Expressions.{nested, disjunction, conjunction, comparison, sum, product, among, null_test, compared, grouped, case_body, two_arguments, three_arguments, as_three, call_one, call_two, call_three, call_many, when_arm, when_arms, random}
use Rattle.sql_parse_expressions.proofs.BuiltIns.{keeps_tail, called_as}
use Rattle.sql_parse_nodes.proofs.KeptLaws.{kept_alone, kept_beside, kept_push, kept_seen, keeps_mapped}
use Rattle.sql_parse_expressions.proofs.NestedLaws.{whole_is, negation_is, prefix_is, select_is, single_is, three_as}
use Rattle.sql_parse_nodes.proofs.Openings.{opened_as, keeps_behind, keeps_opened}
use Rattle.sql_parse_nodes.proofs.TreeLists.{deepest_trees, deepest_arms, deepest_orders, deepest_aggregates}
use Rattle.sql_parse_tokens.proofs.Reading.{again, fails_behind}
use Rattle.sql_parse_nodes.proofs.Turns.{turns_begin, turns_stop, turns_fail, turns_on, turns_end}
use Rattle.sql_parse_expressions.proofs.+expressions.Goals as goal

pub expressions::whole-returns : goal.expressions::whole-returns
expressions::whole-returns t c = rw (whole_is c.args.depth) c.disjunction.ensures

pub expressions::disjunction-loop-turn-init : goal.expressions::disjunction-loop-turn-init
expressions::disjunction-loop-turn-init t c =
    turns_begin view_tree depth_of_tree _ _ _ (conjunction (nested c.args.depth).negation).read c.args.rest _ _ _ c.in_ok-left.ensures c.len-turn-end.ensures

pub expressions::disjunction-returns-then-not-is_key : goal.expressions::disjunction-returns-then-not-is_key
expressions::disjunction-returns-then-not-is_key t c = turns_stop _ _ _ _ _ _ _ _ _ c.loop-turn.invariant (search rules)

pub expressions::disjunction-returns-in_err-right : goal.expressions::disjunction-returns-in_err-right
expressions::disjunction-returns-in_err-right t c =
    let h : Fails c.in_err-right.field-0.0 ((disjunction (nested c.args.depth).negation).read c.args.rest) =
    turns_fail _ _ _ _ _ _ _ _ _ _ _ c.loop-turn.invariant (omega arith) (search rules) (rw c.in_ok-after.ensures (fails_behind _ _ _ c.in_err-right.ensures)) in
    search rules

pub expressions::disjunction-loop-turn-preserved : goal.expressions::disjunction-loop-turn-preserved
expressions::disjunction-loop-turn-preserved t c =
    let r = c.in_ok-right.ensures in
    turns_on _ _ _ _ _ _ _ _ _ _ r.0 _ _ c.loop-turn.invariant (omega arith) (search rules) (rw (c.in_ok-after.ensures, r.1) refl) (λ a h. c.in_ok-left-2.ensures a r.0 h r.2)

pub expressions::disjunction-returns : goal.expressions::disjunction-returns
expressions::disjunction-returns t c = turns_end _ _ _ _ _ _ _ _ _ _ c.loop-turn.invariant (omega arith)

pub expressions::conjunction-loop-turn-init : goal.expressions::conjunction-loop-turn-init
expressions::conjunction-loop-turn-init t c =
    turns_begin view_tree depth_of_tree _ _ _ (nested c.args.depth).negation.read c.args.rest _ _ _ c.in_ok-left.ensures c.len-turn-end.ensures

pub expressions::conjunction-returns-then-not-is_key : goal.expressions::conjunction-returns-then-not-is_key
expressions::conjunction-returns-then-not-is_key t c = turns_stop _ _ _ _ _ _ _ _ _ c.loop-turn.invariant (search rules)

pub expressions::conjunction-returns-in_err-right : goal.expressions::conjunction-returns-in_err-right
expressions::conjunction-returns-in_err-right t c =
    let h : Fails c.in_err-right.field-0.0 ((conjunction (nested c.args.depth).negation).read c.args.rest) =
    turns_fail _ _ _ _ _ _ _ _ _ _ _ c.loop-turn.invariant (omega arith) (search rules) (rw c.in_ok-after.ensures (fails_behind _ _ _ c.in_err-right.ensures)) in
    search rules

pub expressions::conjunction-loop-turn-preserved : goal.expressions::conjunction-loop-turn-preserved
expressions::conjunction-loop-turn-preserved t c =
    let r = c.in_ok-right.ensures in
    turns_on _ _ _ _ _ _ _ _ _ _ r.0 _ _ c.loop-turn.invariant (omega arith) (search rules) (rw (c.in_ok-after.ensures, r.1) refl) (λ a h. c.in_ok-left-2.ensures a r.0 h r.2)

pub expressions::conjunction-returns : goal.expressions::conjunction-returns
expressions::conjunction-returns t c = turns_end _ _ _ _ _ _ _ _ _ _ c.loop-turn.invariant (omega arith)

pub expressions::comparison-loop-turn-init : goal.expressions::comparison-loop-turn-init
expressions::comparison-loop-turn-init t c =
    turns_begin view_tree depth_of_tree _ _ _ (sum (nested c.args.depth).prefix).read c.args.rest _ _ _ c.in_ok-left.ensures c.len-turn-end.ensures

pub expressions::comparison-returns-then-not-is_in : goal.expressions::comparison-returns-then-not-is_in
expressions::comparison-returns-then-not-is_in t c = turns_stop _ _ _ _ _ _ _ _ _ c.loop-turn.invariant (search rules)

pub expressions::comparison-returns-in_err-trial : goal.expressions::comparison-returns-in_err-trial
expressions::comparison-returns-in_err-trial t c =
    let h : Fails c.in_err-trial.field-0.0 ((comparison c.args.depth (nested (pred c.args.depth)).whole (nested c.args.depth).prefix).read c.args.rest) =
    turns_fail _ _ _ _ _ _ _ _ _ _ _ c.loop-turn.invariant (omega arith) (search rules) (c.in_err-trial.ensures) in
    search rules

pub expressions::comparison-loop-turn-preserved : goal.expressions::comparison-loop-turn-preserved
expressions::comparison-loop-turn-preserved t c =
    let r = c.in_ok-trial.ensures in
    turns_on _ _ _ _ _ _ _ _ _ _ r.0 _ _ c.loop-turn.invariant (omega arith) (search rules) (r.1) (λ a h. c.in_ok-left-2.ensures a r.0 h r.2)

pub expressions::comparison-returns : goal.expressions::comparison-returns
expressions::comparison-returns t c = turns_end _ _ _ _ _ _ _ _ _ _ c.loop-turn.invariant (omega arith)

pub expressions::sum-loop-turn-init : goal.expressions::sum-loop-turn-init
expressions::sum-loop-turn-init t c =
    turns_begin view_tree depth_of_tree _ _ _ (product (nested c.args.depth).prefix).read c.args.rest _ _ _ c.in_ok-left.ensures c.len-turn-end.ensures

pub expressions::sum-returns-then-not-is_in : goal.expressions::sum-returns-then-not-is_in
expressions::sum-returns-then-not-is_in t c = turns_stop _ _ _ _ _ _ _ _ _ c.loop-turn.invariant (search rules)

pub expressions::sum-returns-in_err-right : goal.expressions::sum-returns-in_err-right
expressions::sum-returns-in_err-right t c =
    let h : Fails c.in_err-right.field-0.0 ((sum (nested c.args.depth).prefix).read c.args.rest) =
    turns_fail _ _ _ _ _ _ _ _ _ _ _ c.loop-turn.invariant (omega arith) (search rules) (rw c.in_ok-op.ensures (fails_behind _ _ _ c.in_err-right.ensures)) in
    search rules

pub expressions::sum-loop-turn-preserved : goal.expressions::sum-loop-turn-preserved
expressions::sum-loop-turn-preserved t c =
    let r = c.in_ok-right.ensures in
    turns_on _ _ _ _ _ _ _ _ _ _ (c.in_ok-op.op, r.0) _ _ c.loop-turn.invariant (omega arith) (search rules) (rw (c.in_ok-op.ensures, r.1) refl) (λ a h. c.in_ok-left-2.ensures a r.0 h r.2)

pub expressions::sum-returns : goal.expressions::sum-returns
expressions::sum-returns t c = turns_end _ _ _ _ _ _ _ _ _ _ c.loop-turn.invariant (omega arith)

pub expressions::product-returns-then-not-is_in : goal.expressions::product-returns-then-not-is_in
expressions::product-returns-then-not-is_in t c = turns_stop _ _ _ _ _ _ _ _ _ c.loop-turn.invariant (search rules)

pub expressions::product-returns-in_err-right : goal.expressions::product-returns-in_err-right
expressions::product-returns-in_err-right t c =
    let h : Fails c.in_err-right.field-0.0 ((product (nested c.args.depth).prefix).read c.args.rest) =
    turns_fail _ _ _ _ _ _ _ _ _ _ _ c.loop-turn.invariant (omega arith) (search rules) (rw c.in_ok-op.ensures (fails_behind _ _ _ c.in_err-right.ensures)) in
    search rules

pub expressions::product-loop-turn-preserved : goal.expressions::product-loop-turn-preserved
expressions::product-loop-turn-preserved t c =
    let r = c.in_ok-right.ensures in
    turns_on _ _ _ _ _ _ _ _ _ _ (c.in_ok-op.op, r.0) _ _ c.loop-turn.invariant (omega arith) (search rules) (rw (c.in_ok-op.ensures, r.1) refl) (λ a h. c.in_ok-left-2.ensures a r.0 h r.2)

pub expressions::product-returns : goal.expressions::product-returns
expressions::product-returns t c = turns_end _ _ _ _ _ _ _ _ _ _ c.loop-turn.invariant (omega arith)

pub expressions::list-loop-turn-init : goal.expressions::list-loop-turn-init
expressions::list-loop-turn-init t c =
    let r = c.in_ok-first.ensures in
    let w = (nested c.args.depth).whole in
    turns_begin (map view_tree) (deepest depth_of_tree) _ _ _ (mapped alone w).read c.args.rest _ _ _ (r.0 ∷ [], rw r.1 refl, kept_alone view_tree depth_of_tree r.0 _ _ r.2 c.in_ok-items.ensures) c.len-turn-end.ensures

pub expressions::list-returns-then-not-is_mark : goal.expressions::list-returns-then-not-is_mark
expressions::list-returns-then-not-is_mark t c =
    keeps_mapped (map view_tree) (deepest depth_of_tree) view_trees depth_of_trees trees_of (λ x. refl) deepest_trees (Ok (c.loop-turn.items, c.loop-turn.rest)) ((list_of (nested c.args.depth).whole).read c.args.rest) (turns_stop _ _ _ _ _ _ _ _ _ c.loop-turn.invariant (search rules))

pub expressions::list-returns-in_err-item : goal.expressions::list-returns-in_err-item
expressions::list-returns-in_err-item t c =
    let h : Fails c.in_err-item.field-0.0 ((list_of (nested c.args.depth).whole).read c.args.rest) =
    turns_fail _ _ _ _ _ _ _ _ _ _ _ c.loop-turn.invariant (omega arith) (search rules) (rw c.in_ok-after.ensures (fails_behind _ _ _ c.in_err-item.ensures)) in
    let i : Fails c.in_err-item.field-0.0 ((exprs (nested c.args.depth).whole).read c.args.rest) = fails_behind _ _ _ h in
    search rules

pub expressions::list-loop-turn-preserved : goal.expressions::list-loop-turn-preserved
expressions::list-loop-turn-preserved t c =
    let r = c.in_ok-item.ensures in
    turns_on _ _ _ _ _ _ _ _ _ _ r.0 _ _ c.loop-turn.invariant (omega arith) (search rules) (rw (c.in_ok-after.ensures, r.1) refl) (λ as' h. kept_push view_tree depth_of_tree as' r.0 _ _ _ h r.2 c.in_ok-items-2.ensures)

pub expressions::list-returns : goal.expressions::list-returns
expressions::list-returns t c =
    keeps_mapped (map view_tree) (deepest depth_of_tree) view_trees depth_of_trees trees_of (λ x. refl) deepest_trees (Ok (c.loop-turn.items, c.loop-turn.rest)) ((list_of (nested c.args.depth).whole).read c.args.rest) (turns_end _ _ _ _ _ _ _ _ _ _ c.loop-turn.invariant (omega arith))

pub expressions::membership-returns-in_err-items : goal.expressions::membership-returns-in_err-items
expressions::membership-returns-in_err-items t c =
    rw (c.in_ok-rest.ensures, opened_as c.args.depth (sign_code signs.Open) (λ a. a) (λ m. closed (exprs (nested m).whole)) c.in_ok-rest.rest, c.in_ok-inside.ensures.reads) (search rules)

pub expressions::membership-returns : goal.expressions::membership-returns
expressions::membership-returns t c =
    let r = c.in_ok-items.ensures in (
      among c.args.negated r.0,
      rw (c.in_ok-rest.ensures, opened_as c.args.depth (sign_code signs.Open) (λ a. a) (λ m. closed (exprs (nested m).whole)) c.in_ok-rest.rest, c.in_ok-inside.ensures.reads, r.1) refl,
      c.among.ensures r.0 r.2,
    )

pub expressions::negation-returns-then-not-is_key : goal.expressions::negation-returns-then-not-is_key
expressions::negation-returns-then-not-is_key t c = rw (negation_is c.args.depth, ← c.if-not-is_key.ensures) c.comparison.ensures

pub expressions::negation-returns-in_err-inside : goal.expressions::negation-returns-in_err-inside
expressions::negation-returns-in_err-inside t c = rw (negation_is c.args.depth, ← c.if-not-is_key.ensures) (search rules)

pub expressions::negation-returns-in_err-operand : goal.expressions::negation-returns-in_err-operand
expressions::negation-returns-in_err-operand t c =
    rw (negation_is c.args.depth, ← c.if-not-is_key.ensures, opened_as c.args.depth (code words.Not) (unary Not) (λ m. (nested m).negation) c.args.rest, c.in_ok-inside.ensures.reads) (search rules)

pub expressions::negation-returns : goal.expressions::negation-returns
expressions::negation-returns t c =
    let r = c.in_ok-operand.ensures in (
      unary Not r.0,
      rw (negation_is c.args.depth, ← c.if-not-is_key.ensures, opened_as c.args.depth (code words.Not) (unary Not) (λ m. (nested m).negation) c.args.rest, c.in_ok-inside.ensures.reads, r.1) refl,
      c.in_ok-unary.ensures r.0 r.2,
    )

pub expressions::prefix-returns-then-is_in : goal.expressions::prefix-returns-then-is_in
expressions::prefix-returns-then-is_in t c = rw (prefix_is c.args.depth, ← c.if-is_in.ensures) c.negative_literal.ensures

pub expressions::prefix-returns-then-not-is_mark : goal.expressions::prefix-returns-then-not-is_mark
expressions::prefix-returns-then-not-is_mark t c = rw (prefix_is c.args.depth, ← c.if-is_in.ensures, ← c.if-not-is_mark.ensures) c.primary.ensures

pub expressions::prefix-returns-in_err-inside : goal.expressions::prefix-returns-in_err-inside
expressions::prefix-returns-in_err-inside t c = rw (prefix_is c.args.depth, ← c.if-is_in.ensures, ← c.if-not-is_mark.ensures) (search rules)

pub expressions::prefix-returns-in_err-operand : goal.expressions::prefix-returns-in_err-operand
expressions::prefix-returns-in_err-operand t c =
    rw (prefix_is c.args.depth, ← c.if-is_in.ensures, ← c.if-not-is_mark.ensures, opened_as c.args.depth (sign_code signs.Minus) (unary Negate) (λ m. (nested m).prefix) c.args.rest, c.in_ok-inside.ensures.reads) (search rules)

pub expressions::prefix-returns : goal.expressions::prefix-returns
expressions::prefix-returns t c =
    let r = c.in_ok-operand.ensures in (
      unary Negate r.0,
      rw (prefix_is c.args.depth, ← c.if-is_in.ensures, ← c.if-not-is_mark.ensures, opened_as c.args.depth (sign_code signs.Minus) (unary Negate) (λ m. (nested m).prefix) c.args.rest, c.in_ok-inside.ensures.reads, r.1) refl,
      c.in_ok-unary.ensures r.0 r.2,
    )

pub expressions::test-returns-then-is_key : goal.expressions::test-returns-then-is_key
expressions::test-returns-then-is_key t c = (null_test c.in_ok-op.op, rw (← c.if-is_key.ensures, c.in_ok-op.ensures) refl, c.null_test.ensures)

pub expressions::test-returns : goal.expressions::test-returns
expressions::test-returns t c =
    let r = c.in_ok-right.ensures in
    (compared c.in_ok-op-2.op r.0, rw (← c.if-is_key.ensures, ← c.if-is_key-2.ensures, ← c.if-is_key-3.ensures, c.in_ok-op-2.ensures, r.1) refl, c.compared.ensures r.0 r.2)

pub primaries::primary-returns-then-is_mark : goal.primaries::primary-returns-then-is_mark
primaries::primary-returns-then-is_mark t c =
    rw (← c.if-is_mark.ensures) (keeps_opened view_tree depth_of_tree _ _ _ _ (λ m. grouped (nested m)) _ _ c.in_ok-inside.ensures.reads c.in_ok-inside.ensures.one_less c.grouped.ensures)

pub primaries::primary-returns-then-is_key-3 : goal.primaries::primary-returns-then-is_key-3
primaries::primary-returns-then-is_key-3 t c =
    rw (← c.if-is_mark.ensures, ← c.if-is_key.ensures, ← c.if-is_key-2.ensures, ← c.if-is_key-3.ensures) (
    keeps_opened view_tree depth_of_tree _ _ _ _ (λ m. case_body (nested m).whole) _ _ c.in_ok-inside-2.ensures.reads c.in_ok-inside-2.ensures.one_less c.case_body.ensures)

pub primaries::comma_two-returns : goal.primaries::comma_two-returns
primaries::comma_two-returns t c =
    keeps_behind (view_beside view_tree view_tree) (depth_beside depth_of_tree depth_of_tree) _ _ _ (λ x. (two_arguments paired (nested c.args.depth).whole).read x.1) c.in_ok-rest.ensures c.two_arguments.ensures

pub primaries::comma_one-returns : goal.primaries::comma_one-returns
primaries::comma_one-returns t c =
    keeps_behind view_tree depth_of_tree _ _ _ (λ x. (closed (nested c.args.depth).whole).read x.1) c.in_ok-rest.ensures c.closed_whole.ensures

pub primaries::then_value-returns : goal.primaries::then_value-returns
primaries::then_value-returns t c = keeps_behind view_tree depth_of_tree _ _ _ (λ x. (nested c.args.depth).whole.read x.1) c.in_ok-rest.ensures c.whole.ensures

pub primaries::three_arguments-returns : goal.primaries::three_arguments-returns
primaries::three_arguments-returns t c =
    let r = c.in_ok-a.ensures in
    let s = c.in_ok-more.ensures in (
      as_three r.0 s.0.0 s.0.1,
      rw (r.1, s.1) refl,
      rw c.beside.ensures (kept_beside view_tree depth_of_tree (view_beside view_tree view_tree) (depth_beside depth_of_tree depth_of_tree) r.0 s.0 _ _ r.2 s.2),
    )

pub primaries::two_arguments-returns : goal.primaries::two_arguments-returns
primaries::two_arguments-returns t c =
    let r = c.in_ok-a.ensures in
    let s = c.in_ok-b.ensures in
    ((r.0, s.0), rw (r.1, s.1) refl, rw c.beside.ensures (kept_beside view_tree depth_of_tree view_tree depth_of_tree r.0 s.0 _ _ r.2 s.2))

pub primaries::when_arm-returns : goal.primaries::when_arm-returns
primaries::when_arm-returns t c =
    let r = c.in_ok-condition.ensures in
    let s = c.in_ok-value.ensures in
    ((r.0, s.0), rw (c.in_ok-rest.ensures, r.1, s.1) refl, c.in_ok-arm.ensures r.0 s.0 r.2 s.2)

pub primaries::case_parts-returns : goal.primaries::case_parts-returns
primaries::case_parts-returns t c =
    let r = c.in_ok-arms.ensures in
    let s = c.in_ok-otherwise.ensures in
    (choice (arms_of r.0) s.0, rw (r.1, s.1) refl, c.in_ok-choice.ensures (arms_of r.0) s.0 (kept_seen (map view_arm) (deepest (depth_beside depth_of_tree depth_of_tree)) view_arms depth_of_arms arms_of (λ x. refl) deepest_arms r.0 _ r.2) s.2)

pub primaries::when_arms-loop-turn-init : goal.primaries::when_arms-loop-turn-init
primaries::when_arms-loop-turn-init t c =
    let r = c.in_ok-first.ensures in
    let w = (nested c.args.depth).whole in
    turns_begin (map view_arm) (deepest (depth_beside depth_of_tree depth_of_tree)) _ _ _ (mapped alone (when_arm w)).read c.args.rest _ _ _ (r.0 ∷ [], rw r.1 refl, kept_alone view_arm (depth_beside depth_of_tree depth_of_tree) r.0 _ _ r.2 c.in_ok-arms.ensures) c.len-turn-end.ensures

pub primaries::when_arms-returns-then-not-is_key : goal.primaries::when_arms-returns-then-not-is_key
primaries::when_arms-returns-then-not-is_key t c = turns_stop _ _ _ _ _ _ _ _ _ c.loop-turn.invariant (search rules)

pub primaries::when_arms-returns-in_err-arm : goal.primaries::when_arms-returns-in_err-arm
primaries::when_arms-returns-in_err-arm t c =
    let h : Fails c.in_err-arm.field-0.0 ((when_arms (nested c.args.depth).whole).read c.args.rest) =
    turns_fail _ _ _ _ _ _ _ _ _ _ _ c.loop-turn.invariant (omega arith) (search rules) c.in_err-arm.ensures in
    search rules

pub primaries::when_arms-loop-turn-preserved : goal.primaries::when_arms-loop-turn-preserved
primaries::when_arms-loop-turn-preserved t c =
    let r = c.in_ok-arm.ensures in
    turns_on _ _ _ _ _ _ _ _ _ _ r.0 _ _ c.loop-turn.invariant (omega arith) (search rules) r.1 (λ as' h. kept_push view_arm (depth_beside depth_of_tree depth_of_tree) as' r.0 _ _ _ h r.2 c.in_ok-arms-2.ensures)

pub primaries::when_arms-returns : goal.primaries::when_arms-returns
primaries::when_arms-returns t c = turns_end _ _ _ _ _ _ _ _ _ _ c.loop-turn.invariant (omega arith)

pub primaries::if_call-returns-in_err-three : goal.primaries::if_call-returns-in_err-three
primaries::if_call-returns-in_err-three t c =
    let m = c.in_ok-inside.inside in
    rw (c.in_ok-rest.ensures, opened_as c.args.depth (sign_code signs.Open) (λ a. a) (λ m. three_arguments (on_three Func3.If) (nested m).whole) c.in_ok-rest.rest, c.in_ok-inside.ensures.reads, three_as (on_three Func3.If) (nested m).whole c.in_ok-inside.rest) (search rules)

pub primaries::if_call-returns : goal.primaries::if_call-returns
primaries::if_call-returns t c =
    let r = c.in_ok-three.ensures in
    let m = c.in_ok-inside.inside in (
      on_three Func3.If r.0.0 r.0.1.0 r.0.1.1,
      rw (c.in_ok-rest.ensures, opened_as c.args.depth (sign_code signs.Open) (λ a. a) (λ m. three_arguments (on_three Func3.If) (nested m).whole) c.in_ok-rest.rest, c.in_ok-inside.ensures.reads, three_as (on_three Func3.If) (nested m).whole c.in_ok-inside.rest, r.1) refl,
      c.in_ok-func3.ensures r.0 r.2,
    )

pub primaries::exists_call-returns-in_err-query : goal.primaries::exists_call-returns-in_err-query
primaries::exists_call-returns-in_err-query t c =
    rw (c.in_ok-rest.ensures, opened_as c.args.depth (sign_code signs.Open) (λ a. a) (λ m. mapped exists (closed (nested m).select)) c.in_ok-rest.rest, c.in_ok-inside.ensures.reads) (search rules)

pub primaries::exists_call-returns : goal.primaries::exists_call-returns
primaries::exists_call-returns t c =
    let r = c.in_ok-query.ensures in (
      exists r.0,
      rw (c.in_ok-rest.ensures, opened_as c.args.depth (sign_code signs.Open) (λ a. a) (λ m. mapped exists (closed (nested m).select)) c.in_ok-rest.rest, c.in_ok-inside.ensures.reads, r.1, c.in_ok-rest-2.ensures) refl,
      c.in_ok-exists.ensures r.0 r.2,
    )

pub calls::with_one-returns-then-not-is_mark : goal.calls::with_one-returns-then-not-is_mark
calls::with_one-returns-then-not-is_mark t c = keeps_tail (one_code ∷ []) call_one c.args.depth (closed (nested (pred c.args.depth)).whole) _ c.args.rest _ _ c.in_ok-word.ensures c.if-not-is_mark.ensures c.column.ensures

pub calls::with_one-returns-in_err-a : goal.calls::with_one-returns-in_err-a
calls::with_one-returns-in_err-a t c = rw (called_as (one_code ∷ []) call_one c.args.depth c.in_ok-inside.inside (λ m. closed (nested m).whole) c.args.rest _ _ _ c.in_ok-word.ensures c.if-not-is_mark.ensures c.in_ok-inside.ensures.reads) (search rules)

pub calls::with_one-returns : goal.calls::with_one-returns
calls::with_one-returns t c =
    let r = c.in_ok-a.ensures in (
      call_one c.in_ok-word.word r.0,
      rw (called_as (one_code ∷ []) call_one c.args.depth c.in_ok-inside.inside (λ m. closed (nested m).whole) c.args.rest _ _ _ c.in_ok-word.ensures c.if-not-is_mark.ensures c.in_ok-inside.ensures.reads, r.1) refl,
      rw c.one.ensures at (c.in_ok-func1.ensures r.0 r.2),
    )

pub calls::with_two-returns-then-not-is_mark : goal.calls::with_two-returns-then-not-is_mark
calls::with_two-returns-then-not-is_mark t c = keeps_tail (two_code ∷ []) call_two c.args.depth (two_arguments paired (nested (pred c.args.depth)).whole) _ c.args.rest _ _ c.in_ok-word.ensures c.if-not-is_mark.ensures c.column.ensures

pub calls::with_two-returns-in_err-two : goal.calls::with_two-returns-in_err-two
calls::with_two-returns-in_err-two t c = rw (called_as (two_code ∷ []) call_two c.args.depth c.in_ok-inside.inside (λ m. two_arguments paired (nested m).whole) c.args.rest _ _ _ c.in_ok-word.ensures c.if-not-is_mark.ensures c.in_ok-inside.ensures.reads) (search rules)

pub calls::with_two-returns : goal.calls::with_two-returns
calls::with_two-returns t c =
    let r = c.in_ok-two.ensures in (
      call_two c.in_ok-word.word r.0,
      rw (called_as (two_code ∷ []) call_two c.args.depth c.in_ok-inside.inside (λ m. two_arguments paired (nested m).whole) c.args.rest _ _ _ c.in_ok-word.ensures c.if-not-is_mark.ensures c.in_ok-inside.ensures.reads, r.1) refl,
      rw c.two.ensures at (c.in_ok-func2.ensures r.0 r.2),
    )

pub calls::with_three-returns-then-not-is_mark : goal.calls::with_three-returns-then-not-is_mark
calls::with_three-returns-then-not-is_mark t c = keeps_tail (three_code ∷ []) call_three c.args.depth (three_arguments as_three (nested (pred c.args.depth)).whole) _ c.args.rest _ _ c.in_ok-word.ensures c.if-not-is_mark.ensures c.column.ensures

pub calls::with_three-returns-in_err-three : goal.calls::with_three-returns-in_err-three
calls::with_three-returns-in_err-three t c = rw (called_as (three_code ∷ []) call_three c.args.depth c.in_ok-inside.inside (λ m. three_arguments as_three (nested m).whole) c.args.rest _ _ _ c.in_ok-word.ensures c.if-not-is_mark.ensures c.in_ok-inside.ensures.reads) (search rules)

pub calls::with_three-returns : goal.calls::with_three-returns
calls::with_three-returns t c =
    let r = c.in_ok-three.ensures in (
      call_three c.in_ok-word.word r.0,
      rw (called_as (three_code ∷ []) call_three c.args.depth c.in_ok-inside.inside (λ m. three_arguments as_three (nested m).whole) c.args.rest _ _ _ c.in_ok-word.ensures c.if-not-is_mark.ensures c.in_ok-inside.ensures.reads, r.1) refl,
      rw c.three.ensures at (c.in_ok-func3.ensures r.0 r.2),
    )

pub calls::with_many-returns-then-not-is_mark : goal.calls::with_many-returns-then-not-is_mark
calls::with_many-returns-then-not-is_mark t c = keeps_tail (many_code ∷ []) call_many c.args.depth (closed (exprs (nested (pred c.args.depth)).whole)) _ c.args.rest _ _ c.in_ok-word.ensures c.if-not-is_mark.ensures c.column.ensures

pub calls::with_many-returns-in_err-items : goal.calls::with_many-returns-in_err-items
calls::with_many-returns-in_err-items t c = rw (called_as (many_code ∷ []) call_many c.args.depth c.in_ok-inside.inside (λ m. closed (exprs (nested m).whole)) c.args.rest _ _ _ c.in_ok-word.ensures c.if-not-is_mark.ensures c.in_ok-inside.ensures.reads) (search rules)

pub calls::with_many-returns : goal.calls::with_many-returns
calls::with_many-returns t c =
    let r = c.in_ok-items.ensures in (
      call_many c.in_ok-word.word r.0,
      rw (called_as (many_code ∷ []) call_many c.args.depth c.in_ok-inside.inside (λ m. closed (exprs (nested m).whole)) c.args.rest _ _ _ c.in_ok-word.ensures c.if-not-is_mark.ensures c.in_ok-inside.ensures.reads, r.1) refl,
      rw c.many.ensures at (c.in_ok-func_n.ensures r.0 r.2),
    )

pub calls::floor_call-returns-then-not-is_mark : goal.calls::floor_call-returns-then-not-is_mark
calls::floor_call-returns-then-not-is_mark t c = keeps_tail (code words.Floor ∷ []) (λ t a. a) c.args.depth (random (pred c.args.depth) (nested (pred c.args.depth)).prefix) _ c.args.rest _ _ c.in_ok-word.ensures c.if-not-is_mark.ensures c.column.ensures

pub calls::floor_call-returns : goal.calls::floor_call-returns
calls::floor_call-returns t c =
    rw (called_as (code words.Floor ∷ []) (λ t a. a) c.args.depth c.in_ok-inside.inside (λ m. random m (nested m).prefix) c.args.rest _ _ _ c.in_ok-word.ensures c.if-not-is_mark.ensures c.in_ok-inside.ensures.reads, again ((random c.in_ok-inside.inside (nested c.in_ok-inside.inside).prefix).read c.in_ok-inside.rest)) c.random.ensures

pub calls::random-returns : goal.calls::random-returns
calls::random-returns t c =
    let r = c.in_ok-a.ensures in
    (floor_rand r.0, rw (c.in_ok-rest.ensures, c.in_ok-rest-2.ensures, c.in_ok-rest-3.ensures, r.1, c.in_ok-rest-4.ensures) refl, c.in_ok-floor_rand.ensures r.0 r.2)

pub calls::name_or_call-returns-then-not-is_mark : goal.calls::name_or_call-returns-then-not-is_mark
calls::name_or_call-returns-then-not-is_mark t c = rw (c.in_ok-word.ensures, ← c.if-not-is_mark.ensures) c.column.ensures

pub calls::name_or_call-returns-in_err-items : goal.calls::name_or_call-returns-in_err-items
calls::name_or_call-returns-in_err-items t c =
    rw (c.in_ok-word.ensures, ← c.if-not-is_mark.ensures, opened_as c.args.depth (sign_code signs.Open) (λ a. a) (λ m. arguments (nested m).whole) c.in_ok-word.rest, c.in_ok-inside.ensures.reads) (search rules)

pub calls::name_or_call-returns : goal.calls::name_or_call-returns
calls::name_or_call-returns t c =
    let r = c.in_ok-items.ensures in (
      call (name_said c.in_ok-word.word) r.0,
      rw (c.in_ok-word.ensures, ← c.if-not-is_mark.ensures, opened_as c.args.depth (sign_code signs.Open) (λ a. a) (λ m. arguments (nested m).whole) c.in_ok-word.rest, c.in_ok-inside.ensures.reads, r.1) refl,
      rw c.in_ok-name.ensures at (c.in_ok-call.ensures r.0 r.2),
    )

pub calls::by_name-returns-then-is_in-2 : goal.calls::by_name-returns-then-is_in-2
calls::by_name-returns-then-is_in-2 t c = rw (← c.if-is_in.ensures, ← c.if-is_in-2.ensures) c.uncalled.ensures

pub calls::floor_call-returns-in_err-inside : goal.calls::floor_call-returns-in_err-inside
calls::floor_call-returns-in_err-inside t c = rw (c.in_ok-word.ensures, ← c.if-not-is_mark.ensures) (search rules)

pub calls::with_three-returns-in_err-inside : goal.calls::with_three-returns-in_err-inside
calls::with_three-returns-in_err-inside t c = rw (c.in_ok-word.ensures, ← c.if-not-is_mark.ensures) (search rules)

pub calls::name_or_call-returns-in_err-inside : goal.calls::name_or_call-returns-in_err-inside
calls::name_or_call-returns-in_err-inside t c = rw (c.in_ok-word.ensures, ← c.if-not-is_mark.ensures) (search rules)

pub calls::with_many-returns-in_err-inside : goal.calls::with_many-returns-in_err-inside
calls::with_many-returns-in_err-inside t c = rw (c.in_ok-word.ensures, ← c.if-not-is_mark.ensures) (search rules)

pub calls::with_one-returns-in_err-inside : goal.calls::with_one-returns-in_err-inside
calls::with_one-returns-in_err-inside t c = rw (c.in_ok-word.ensures, ← c.if-not-is_mark.ensures) (search rules)

pub calls::with_two-returns-in_err-inside : goal.calls::with_two-returns-in_err-inside
calls::with_two-returns-in_err-inside t c = rw (c.in_ok-word.ensures, ← c.if-not-is_mark.ensures) (search rules)

pub calls::arguments-returns : goal.calls::arguments-returns
calls::arguments-returns t c = (no_tree, rw (← c.if-not-is_mark.ensures, c.in_ok-rest.ensures) refl, rw c.empty.ensures refl)

pub primaries::else_part-returns-then-not-is_key : goal.primaries::else_part-returns-then-not-is_key
primaries::else_part-returns-then-not-is_key t c = (no_part, rw (← c.if-not-is_key.ensures) refl, c.no_part.ensures)

pub primaries::else_part-returns : goal.primaries::else_part-returns
primaries::else_part-returns t c =
    let r = c.in_ok-a.ensures in
    (part r.0, rw (← c.if-not-is_key.ensures, c.in_ok-rest.ensures, r.1) refl, c.part.ensures r.0 r.2)

pub primaries::grouped-returns : goal.primaries::grouped-returns
primaries::grouped-returns t c =
    let r = c.in_ok-query.ensures in
    (subquery r.0, rw (← c.if-not-is_key.ensures, r.1, c.in_ok-rest.ensures) refl, c.in_ok-subquery.ensures r.0 r.2)

pub selects::select-returns : goal.selects::select-returns
selects::select-returns t c =
    rw (select_is c.args.depth) (keeps_behind view_query depth_of_query _ _ _ (λ x. (selected c.args.depth (nested c.args.depth).whole (nested (pred c.args.depth)).whole).read x.1) c.in_ok-rest.ensures c.selection.ensures)

pub selects::select-returns-in_err-rest : goal.selects::select-returns-in_err-rest
selects::select-returns-in_err-rest t c = rw (select_is c.args.depth) (search rules)

pub selects::single-returns : goal.selects::single-returns
selects::single-returns t c =
    rw (single_is c.args.depth) (keeps_behind view_query depth_of_query _ _ _ (λ x. (single_selected c.args.depth (nested c.args.depth).whole (nested (pred c.args.depth)).whole).read x.1) c.in_ok-rest.ensures c.single_selection.ensures)

pub selects::single-returns-in_err-rest : goal.selects::single-returns-in_err-rest
selects::single-returns-in_err-rest t c = rw (single_is c.args.depth) (search rules)

pub selects::selection-returns-then-is_mark : goal.selects::selection-returns-then-is_mark
selects::selection-returns-then-is_mark t c =
    let r = c.in_ok-from.ensures in
    (query all_columns r.0, rw (← c.if-is_mark.ensures, c.in_ok-rest.ensures, r.1) refl, c.in_ok-select.ensures all_columns r.0 c.all_columns.ensures r.2)

pub selects::itemized-returns : goal.selects::itemized-returns
selects::itemized-returns t c =
    let r = c.in_ok-what.ensures in
    let s = c.in_ok-from.ensures in
    (query (items r.0) s.0, rw (r.1, s.1) refl, c.in_ok-select.ensures (items r.0) s.0 (c.items.ensures r.0 r.2) s.2)

pub selects::itemized_one-returns : goal.selects::itemized_one-returns
selects::itemized_one-returns t c =
    let r = c.in_ok-what.ensures in
    let s = c.in_ok-from.ensures in
    let k = kept_seen (map view_tree) (deepest depth_of_tree) view_trees depth_of_trees trees_of (λ x. refl) deepest_trees (r.0 ∷ []) _ (kept_alone view_tree depth_of_tree r.0 _ _ r.2 c.in_ok-what-2.ensures) in
    (query (items (tree r.0 no_tree)) s.0, rw (r.1, s.1) refl, c.in_ok-select.ensures (items (tree r.0 no_tree)) s.0 (c.items.ensures (tree r.0 no_tree) k) s.2)

pub selects::aggregated-returns : goal.selects::aggregated-returns
selects::aggregated-returns t c =
    let r = c.in_ok-what.ensures in
    let s = c.in_ok-from.ensures in
    let k = kept_seen (map view_aggregate) (deepest depth_of_aggregate) view_aggregates depth_of_aggregates aggregates_of (λ x. refl) deepest_aggregates r.0 _ r.2 in
    (query (aggregates (aggregates_of r.0)) s.0, rw (r.1, s.1) refl, c.in_ok-select.ensures (aggregates (aggregates_of r.0)) s.0 (c.aggregates.ensures (aggregates_of r.0) k) s.2)

pub selects::aggregated_one-returns : goal.selects::aggregated_one-returns
selects::aggregated_one-returns t c =
    let r = c.in_ok-what.ensures in
    let s = c.in_ok-from.ensures in
    let k = kept_seen (map view_aggregate) (deepest depth_of_aggregate) view_aggregates depth_of_aggregates aggregates_of (λ x. refl) deepest_aggregates (r.0 ∷ []) _ (kept_alone view_aggregate depth_of_aggregate r.0 _ _ r.2 c.in_ok-what-2.ensures) in
    (query (aggregates (aggregates_of (r.0 ∷ []))) s.0, rw (r.1, s.1) refl, c.in_ok-select.ensures (aggregates (aggregates_of (r.0 ∷ []))) s.0 (c.aggregates.ensures (aggregates_of (r.0 ∷ [])) k) s.2)

pub selects::one_aggregate-returns-then-is_key : goal.selects::one_aggregate-returns-then-is_key
selects::one_aggregate-returns-then-is_key t c =
    rw (← c.if-is_key.ensures) (
    keeps_behind view_aggregate depth_of_aggregate _ _ _ (λ x. (in_parentheses c.args.depth (counted (nested (pred c.args.depth)).whole)).read x.1) c.in_ok-rest.ensures (
    keeps_opened view_aggregate depth_of_aggregate _ _ _ _ (λ m. counted (nested m).whole) _ _ c.in_ok-inside.ensures.reads c.in_ok-inside.ensures.one_less c.counted.ensures))

pub selects::from_part-returns : goal.selects::from_part-returns
selects::from_part-returns t c =
    let r = c.in_ok-conditions.ensures in
    (origin_of c.in_ok-table.table r.0, rw (c.in_ok-rest.ensures, c.in_ok-table.ensures, r.1) refl, c.from_clause.ensures r.0 r.2)

pub selects::conditions-returns : goal.selects::conditions-returns
selects::conditions-returns t c =
    let r = c.in_ok-filter.ensures in
    let s = c.in_ok-ordering.ensures in
    ((r.0, s.0), rw (r.1, s.1) refl, rw c.beside.ensures (kept_beside view_part depth_of_part (view_beside view_orders (λ l. l)) (λ o. depth_of_orders o.0) r.0 s.0 _ _ r.2 s.2))

pub selects::order-returns : goal.selects::order-returns
selects::order-returns t c =
    let all = mapped orders_of (list_of (both paired (nested c.args.depth).whole direction)) in
    rw (← c.if-not-is_key.ensures) (
    keeps_behind view_orders depth_of_orders _ _ _ (λ x. (behind (keyword words.By) all).read x.1) c.in_ok-rest.ensures (
    keeps_behind view_orders depth_of_orders _ _ _ (λ x. all.read x.1) c.in_ok-rest-2.ensures c.order_list.ensures))

pub selects::aggregate_list-loop-turn-init : goal.selects::aggregate_list-loop-turn-init
selects::aggregate_list-loop-turn-init t c =
    let r = c.in_ok-first.ensures in
    turns_begin (map view_aggregate) (deepest depth_of_aggregate) _ _ _ (mapped alone (agg c.args.depth (nested (pred c.args.depth)).whole)).read c.args.rest _ _ _ (r.0 ∷ [], rw r.1 refl, kept_alone view_aggregate depth_of_aggregate r.0 _ _ r.2 c.in_ok-list.ensures) c.len-turn-end.ensures

pub selects::aggregate_list-returns-then-not-is_mark : goal.selects::aggregate_list-returns-then-not-is_mark
selects::aggregate_list-returns-then-not-is_mark t c = (turns_stop _ _ _ _ _ _ _ _ _ c.loop-turn.invariant (search rules))

pub selects::aggregate_list-returns-in_err-item : goal.selects::aggregate_list-returns-in_err-item
selects::aggregate_list-returns-in_err-item t c =
    let h : Fails c.in_err-item.field-0.0 ((list_of (agg c.args.depth (nested (pred c.args.depth)).whole)).read c.args.rest) =
    turns_fail _ _ _ _ _ _ _ _ _ _ _ c.loop-turn.invariant (omega arith) (search rules) (rw c.in_ok-after.ensures (fails_behind _ _ _ c.in_err-item.ensures)) in
    search rules

pub selects::aggregate_list-loop-turn-preserved : goal.selects::aggregate_list-loop-turn-preserved
selects::aggregate_list-loop-turn-preserved t c =
    let r = c.in_ok-item.ensures in
    turns_on _ _ _ _ _ _ _ _ _ _ r.0 _ _ c.loop-turn.invariant (omega arith) (search rules) (rw (c.in_ok-after.ensures, r.1) refl) (λ as' h. kept_push view_aggregate depth_of_aggregate as' r.0 _ _ _ h r.2 c.in_ok-list-2.ensures)

pub selects::aggregate_list-returns : goal.selects::aggregate_list-returns
selects::aggregate_list-returns t c = (turns_end _ _ _ _ _ _ _ _ _ _ c.loop-turn.invariant (omega arith))

pub selects::order_list-loop-turn-init : goal.selects::order_list-loop-turn-init
selects::order_list-loop-turn-init t c =
    let r = c.in_ok-first.ensures in
    turns_begin (map view_order) (deepest (λ o. depth_of_tree o.0)) _ _ _ (mapped alone (both paired (nested c.args.depth).whole direction)).read c.args.rest _ _ _ (r.0 ∷ [], rw r.1 refl, kept_alone view_order (λ o. depth_of_tree o.0) r.0 _ _ r.2 c.in_ok-list.ensures) c.len-turn-end.ensures

pub selects::order_list-returns-then-not-is_mark : goal.selects::order_list-returns-then-not-is_mark
selects::order_list-returns-then-not-is_mark t c = keeps_mapped (map view_order) (deepest (λ o. depth_of_tree o.0)) view_orders depth_of_orders orders_of (λ x. refl) deepest_orders (Ok (c.loop-turn.list, c.loop-turn.rest)) ((list_of (both paired (nested c.args.depth).whole direction)).read c.args.rest) (turns_stop _ _ _ _ _ _ _ _ _ c.loop-turn.invariant (search rules))

pub selects::order_list-returns-in_err-item : goal.selects::order_list-returns-in_err-item
selects::order_list-returns-in_err-item t c =
    let h : Fails c.in_err-item.field-0.0 ((list_of (both paired (nested c.args.depth).whole direction)).read c.args.rest) =
    turns_fail _ _ _ _ _ _ _ _ _ _ _ c.loop-turn.invariant (omega arith) (search rules) (rw c.in_ok-after.ensures (fails_behind _ _ _ c.in_err-item.ensures)) in
    let i : Fails c.in_err-item.field-0.0 ((mapped orders_of (list_of (both paired (nested c.args.depth).whole direction))).read c.args.rest) = fails_behind _ _ _ h in
    search rules

pub selects::order_list-loop-turn-preserved : goal.selects::order_list-loop-turn-preserved
selects::order_list-loop-turn-preserved t c =
    let r = c.in_ok-item.ensures in
    turns_on _ _ _ _ _ _ _ _ _ _ r.0 _ _ c.loop-turn.invariant (omega arith) (search rules) (rw (c.in_ok-after.ensures, r.1) refl) (λ as' h. kept_push view_order (λ o. depth_of_tree o.0) as' r.0 _ _ _ h r.2 c.in_ok-list-2.ensures)

pub selects::order_list-returns : goal.selects::order_list-returns
selects::order_list-returns t c = keeps_mapped (map view_order) (deepest (λ o. depth_of_tree o.0)) view_orders depth_of_orders orders_of (λ x. refl) deepest_orders (Ok (c.loop-turn.list, c.loop-turn.rest)) ((list_of (both paired (nested c.args.depth).whole direction)).read c.args.rest) (turns_end _ _ _ _ _ _ _ _ _ _ c.loop-turn.invariant (omega arith))

pub selects::one_aggregate-returns-in_err-a : goal.selects::one_aggregate-returns-in_err-a
selects::one_aggregate-returns-in_err-a t c =
    rw (← c.if-is_key.ensures, c.in_ok-function.ensures, opened_as c.args.depth (sign_code signs.Open) (λ a. a) (λ m. closed (nested m).whole) c.in_ok-function.rest, c.in_ok-inside-2.ensures.reads) (search rules)

pub selects::order-returns-then-not-is_key : goal.selects::order-returns-then-not-is_key
selects::order-returns-then-not-is_key t c = (no_order, rw (← c.if-not-is_key.ensures) refl, rw c.empty.ensures refl)

pub selects::order_one-returns : goal.selects::order_one-returns
selects::order_one-returns t c =
    let r = c.in_ok-by.ensures in
    ((r.0, c.in_ok-descending.descending), rw (r.1, c.in_ok-descending.ensures) refl, c.in_ok-order_item.ensures r.0 r.2)

pub selects::ordering-returns : goal.selects::ordering-returns
selects::ordering-returns t c =
    let r = c.in_ok-order.ensures in
    ((r.0, c.in_ok-limit.limit), rw (r.1, c.in_ok-limit.ensures) refl, c.ordering.ensures r.0 r.2)

pub selects::origin-returns-then-not-is_key : goal.selects::origin-returns-then-not-is_key
selects::origin-returns-then-not-is_key t c = (no_origin, rw (← c.if-not-is_key.ensures) refl, c.no_origin.ensures)

pub selects::plain_from-returns : goal.selects::plain_from-returns
selects::plain_from-returns t c =
    let r = c.in_ok-filter.ensures in
    (from_table c.in_ok-table.table r.0 no_order None, rw (c.in_ok-rest.ensures, c.in_ok-table.ensures, r.1) refl, c.plain_from.ensures r.0 r.2)

pub selects::where_part-returns-then-not-is_key : goal.selects::where_part-returns-then-not-is_key
selects::where_part-returns-then-not-is_key t c = (no_part, rw (← c.if-not-is_key.ensures) refl, c.no_part.ensures)

pub selects::where_part-returns : goal.selects::where_part-returns
selects::where_part-returns t c =
    let r = c.in_ok-a.ensures in
    (part r.0, rw (← c.if-not-is_key.ensures, c.in_ok-rest.ensures, r.1) refl, c.part.ensures r.0 r.2)
