use Rattle.std.proofs.Common.{◌+◌, ◌-◌, ◌*◌, ◌∷◌, [], pred, Some, map}
use Rattle.sql_lex.specs.declared.keyword.Keyword.TheVariants as words
use Rattle.sql_lex.specs.declared.token.Symbol.TheVariants as signs
use Rattle.val_types.specs.declared.ops.BinOp.TheVariants as ops
use Rattle.sql_grammar.specs.Rule.{behind, both, paired, token, then_one}
use Rattle.sql_grammar.specs.Sets.{next_in}
use Rattle.sql_tree.specs.Tree.{binary}
use Rattle.sql_tree.specs.View.{view_tree, view_arm, view_aggregate, view_order}
use Rattle.sql_tree.specs.Depth.{depth_of_tree, deepest}
use Rattle.sql_syntax.specs.Tokens.{kind, code, sign_code, keyword, sign}
use Rattle.sql_parse_nodes.specs.Kept.{depth_beside, depth_of_aggregate}
use Rattle.sql_syntax.specs.Parts.{list_of}
use Rattle.sql_syntax.specs.Expressions.{nested, conjunction, disjunction, comparison, test, tested, test_kinds, applied, sum, sum_ops, sum_op, product, product_ops, is_percent, when_arm, when_arms}
use Rattle.sql_syntax.specs.Selects.{agg, direction}
use Rattle.sql_parse_nodes.proofs.Turns.{Turns}
use Rattle.sql_parse_expressions.proofs.+expressions.Given as goal

abbrev pub decreases-expressions::whole : goal.decreases-expressions::whole
decreases-expressions::whole l = 100 * l.depth + 60

abbrev pub decreases-expressions::disjunction : goal.decreases-expressions::disjunction
decreases-expressions::disjunction l = 100 * l.depth + 59

abbrev pub decreases-expressions::conjunction : goal.decreases-expressions::conjunction
decreases-expressions::conjunction l = 100 * l.depth + 58

abbrev pub decreases-expressions::negation : goal.decreases-expressions::negation
decreases-expressions::negation l = 100 * l.depth + 57

abbrev pub decreases-expressions::comparison : goal.decreases-expressions::comparison
decreases-expressions::comparison l = 100 * l.depth + 56

abbrev pub decreases-expressions::test : goal.decreases-expressions::test
decreases-expressions::test l = 100 * l.depth + 55

abbrev pub decreases-expressions::membership : goal.decreases-expressions::membership
decreases-expressions::membership l = 100 * l.depth + 54

abbrev pub decreases-expressions::closed_list : goal.decreases-expressions::closed_list
decreases-expressions::closed_list l = 100 * l.depth + 62

abbrev pub decreases-expressions::list : goal.decreases-expressions::list
decreases-expressions::list l = 100 * l.depth + 61

abbrev pub decreases-expressions::sum : goal.decreases-expressions::sum
decreases-expressions::sum l = 100 * l.depth + 53

abbrev pub decreases-expressions::product : goal.decreases-expressions::product
decreases-expressions::product l = 100 * l.depth + 52

abbrev pub decreases-expressions::prefix : goal.decreases-expressions::prefix
decreases-expressions::prefix l = 100 * l.depth + 51

abbrev pub decreases-primaries::primary : goal.decreases-primaries::primary
decreases-primaries::primary l = 100 * l.depth + 50

abbrev pub decreases-primaries::grouped : goal.decreases-primaries::grouped
decreases-primaries::grouped l = 100 * l.depth + 90

abbrev pub decreases-primaries::closed_whole : goal.decreases-primaries::closed_whole
decreases-primaries::closed_whole l = 100 * l.depth + 61

abbrev pub decreases-primaries::exists_call : goal.decreases-primaries::exists_call
decreases-primaries::exists_call l = 100 * l.depth + 49

abbrev pub decreases-primaries::if_call : goal.decreases-primaries::if_call
decreases-primaries::if_call l = 100 * l.depth + 49

abbrev pub decreases-primaries::three_arguments : goal.decreases-primaries::three_arguments
decreases-primaries::three_arguments l = 100 * l.depth + 66

abbrev pub decreases-primaries::comma_two : goal.decreases-primaries::comma_two
decreases-primaries::comma_two l = 100 * l.depth + 65

abbrev pub decreases-primaries::two_arguments : goal.decreases-primaries::two_arguments
decreases-primaries::two_arguments l = 100 * l.depth + 64

abbrev pub decreases-primaries::comma_one : goal.decreases-primaries::comma_one
decreases-primaries::comma_one l = 100 * l.depth + 63

abbrev pub decreases-primaries::case_body : goal.decreases-primaries::case_body
decreases-primaries::case_body l = 100 * l.depth + 66

abbrev pub decreases-primaries::case_parts : goal.decreases-primaries::case_parts
decreases-primaries::case_parts l = 100 * l.depth + 65

abbrev pub decreases-primaries::when_arms : goal.decreases-primaries::when_arms
decreases-primaries::when_arms l = 100 * l.depth + 64

abbrev pub decreases-primaries::when_arm : goal.decreases-primaries::when_arm
decreases-primaries::when_arm l = 100 * l.depth + 63

abbrev pub decreases-primaries::then_value : goal.decreases-primaries::then_value
decreases-primaries::then_value l = 100 * l.depth + 62

abbrev pub decreases-primaries::else_part : goal.decreases-primaries::else_part
decreases-primaries::else_part l = 100 * l.depth + 62

abbrev pub decreases-calls::by_name : goal.decreases-calls::by_name
decreases-calls::by_name l = 100 * l.depth + 49

abbrev pub decreases-calls::name_or_call : goal.decreases-calls::name_or_call
decreases-calls::name_or_call l = 100 * l.depth + 48

abbrev pub decreases-calls::arguments : goal.decreases-calls::arguments
decreases-calls::arguments l = 100 * l.depth + 67

abbrev pub decreases-calls::built_ins : goal.decreases-calls::built_ins
decreases-calls::built_ins l = 100 * l.depth + 48

abbrev pub decreases-calls::with_one : goal.decreases-calls::with_one
decreases-calls::with_one l = 100 * l.depth + 47

abbrev pub decreases-calls::with_two : goal.decreases-calls::with_two
decreases-calls::with_two l = 100 * l.depth + 47

abbrev pub decreases-calls::with_three : goal.decreases-calls::with_three
decreases-calls::with_three l = 100 * l.depth + 47

abbrev pub decreases-calls::with_many : goal.decreases-calls::with_many
decreases-calls::with_many l = 100 * l.depth + 47

abbrev pub decreases-calls::floor_call : goal.decreases-calls::floor_call
decreases-calls::floor_call l = 100 * l.depth + 47

abbrev pub decreases-calls::random : goal.decreases-calls::random
decreases-calls::random l = 100 * l.depth + 67

abbrev pub decreases-selects::select : goal.decreases-selects::select
decreases-selects::select l = 100 * l.depth + 82

abbrev pub decreases-selects::single : goal.decreases-selects::single
decreases-selects::single l = 100 * l.depth + 82

abbrev pub decreases-selects::selection : goal.decreases-selects::selection
decreases-selects::selection l = 100 * l.depth + 81

abbrev pub decreases-selects::single_selection : goal.decreases-selects::single_selection
decreases-selects::single_selection l = 100 * l.depth + 81

abbrev pub decreases-selects::itemized : goal.decreases-selects::itemized
decreases-selects::itemized l = 100 * l.depth + 70

abbrev pub decreases-selects::itemized_one : goal.decreases-selects::itemized_one
decreases-selects::itemized_one l = 100 * l.depth + 70

abbrev pub decreases-selects::aggregated : goal.decreases-selects::aggregated
decreases-selects::aggregated l = 100 * l.depth + 70

abbrev pub decreases-selects::aggregated_one : goal.decreases-selects::aggregated_one
decreases-selects::aggregated_one l = 100 * l.depth + 70

abbrev pub decreases-selects::aggregate_list : goal.decreases-selects::aggregate_list
decreases-selects::aggregate_list l = 100 * l.depth + 69

abbrev pub decreases-selects::one_aggregate : goal.decreases-selects::one_aggregate
decreases-selects::one_aggregate l = 100 * l.depth + 68

abbrev pub decreases-selects::counted : goal.decreases-selects::counted
decreases-selects::counted l = 100 * l.depth + 63

abbrev pub decreases-selects::origin : goal.decreases-selects::origin
decreases-selects::origin l = 100 * l.depth + 69

abbrev pub decreases-selects::from_part : goal.decreases-selects::from_part
decreases-selects::from_part l = 100 * l.depth + 68

abbrev pub decreases-selects::conditions : goal.decreases-selects::conditions
decreases-selects::conditions l = 100 * l.depth + 67

abbrev pub decreases-selects::ordering : goal.decreases-selects::ordering
decreases-selects::ordering l = 100 * l.depth + 66

abbrev pub decreases-selects::plain_from : goal.decreases-selects::plain_from
decreases-selects::plain_from l = 100 * l.depth + 67

abbrev pub decreases-selects::where_part : goal.decreases-selects::where_part
decreases-selects::where_part l = 100 * l.depth + 61

abbrev pub decreases-selects::order : goal.decreases-selects::order
decreases-selects::order l = 100 * l.depth + 65

abbrev pub decreases-selects::order_list : goal.decreases-selects::order_list
decreases-selects::order_list l = 100 * l.depth + 64

abbrev pub decreases-selects::order_one : goal.decreases-selects::order_one
decreases-selects::order_one l = 100 * l.depth + 63

abbrev pub invariant-expressions::disjunction-loop-turn : goal.invariant-expressions::disjunction-loop-turn
invariant-expressions::disjunction-loop-turn l =
    let r = (nested l.depth).negation in
    Turns view_tree depth_of_tree (binary ops.Or) (next_in kind (code words.Or ∷ [])) (behind (keyword words.Or) (conjunction r)).read ((disjunction r).read l.fn.rest) (l._turn-end - l._turn) l.rest l.left

abbrev pub invariant-expressions::conjunction-loop-turn : goal.invariant-expressions::conjunction-loop-turn
invariant-expressions::conjunction-loop-turn l =
    let r = (nested l.depth).negation in
    Turns view_tree depth_of_tree (binary ops.And) (next_in kind (code words.And ∷ [])) (behind (keyword words.And) r).read ((conjunction r).read l.fn.rest) (l._turn-end - l._turn) l.rest l.left

abbrev pub invariant-expressions::comparison-loop-turn : goal.invariant-expressions::comparison-loop-turn
invariant-expressions::comparison-loop-turn l =
    let w = (nested (pred l.depth)).whole in
    let r = (nested l.depth).prefix in
    Turns view_tree depth_of_tree tested (next_in kind test_kinds) (test l.depth w r).read ((comparison l.depth w r).read l.fn.rest) (l._turn-end - l._turn) l.rest l.left

abbrev pub invariant-expressions::sum-loop-turn : goal.invariant-expressions::sum-loop-turn
invariant-expressions::sum-loop-turn l =
    let r = (nested l.depth).prefix in
    Turns view_tree depth_of_tree applied (next_in kind sum_ops) (both paired (token kind sum_ops (λ t. Some (sum_op t))) (product r)).read ((sum r).read l.fn.rest) (l._turn-end - l._turn) l.rest l.left

abbrev pub invariant-expressions::product-loop-turn : goal.invariant-expressions::product-loop-turn
invariant-expressions::product-loop-turn l =
    let r = (nested l.depth).prefix in
    Turns view_tree depth_of_tree applied (next_in kind product_ops) (both paired (token kind product_ops (λ t. Some (is_percent t))) r).read ((product r).read l.fn.rest) (l._turn-end - l._turn) l.rest l.left

abbrev pub invariant-expressions::list-loop-turn : goal.invariant-expressions::list-loop-turn
invariant-expressions::list-loop-turn l =
    let r = (nested l.depth).whole in
    Turns (map view_tree) (deepest depth_of_tree) then_one (next_in kind (sign_code signs.Comma ∷ [])) (behind (sign signs.Comma) r).read ((list_of r).read l.fn.rest) (l._turn-end - l._turn) l.rest l.items

abbrev pub invariant-primaries::when_arms-loop-turn : goal.invariant-primaries::when_arms-loop-turn
invariant-primaries::when_arms-loop-turn l =
    let r = (nested l.depth).whole in
    Turns (map view_arm) (deepest (depth_beside depth_of_tree depth_of_tree)) then_one (next_in kind (code words.When ∷ [])) (when_arm r).read ((when_arms r).read l.fn.rest) (l._turn-end - l._turn) l.rest l.arms

abbrev pub invariant-selects::aggregate_list-loop-turn : goal.invariant-selects::aggregate_list-loop-turn
invariant-selects::aggregate_list-loop-turn l =
    let r = agg l.depth (nested (pred l.depth)).whole in
    Turns (map view_aggregate) (deepest depth_of_aggregate) then_one (next_in kind (sign_code signs.Comma ∷ [])) (behind (sign signs.Comma) r).read ((list_of r).read l.fn.rest) (l._turn-end - l._turn) l.rest l.list

abbrev pub invariant-selects::order_list-loop-turn : goal.invariant-selects::order_list-loop-turn
invariant-selects::order_list-loop-turn l =
    let r = both paired (nested l.depth).whole direction in
    Turns (map view_order) (deepest (λ o. depth_of_tree o.0)) then_one (next_in kind (sign_code signs.Comma ∷ [])) (behind (sign signs.Comma) r).read ((list_of r).read l.fn.rest) (l._turn-end - l._turn) l.rest l.list
