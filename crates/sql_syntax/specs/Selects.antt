-- SELECT, by the rule for expressions of the same number of constructs, and the one for expressions in a construct.
use Rattle.std.specs.Prelude.{ℕ, Bool, true, false, List, [], ◌∷◌, Option, Some, None}
use Rattle.val_types.specs.declared.ops.Agg.{Agg}
use Rattle.val_types.specs.declared.ops.Agg.TheVariants as aggs
use Rattle.sql_lex.specs.declared.keyword.Keyword.{Keyword}
use Rattle.sql_lex.specs.declared.keyword.Keyword.TheVariants as words
use Rattle.sql_lex.specs.declared.token.Symbol.TheVariants as signs
use Rattle.sql_tree.specs.Tree.{Tree, no_tree, tree, Part, no_part, part, Query, query, items, all_columns, aggregates, Origin, no_origin, from_table, Orders, no_order}
use Rattle.sql_tree.specs.View.{orders_of, aggregates_of}
use Rattle.sql_tree.specs.declared.expressions.Count.{Count}
use Rattle.sql_tree.specs.declared.expressions.Count.TheVariants as counts
use Rattle.sql_tree.specs.declared.expressions.Limit.{Limit}
use Rattle.sql_grammar.specs.Rule.{Rule, token, both, either, either_by_two, mapped, optional, paired, behind}
use Rattle.sql_syntax.specs.Tokens.{Tok, keyword_said, kind, code, sign_code, number_code, keyword, sign}
use Rattle.sql_syntax.specs.Parts.{a_name, a_number, list_of, exprs, closed, in_parentheses}

-- [WHERE expr]
abbrev pub where_part : Rule Tok Tree → Rule Tok Part
where_part r = optional kind (code words.Where ∷ []) no_part (mapped part (behind (keyword words.Where) r))

-- [ASC | DESC]
abbrev pub direction : Rule Tok Bool
direction =
    either kind (code words.Desc ∷ []) (mapped (λ u. true) (keyword words.Desc)) (optional kind (code words.Asc ∷ []) false (mapped (λ u. false) (keyword words.Asc)))

-- [ORDER BY expr [ASC | DESC] {, expr [ASC | DESC]}]
abbrev pub order : Rule Tok Tree → Rule Tok Orders
order r = optional kind (code words.Order ∷ []) no_order (behind (keyword words.Order) (behind (keyword words.By) (mapped orders_of (list_of (both paired r direction)))))

-- a number, or the name of a local variable
abbrev pub count : Rule Tok Count
count = either kind (number_code ∷ []) (mapped counts.Number a_number) (mapped counts.Name a_name)

-- [LIMIT count]
abbrev pub limit : Rule Tok (Option Count)
limit = optional kind (code words.Limit ∷ []) None (mapped Some (behind (keyword words.Limit) count))

-- what stands behind the first count of a LIMIT: the offset, the count itself, or nothing
pub data Bound : Type 0 where
  no_bound : Bound
  offset_is : Count → Bound
  count_is : Count → Bound

-- the LIMIT of a first count and what stands behind it
abbrev pub limit_by : Count → Bound → Limit
limit_by c no_bound = record { count = c; offset = None }
limit_by c (offset_is o) = record { count = c; offset = Some o }
limit_by c (count_is b) = record { count = b; offset = Some c }

-- [OFFSET count | , count]
abbrev pub bound : Rule Tok Bound
bound =
    either kind (code words.Offset ∷ []) (mapped offset_is (behind (keyword words.Offset) count)) (
    optional kind (sign_code signs.Comma ∷ []) no_bound (mapped count_is (behind (sign signs.Comma) count)))

-- [LIMIT count [OFFSET count] | LIMIT count, count]
abbrev pub limits : Rule Tok (Option Limit)
limits = optional kind (code words.Limit ∷ []) None (mapped Some (behind (keyword words.Limit) (both limit_by count bound)))

-- the FROM part of these parts
abbrev pub origin_of : List ℕ → Part × (Orders × Option Limit) → Origin
origin_of t rest = from_table t rest.0 rest.1.0 rest.1.1

-- [order] [limits]
abbrev pub ordering : Rule Tok Tree → Rule Tok (Orders × Option Limit)
ordering r = both paired (order r) limits

-- [WHERE expr] [order] [limits]
abbrev pub conditions : Rule Tok Tree → Rule Tok (Part × (Orders × Option Limit))
conditions r = both paired (where_part r) (ordering r)

-- FROM name [WHERE expr] [order] [limits]
abbrev pub from_part : Rule Tok Tree → Rule Tok Origin
from_part r = behind (keyword words.From) (both origin_of a_name (conditions r))

-- FROM name [WHERE expr]
abbrev pub plain_from : Rule Tok Tree → Rule Tok Origin
plain_from r = behind (keyword words.From) (both (λ t w. from_table t w no_order None) a_name (where_part r))

-- names of aggregates
abbrev pub aggregate_words : List ℕ
aggregate_words = code words.Count ∷ code words.Sum ∷ code words.Min ∷ code words.Max ∷ []

-- those that always take an expression
abbrev pub one_sided : List ℕ
one_sided = code words.Sum ∷ code words.Min ∷ code words.Max ∷ []

-- the aggregate that a word names
abbrev pub function_of : Option Keyword → Agg
function_of (Some words.Sum) = aggs.Sum
function_of (Some words.Min) = aggs.Min
function_of o = aggs.Max

-- `*` or an expression, and the closing parenthesis
abbrev pub counted : Rule Tok Tree → Rule Tok (Option (Agg × Tree))
counted inner = closed (either kind (sign_code signs.Star ∷ []) (mapped (λ u. None) (sign signs.Star)) (mapped (λ a. Some (aggs.Count, a)) inner))

-- COUNT(*), or an aggregate of an expression
abbrev pub agg : ℕ → Rule Tok Tree → Rule Tok (Option (Agg × Tree))
agg n inner =
    either kind (code words.Count ∷ []) (behind (keyword words.Count) (in_parentheses n (counted inner))) (
    both (λ f a. Some (f, a)) (token kind one_sided (λ t. Some (function_of (keyword_said t)))) (in_parentheses n (closed inner)))

-- aggregates FROM name [WHERE expr]
abbrev pub aggregated : ℕ → Rule Tok Tree → Rule Tok Tree → Rule Tok Query
aggregated n r inner = both (λ as' o. query (aggregates (aggregates_of as')) o) (list_of (agg n inner)) (plain_from r)

-- one aggregate FROM name [WHERE expr]
abbrev pub aggregated_one : ℕ → Rule Tok Tree → Rule Tok Tree → Rule Tok Query
aggregated_one n r inner = both (λ a o. query (aggregates (aggregates_of (a ∷ []))) o) (agg n inner) (plain_from r)

-- expressions, with FROM or not
abbrev pub itemized : Rule Tok Tree → Rule Tok Query
itemized r = both (λ ts o. query (items ts) o) (exprs r) (optional kind (code words.From ∷ []) no_origin (from_part r))

-- one expression, with FROM or not
abbrev pub itemized_one : Rule Tok Tree → Rule Tok Query
itemized_one r = both (λ t o. query (items (tree t no_tree)) o) r (optional kind (code words.From ∷ []) no_origin (from_part r))

-- What stands behind SELECT: a name of an aggregate and a parenthesis begin an aggregate.
abbrev pub selected : ℕ → Rule Tok Tree → Rule Tok Tree → Rule Tok Query
selected n r inner =
    either kind (sign_code signs.Star ∷ []) (behind (sign signs.Star) (mapped (query all_columns) (from_part r))) (
    either_by_two kind aggregate_words (sign_code signs.Open ∷ []) (aggregated n r inner) (itemized r))

-- SELECT
abbrev pub select_by : ℕ → Rule Tok Tree → Rule Tok Tree → Rule Tok Query
select_by n r inner = behind (keyword words.Select) (selected n r inner)

-- what stands behind the SELECT of a subquery: exactly one item that is not `*`
abbrev pub single_selected : ℕ → Rule Tok Tree → Rule Tok Tree → Rule Tok Query
single_selected n r inner = either_by_two kind aggregate_words (sign_code signs.Open ∷ []) (aggregated_one n r inner) (itemized_one r)

-- SELECT with exactly one item that is not `*`
abbrev pub single_by : ℕ → Rule Tok Tree → Rule Tok Tree → Rule Tok Query
single_by n r inner = behind (keyword words.Select) (single_selected n r inner)
