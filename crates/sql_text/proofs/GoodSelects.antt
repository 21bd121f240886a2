-- SELECTs of good tokens are well.
use Rattle.std.proofs.Common.{◌≡◌, ℕ, ◌⊎◌, Bool, true, false, List, [], ◌∷◌, Option, Some, None, refl}
use Rattle.std.proofs.lemmas.Bool.{and_from}
use Rattle.std.specs.Prelude.{◌&&◌}
use Rattle.val_types.specs.declared.ops.Agg.{Agg}
use Rattle.val_types.specs.declared.ops.Agg.TheVariants as aggs
use Rattle.sql_lex.specs.declared.keyword.Keyword.TheVariants as words
use Rattle.sql_lex.specs.declared.token.Symbol.TheVariants as signs
use Rattle.sql_grammar.specs.Grammar.{Pure}
use Rattle.sql_grammar.specs.Rule.{Rule, both, paired}
use Rattle.sql_tree.specs.Tree.{Tree, Trees, no_tree, tree, Part, no_part, part, Query, query, items, all_columns, aggregates, Origin, no_origin, from_table, Orders, no_order}
use Rattle.sql_tree.specs.View.{orders_of, aggregates_of}
use Rattle.sql_tree.specs.Well.{is_name, is_count, is_count_if, is_limit_if, has_tree, has_origin, is_unordered, gives_one, is_well_tree, are_well_trees, is_well_part, is_well_query, are_well_aggregates, is_well_origin, are_well_orders}
use Rattle.sql_tree.specs.declared.expressions.Count.{Count}
use Rattle.sql_tree.specs.declared.expressions.Count.TheVariants as counts
use Rattle.sql_tree.specs.declared.expressions.Limit.{Limit}
use Rattle.sql_syntax.specs.Tokens.{Tok, keyword_said}
use Rattle.sql_syntax.specs.Parts.{closed}
use Rattle.sql_syntax.specs.Selects.{where_part, direction, order, count, limit, Bound, no_bound, offset_is, count_is, limit_by, bound, limits, origin_of, from_part, plain_from, one_sided, function_of, counted, agg, itemized, itemized_one, select_by, single_by}
use Rattle.sql_text.proofs.Good.{Gives, Any, Pair, Each, Some', IfSome, weaker, either_gives, optional_gives, mapped_gives, paired_gives, both_gives, before_gives, said_gives, keyword_gives, sign_gives, key_gives, mark_gives}
use Rattle.sql_text.proofs.GoodParts.{Name, Well, Wells, name_well, number_well, list_well, closed_well, parens_well, exprs_well}

-- ---- what is well, as properties
abbrev pub WellPart : Part → Type 0
WellPart p = is_well_part p ≡ true

abbrev pub WellOrders : Orders → Type 0
WellOrders os = are_well_orders os ≡ true

abbrev pub WellCount : Option Count → Type 0
WellCount c = is_count_if c ≡ true

abbrev WellLimit : Option Limit → Type 0
WellLimit l = is_limit_if l ≡ true

abbrev From : Origin → Type 0
From o = (has_origin o ≡ true) × (is_well_origin o ≡ true)

abbrev PlainFrom : Origin → Type 0
PlainFrom o = (is_unordered o ≡ true) × (is_well_origin o ≡ true)

abbrev WellOrigin : Origin → Type 0
WellOrigin o = is_well_origin o ≡ true

abbrev WellAgg : Option (Agg × Tree) → Type 0
WellAgg x = IfSome (λ a. Well a.1) x

abbrev pub WellQuery : Query → Type 0
WellQuery q = is_well_query q ≡ true

-- a SELECT with one item
abbrev pub OneQuery : Query → Type 0
OneQuery q = (gives_one q ≡ true) × (is_well_query q ≡ true)

-- ---- counts
count_well : Gives (λ c. is_count c ≡ true) count.texts
count_well = either_gives (mapped_gives counts.Number (λ n p. p) number_well) (mapped_gives counts.Name (λ n p. p) name_well)

pub limit_well : Gives WellCount limit.texts
limit_well = optional_gives None refl (mapped_gives Some (λ c p. p) (key_gives count_well words.Limit))

abbrev BoundWell : Bound → Type 0
BoundWell no_bound = Unit {0}
BoundWell (offset_is c) = is_count c ≡ true
BoundWell (count_is c) = is_count c ≡ true

bound_well : Gives BoundWell bound.texts
bound_well =
    either_gives (mapped_gives offset_is (λ c p. p) (key_gives count_well words.Offset)) (
    optional_gives no_bound tt (mapped_gives count_is (λ c p. p) (mark_gives count_well signs.Comma)))

limited : (c : Count) (b : Bound) → is_count c ≡ true → BoundWell b → WellLimit (Some (limit_by c b))
limited c no_bound p q = and_from (is_count c) true p refl
limited c (offset_is o) p q = and_from (is_count c) (is_count o) p q
limited c (count_is b) p q = and_from (is_count b) (is_count c) q p

limits_well : Gives WellLimit limits.texts
limits_well = optional_gives None refl (mapped_gives Some (λ l p. p) (key_gives (both_gives {R = λ l. WellLimit (Some l)} limit_by limited count_well bound_well) words.Limit))

direction_well : Gives Any direction.texts
direction_well =
    either_gives (mapped_gives (λ u. true) (λ u p. tt) (keyword_gives words.Desc)) (optional_gives false tt (mapped_gives (λ u. false) (λ u p. tt) (keyword_gives words.Asc)))

ordered : (os : List (Tree × Bool)) → Each (Pair Well Any) os → are_well_orders (orders_of os) ≡ true
ordered [] p = refl
ordered (o ∷ os) p = and_from (is_well_tree o.0) (are_well_orders (orders_of os)) p.0.0 (ordered os p.1)

ordered_some : (os : List (Tree × Bool)) → Some' (Pair Well Any) os → are_well_orders (orders_of os) ≡ true
ordered_some [] p = absurd p
ordered_some (o ∷ os) p = ordered (o ∷ os) p

origin_good : (t : List ℕ) (x : Part × (Orders × Option Limit)) → Name t → Pair WellPart (Pair WellOrders WellLimit) x → From (origin_of t x)
origin_good t x p q = (
  refl,
  and_from (is_name t && is_well_part x.0 && are_well_orders x.1.0) (is_limit_if x.1.1)
      (and_from (is_name t && is_well_part x.0) (are_well_orders x.1.0) (and_from (is_name t) (is_well_part x.0) p q.0) q.1.0) q.1.1,
)

plain_good : (t : List ℕ) (w : Part) → Name t → WellPart w → PlainFrom (from_table t w no_order None)
plain_good t w p q = (refl, and_from (is_name t && is_well_part w && true) true (and_from (is_name t && is_well_part w) true (and_from (is_name t) (is_well_part w) p q) refl) refl)

-- ---- SELECTs
aggregates_good : (as' : List (Option (Agg × Tree))) → Each WellAgg as' → are_well_aggregates (aggregates_of as') ≡ true
aggregates_good [] p = refl
aggregates_good (None ∷ as') p = aggregates_good as' p.1
aggregates_good (Some a ∷ as') p = and_from (is_well_tree a.1) (are_well_aggregates (aggregates_of as')) p.0 (aggregates_good as' p.1)

aggregated_good : (as' : List (Option (Agg × Tree))) (o : Origin) → Some' WellAgg as' → PlainFrom o → WellQuery (query (aggregates (aggregates_of as')) o)
aggregated_good [] o p q = absurd p
aggregated_good (None ∷ as') o p q =
    and_from (is_unordered o && (are_well_aggregates (aggregates_of as'))) (is_well_origin o) (and_from (is_unordered o) (are_well_aggregates (aggregates_of as')) q.0 (aggregates_good as' p.1)) q.1
aggregated_good (Some a ∷ as') o p q =
    and_from (is_unordered o && (are_well_aggregates (aggregates_of (Some a ∷ as')))) (is_well_origin o) (and_from (is_unordered o) (are_well_aggregates (aggregates_of (Some a ∷ as'))) q.0 (aggregates_good (Some a ∷ as') p)) q.1

one_good : (a : Option (Agg × Tree)) (o : Origin) → WellAgg a → PlainFrom o → OneQuery (query (aggregates (aggregates_of (a ∷ []))) o)
one_good None o p q = (refl, aggregated_good (None ∷ []) o (p, tt) q)
one_good (Some a) o p q = (refl, aggregated_good (Some a ∷ []) o (p, tt) q)

itemized_good : (ts : Trees) (o : Origin) → Wells ts → WellOrigin o → WellQuery (query (items ts) o)
itemized_good ts o p q = and_from (has_tree ts && are_well_trees ts) (is_well_origin o) (and_from (has_tree ts) (are_well_trees ts) p.0 p.1) q

item_good : (t : Tree) (o : Origin) → Well t → WellOrigin o → OneQuery (query (items (tree t no_tree)) o)
item_good t o p q = (refl, itemized_good (tree t no_tree) o (refl, and_from (is_well_tree t) true p refl) q)

star_good : (o : Origin) → From o → WellQuery (query all_columns o)
star_good o p = and_from (has_origin o && true) (is_well_origin o) (and_from (has_origin o) true p.0 refl) p.1

module _ (r : Rule Tok Tree) (q : Gives Well r.texts) where
  pub where_well : Gives WellPart (where_part r).texts
  where_well = optional_gives no_part refl (mapped_gives part (λ t p. p) (key_gives q words.Where))

  pub order_well : Gives WellOrders (order r).texts
  order_well = optional_gives no_order refl (key_gives (key_gives (mapped_gives orders_of ordered_some (list_well (both paired r direction) (paired_gives q direction_well))) words.By) words.Order)

  from_well : Gives From (from_part r).texts
  from_well = key_gives (both_gives origin_of origin_good name_well (paired_gives where_well (paired_gives order_well limits_well))) words.From

  plain_from_well : Gives PlainFrom (plain_from r).texts
  plain_from_well = key_gives (both_gives (λ t w. from_table t w no_order None) plain_good name_well where_well) words.From

  origin_well : Gives WellOrigin (λ o ts rest. (from_part r).texts o ts rest ⊎ Pure no_origin o ts rest)
  origin_well = optional_gives no_origin refl (weaker (λ o p. p.1) from_well)

  itemized_well : Gives WellQuery (itemized r).texts
  itemized_well = both_gives (λ ts o. query (items ts) o) itemized_good (exprs_well r q) origin_well

  itemized_one_well : Gives OneQuery (itemized_one r).texts
  itemized_one_well = both_gives (λ t o. query (items (tree t no_tree)) o) item_good q origin_well

  counted_well : Gives WellAgg (counted r).texts
  counted_well = before_gives (either_gives (mapped_gives (λ u. None) (λ u p. tt) (sign_gives signs.Star)) (mapped_gives (λ a. Some (aggs.Count, a)) (λ a p. p) q)) (sign_gives signs.Close)

  agg_well : (n : ℕ) → Gives WellAgg (agg n r).texts
  agg_well n =
      either_gives (key_gives (parens_well n (counted r) counted_well) words.Count) (
      both_gives {P = Any} (λ f a. Some (f, a)) (λ f a u p. p) (said_gives one_sided (λ t. function_of (keyword_said t)) (λ t g m. tt)) (parens_well n (closed r) (closed_well r q)))

module _ (n : ℕ) (r inner : Rule Tok Tree) (q : Gives Well r.texts) (q' : Gives Well inner.texts) where
  pub select_by_well : Gives WellQuery (select_by n r inner).texts
  select_by_well =
      key_gives (either_gives (mark_gives (mapped_gives (query all_columns) star_good (from_well r q)) signs.Star) (
      either_gives (both_gives (λ as' o. query (aggregates (aggregates_of as')) o) aggregated_good (list_well (agg n inner) (agg_well inner q' n)) (plain_from_well r q)) (itemized_well r q))) words.Select

  pub single_by_well : Gives OneQuery (single_by n r inner).texts
  single_by_well =
      key_gives (either_gives (both_gives (λ a o. query (aggregates (aggregates_of (a ∷ []))) o) one_good (agg_well inner q' n) (plain_from_well r q)) (itemized_one_well r q)) words.Select
