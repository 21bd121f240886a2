-- SELECT keeps the laws, if expressions do.
use Rattle.std.proofs.Common.{◌≡◌, ℕ, suc, pred, true, false, inl, inr, ◌==◌, List, [], ◌∷◌, Some, None, refl, arith}
use Rattle.val_types.specs.declared.ops.Agg.TheVariants as aggs
use Rattle.sql_lex.specs.declared.keyword.Keyword.TheVariants as words
use Rattle.sql_lex.specs.declared.token.Symbol.TheVariants as signs
use Rattle.sql_tree.specs.Tree.{Tree, name, no_tree, tree, no_part, part, query, items, all_columns, aggregates, no_origin, from_table, no_order}
use Rattle.sql_tree.specs.View.{trees_of, orders_of, aggregates_of}
use Rattle.sql_tree.specs.declared.expressions.Count.TheVariants as counts
use Rattle.sql_grammar.specs.Sets.{member, next_in, next_two_in}
use Rattle.sql_grammar.specs.Grammar.{first}
use Rattle.sql_grammar.specs.Rule.{Rule, of_kinds, both, either, either_by_two, mapped, optional, pure, paired, behind, alone, then_one}
use Rattle.sql_grammar.proofs.Lists.{or_true, or_left}
use Rattle.sql_grammar.proofs.Lawful.{shape, Lawful, GoesOn}
use Rattle.sql_grammar.proofs.Single.{Takes, takes_kinds, kinds_taken, expect_lawful, pure_lawful, mapped_lawful, widened}
use Rattle.sql_grammar.proofs.Sequence.{both_lawful}
use Rattle.sql_grammar.proofs.Choice.{either_lawful, either_by_two_lawful, Never, Always}
use Rattle.sql_grammar.proofs.Alive.{pure_alive, both_alive, first_alive, other_alive, mapped_alive}
use Rattle.sql_grammar.proofs.TwoTokens.{Starts, starts_one, starts_both, starts_opened, always_pair, always_both, always_either, always_mapped, always_chain, never_mapped, never_wider, never_chain}
use Rattle.sql_syntax.specs.Tokens.{Tok, keyword_said, kind, code, sign_code, number_code, names, name_said, sign}
use Rattle.sql_syntax.specs.Parts.{a_name, exprs, closed}
use Rattle.sql_syntax.specs.Selects.{where_part, order, count, limit, no_bound, offset_is, count_is, limit_by, bound, limits, origin_of, from_part, plain_from, aggregate_words, one_sided, function_of, counted, agg, aggregated, aggregated_one, itemized, itemized_one, select_by, single_by}
use Rattle.sql_syntax.proofs.Words.{spelled, takes_keyword, takes_sign, keyword_lawful, sign_lawful, sign_alive}
use Rattle.sql_syntax.proofs.Shapes.{comma, starts, behind_expressions, behind_order, behind_selects, wholes, selects}
use Rattle.sql_syntax.proofs.PartLaws.{name_lawful, number_lawful, keyword_then, sign_then, closed_lawful, list_lawful, exprs_lawful, in_parentheses_lawful, closed_alive, keyword_then_alive, exprs_alive, never_before_option}

pub count_lawful : (d : ℕ) → Lawful kind (shape (number_code ∷ names) false [] true) (λ e. count) d
count_lawful d = either_lawful (number_code ∷ []) (mapped_lawful counts.Number (number_lawful d)) (mapped_lawful counts.Name (name_lawful d)) refl refl refl

pub limit_lawful : (d : ℕ) → Lawful kind (shape (code words.Limit ∷ []) true (code words.Limit ∷ []) true) (λ e. limit) d
limit_lawful d = either_lawful (code words.Limit ∷ []) (mapped_lawful Some (keyword_then (count_lawful d) refl words.Limit)) (pure_lawful None d) refl refl refl

abbrev bounds : List ℕ
bounds = code words.Offset ∷ sign_code signs.Comma ∷ []

bound_lawful : (d : ℕ) → Lawful kind (shape bounds true bounds true) (λ e. bound) d
bound_lawful d =
    let c = either_lawful comma (mapped_lawful count_is (sign_then (count_lawful d) refl signs.Comma)) (pure_lawful no_bound d) refl refl refl in
    widened (either_lawful (code words.Offset ∷ []) (mapped_lawful offset_is (keyword_then (count_lawful d) refl words.Offset)) c refl refl refl) (shape bounds true bounds true) refl

limits_lawful : (d : ℕ) → Lawful kind (shape (code words.Limit ∷ []) true (code words.Limit ∷ bounds) true) (λ e. limits) d
limits_lawful d =
    let some = mapped_lawful Some (keyword_then (both_lawful limit_by (count_lawful d) (bound_lawful d) refl refl) refl words.Limit) in
    widened (either_lawful (code words.Limit ∷ []) some (pure_lawful None d) refl refl refl) (shape (code words.Limit ∷ []) true (code words.Limit ∷ bounds) true) refl

module _ {R : ℕ → Rule Tok Tree} {d : ℕ} (l : Lawful kind wholes R d) where
  pub where_lawful : Lawful kind (shape (code words.Where ∷ []) true (code words.Where ∷ behind_expressions) true) (λ e. where_part (R e)) d
  where_lawful =
      widened (either_lawful (code words.Where ∷ []) (mapped_lawful part (keyword_then l refl words.Where)) (pure_lawful no_part d) refl refl refl)
      (shape (code words.Where ∷ []) true (code words.Where ∷ behind_expressions) true) refl

  pub order_lawful : Lawful kind (shape (code words.Order ∷ []) true behind_order true) (λ e. order (R e)) d
  order_lawful =
      let asc = either_lawful (code words.Asc ∷ []) (mapped_lawful (λ u. false) (keyword_lawful words.Asc d)) (pure_lawful false d) refl refl refl in
      let way = either_lawful (code words.Desc ∷ []) (mapped_lawful (λ u. true) (keyword_lawful words.Desc d)) asc refl refl refl in
      let items' = mapped_lawful orders_of (list_lawful (both_lawful paired l way refl refl) refl refl refl) in
      let some = keyword_then (keyword_then items' refl words.By) refl words.Order in
      widened (either_lawful (code words.Order ∷ []) some (pure_lawful no_order d) refl refl refl) (shape (code words.Order ∷ []) true behind_order true) refl

  from_lawful : Lawful kind (shape (code words.From ∷ []) false behind_selects true) (λ e. from_part (R e)) d
  from_lawful =
      let tail = both_lawful paired where_lawful (both_lawful paired order_lawful (limits_lawful d) refl refl) refl refl in
      widened (keyword_then (both_lawful origin_of (name_lawful d) tail refl refl) refl words.From) (shape (code words.From ∷ []) false behind_selects true) refl

  plain_from_lawful : Lawful kind (shape (code words.From ∷ []) false behind_selects true) (λ e. plain_from (R e)) d
  plain_from_lawful =
      widened (keyword_then (both_lawful (λ t w. from_table t w no_order None) (name_lawful d) where_lawful refl refl) refl words.From)
      (shape (code words.From ∷ []) false behind_selects true) refl

  option_lawful : Lawful kind (shape (code words.From ∷ []) true behind_selects true) (λ e. optional kind (code words.From ∷ []) no_origin (from_part (R e))) d
  option_lawful = widened (either_lawful (code words.From ∷ []) from_lawful (pure_lawful no_origin d) refl refl refl) (shape (code words.From ∷ []) true behind_selects true) refl

-- ---- aggregates
takes_one_sided : Takes kind (of_kinds kind one_sided (λ t. Some (function_of (keyword_said t)))) one_sided
unfolding kind
takes_one_sided = let t = spelled words.Sum in takes_kinds kind one_sided (λ u. Some (function_of (keyword_said u))) t aggs.Sum refl refl

module _ (W : ℕ → Rule Tok Tree) (alive : GoesOn W []) (d : ℕ) (l : (k : ℕ) → d ≡ suc k → Lawful kind wholes W k) where
  counted_alive : GoesOn (λ e. counted (W e)) []
  counted_alive =
      closed_alive (λ e. either kind (sign_code signs.Star ∷ []) (mapped (λ u. None) (sign signs.Star)) (mapped (λ a. Some (aggs.Count, a)) (W e)))
      (first_alive (next_in kind (sign_code signs.Star ∷ [])) (λ e. mapped (λ u. None) (sign signs.Star)) (λ e. mapped (λ a. Some (aggs.Count, a)) (W e))
      (mapped_alive (λ u. None) (λ e. sign signs.Star) (sign_alive signs.Star)))

  counted_lawful : (k : ℕ) → d ≡ suc k → Lawful kind (shape (sign_code signs.Star ∷ starts) false [] true) (λ e. counted (W e)) k
  counted_lawful k e =
      widened (closed_lawful (either_lawful (sign_code signs.Star ∷ []) (mapped_lawful (λ u. None) (sign_lawful signs.Star k)) (mapped_lawful (λ a. Some (aggs.Count, a)) (l k e)) refl refl refl) refl)
      (shape (sign_code signs.Star ∷ starts) false [] true) refl

  agg_lawful : Lawful kind (shape aggregate_words false [] true) (λ e. agg e (W (pred e))) d
  agg_lawful =
      let all = keyword_then (in_parentheses_lawful (λ e. counted (W e)) counted_alive d counted_lawful refl) refl words.Count in
      let one = in_parentheses_lawful (λ e. closed (W e)) (closed_alive W alive) d (λ k e. closed_lawful (l k e) refl) refl in
      widened (either_lawful (code words.Count ∷ []) all (both_lawful (λ f a. Some (f, a)) (expect_lawful takes_one_sided d) one refl refl) refl refl refl) (shape aggregate_words false [] true) refl

  agg_always : Always kind aggregate_words (sign_code signs.Open ∷ []) (λ e. agg e (W (pred e)))
  agg_always =
      always_either (next_in kind (code words.Count ∷ []))
      (always_pair (λ u a. a) aggregate_words (sign_code signs.Open ∷ []) (takes_keyword words.Count) (starts_opened (takes_sign signs.Open) (λ u a. a) (λ e. counted (W (pred e)))) refl refl)
      (always_pair (λ f a. Some (f, a)) aggregate_words (sign_code signs.Open ∷ []) takes_one_sided (starts_opened (takes_sign signs.Open) (λ u a. a) (λ e. closed (W (pred e)))) refl refl)

  agg_front : (t : Tok) → member (kind t) aggregate_words ≡ true → (agg d (W (pred d))).fronts (t ∷ [])
  agg_front t m = elim (or_true (kind t == code words.Count) (member (kind t) one_sided) m) [
    | inl e ↦ inl (inl (inr (tt, (t, refl, kinds_taken kind (code words.Count ∷ []) (λ u. tt) t (or_left (kind t == code words.Count) false e)))))
    | inr e ↦ inr (inl (inr (function_of (keyword_said t), (t, refl, kinds_taken kind one_sided (λ u. function_of (keyword_said u)) t e))))
  ]

  -- ---- SELECT, by the rule for expressions of the same number, in which the name of an aggregate is a column
  module _ {R : ℕ → Rule Tok Tree} (r : Lawful kind wholes R d) (going : GoesOn R []) (never : Never kind aggregate_words (sign_code signs.Open ∷ []) behind_expressions R)
      (column : (t : Tok) → member (kind t) aggregate_words ≡ true → (R d).texts (name (name_said t)) (t ∷ []) []) where
    aggregated_lawful : Lawful kind (shape aggregate_words false behind_selects true) (λ e. aggregated e (R e) (W (pred e))) d
    aggregated_lawful =
        widened (both_lawful (λ as' o. query (aggregates (aggregates_of as')) o) (list_lawful agg_lawful refl refl refl) (plain_from_lawful r) refl refl) (shape aggregate_words false behind_selects true) refl

    aggregated_one_lawful : Lawful kind (shape aggregate_words false behind_selects true) (λ e. aggregated_one e (R e) (W (pred e))) d
    aggregated_one_lawful =
        widened (both_lawful (λ a o. query (aggregates (aggregates_of (a ∷ []))) o) agg_lawful (plain_from_lawful r) refl refl) (shape aggregate_words false behind_selects true) refl

    itemized_lawful : Lawful kind (shape starts false behind_selects true) (λ e. itemized (R e)) d
    itemized_lawful = widened (both_lawful (λ ts o. query (items ts) o) (exprs_lawful r) (option_lawful r) refl refl) (shape starts false behind_selects true) refl

    itemized_one_lawful : Lawful kind (shape starts false behind_selects true) (λ e. itemized_one (R e)) d
    itemized_one_lawful = widened (both_lawful (λ t o. query (items (tree t no_tree)) o) r (option_lawful r) refl refl) (shape starts false behind_selects true) refl

    from_starts : Starts kind (code words.From ∷ []) (λ e. from_part (R e))
    from_starts = starts_both (λ u a. a) (λ e. both origin_of a_name (both paired (where_part (R e)) (both paired (order (R e)) limits))) (starts_one (takes_keyword words.From))

    list_never : Never kind aggregate_words (sign_code signs.Open ∷ []) behind_expressions (λ e. exprs (R e))
    list_never =
        never_mapped trees_of (never_chain then_one comma {S = λ e a. behind (sign signs.Comma) (R e)} (never_mapped alone never) (λ a. starts_both (λ u b. b) R (starts_one (takes_sign signs.Comma))) refl)

    listed_lawful : Lawful kind (shape starts false behind_selects true) (λ e. either_by_two kind aggregate_words (sign_code signs.Open ∷ []) (aggregated e (R e) (W (pred e))) (itemized (R e))) d
    listed_lawful =
        widened (either_by_two_lawful aggregate_words (sign_code signs.Open ∷ []) [] aggregated_lawful itemized_lawful refl
        (always_both (λ as' o. query (aggregates (aggregates_of as')) o) (λ e. plain_from (R e))
        (always_chain then_one comma (λ e a. behind (sign signs.Comma) (agg e (W (pred e)))) (always_mapped alone agg_always)))
        (never_wider _ (never_before_option (λ ts o. query (items ts) o) (code words.From ∷ []) no_origin list_never from_starts refl) refl)
        (λ t h. itemized_lawful.closed (query (items (tree (name (name_said t)) no_tree)) no_origin) (t ∷ []) [] [] (tree (name (name_said t)) no_tree, no_origin, [], refl, (name (name_said t) ∷ [], refl, first (name (name_said t), refl, column t (aggregated_lawful.front_begins t [] h))), inr (refl, refl)) (omega arith))
        (λ t h m. inl (inl (agg_front t m)))) (shape starts false behind_selects true) refl

    one_lawful : Lawful kind (shape starts false behind_selects true) (λ e. either_by_two kind aggregate_words (sign_code signs.Open ∷ []) (aggregated_one e (R e) (W (pred e))) (itemized_one (R e))) d
    one_lawful =
        widened (either_by_two_lawful aggregate_words (sign_code signs.Open ∷ []) [] aggregated_one_lawful itemized_one_lawful refl
        (always_both (λ a o. query (aggregates (aggregates_of (a ∷ []))) o) (λ e. plain_from (R e)) agg_always)
        (never_wider _ (never_before_option (λ t o. query (items (tree t no_tree)) o) (code words.From ∷ []) no_origin never from_starts refl) refl)
        (λ t h. itemized_one_lawful.closed (query (items (tree (name (name_said t)) no_tree)) no_origin) (t ∷ []) [] [] (name (name_said t), no_origin, [], refl, column t (aggregated_one_lawful.front_begins t [] h), inr (refl, refl)) (omega arith))
        (λ t h m. inl (agg_front t m))) (shape starts false behind_selects true) refl

    pub select_lawful : Lawful kind selects (λ e. select_by e (R e) (W (pred e))) d
    select_lawful =
        let star = sign_then (mapped_lawful (query all_columns) (from_lawful r)) refl signs.Star in
        widened (keyword_then (either_lawful (sign_code signs.Star ∷ []) star listed_lawful refl refl refl) refl words.Select) selects refl

    pub single_lawful : Lawful kind selects (λ e. single_by e (R e) (W (pred e))) d
    single_lawful = widened (keyword_then one_lawful refl words.Select) selects refl

-- ---- SELECTs of one expression
module _ (R W : ℕ → Rule Tok Tree) (alive : GoesOn R []) where
  option_alive : GoesOn (λ e. optional kind (code words.From ∷ []) no_origin (from_part (R e))) []
  option_alive = other_alive (next_in kind (code words.From ∷ [])) (λ e. from_part (R e)) (λ e. pure no_origin) (pure_alive no_origin)

  pub select_alive : GoesOn (λ e. select_by e (R e) (W (pred e))) []
  select_alive =
      keyword_then_alive (λ e. either kind (sign_code signs.Star ∷ []) (behind (sign signs.Star) (mapped (query all_columns) (from_part (R e)))) (
      either_by_two kind aggregate_words (sign_code signs.Open ∷ []) (aggregated e (R e) (W (pred e))) (itemized (R e))))
      (other_alive (next_in kind (sign_code signs.Star ∷ [])) (λ e. behind (sign signs.Star) (mapped (query all_columns) (from_part (R e)))) (λ e. either_by_two kind aggregate_words (sign_code signs.Open ∷ []) (aggregated e (R e) (W (pred e))) (itemized (R e)))
      (other_alive (next_two_in kind aggregate_words (sign_code signs.Open ∷ [])) (λ e. aggregated e (R e) (W (pred e))) (λ e. itemized (R e))
      (both_alive (λ ts o. query (items ts) o) (λ e. exprs (R e)) (λ e. optional kind (code words.From ∷ []) no_origin (from_part (R e))) (exprs_alive R alive) option_alive))) words.Select

  pub single_alive : GoesOn (λ e. single_by e (R e) (W (pred e))) []
  single_alive =
      keyword_then_alive (λ e. either_by_two kind aggregate_words (sign_code signs.Open ∷ []) (aggregated_one e (R e) (W (pred e))) (itemized_one (R e)))
      (other_alive (next_two_in kind aggregate_words (sign_code signs.Open ∷ [])) (λ e. aggregated_one e (R e) (W (pred e))) (λ e. itemized_one (R e))
      (both_alive (λ t o. query (items (tree t no_tree)) o) R (λ e. optional kind (code words.From ∷ []) no_origin (from_part (R e))) alive option_alive)) words.Select
