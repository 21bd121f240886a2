-- SELECT, from the texts of its parts, for any rules of expressions.
use Rattle.std.proofs.Common.{◌≡◌, ◌<◌, ℕ, Bool, true, false, List, [], ◌∷◌, ◌++◌, Option, Some, None, refl, inl, inr, codes}
use Rattle.std.proofs.lemmas.Bool.{and_parts}
use Rattle.val_types.specs.declared.ops.Agg.{Agg}
use Rattle.val_types.specs.declared.ops.Agg.TheVariants as aggs
use Rattle.sql_lex.specs.declared.keyword.Keyword.TheVariants as words
use Rattle.sql_grammar.specs.Rule.{Rule, both, paired, optional}
use Rattle.sql_tree.specs.Tree.{Tree, tree, no_tree, Trees, Part, no_part, part, query, items, all_columns, aggregates, Origin, no_origin, from_table, Orders, no_order}
use Rattle.sql_tree.specs.View.{orders_of, aggregates_of}
use Rattle.sql_tree.specs.Well.{is_name, is_count, is_count_if, is_limit_if}
use Rattle.sql_tree.specs.declared.expressions.Count.{Count}
use Rattle.sql_tree.specs.declared.expressions.Count.TheVariants as counts
use Rattle.sql_tree.specs.declared.expressions.Limit.{Limit}
use Rattle.sql_print.specs.Names.{quoted_name as name_text, count_of, count_if, offset_if, limit_if}
use Rattle.sql_print.specs.Spelling.{aggregate_of, direction_of}
use Rattle.sql_syntax.specs.Tokens.{Tok, kind, code}
use Rattle.sql_syntax.specs.Parts.{list_of, exprs, closed}
use Rattle.sql_syntax.specs.Selects.{where_part, direction, order, count, limit, Bound, no_bound, offset_is, limit_by, bound, limits, origin_of, from_part, plain_from, counted, agg, select_by, single_by}
use Rattle.sql_text.proofs.Saying.{soft, soft_on}
use Rattle.sql_text.proofs.Lines.{group5}
use Rattle.sql_text.proofs.Reading.{Reading, via, written, valued, spaced, one, nothing, then', More}
use Rattle.sql_text.proofs.Written.{kw, say_star}
use Rattle.sql_text.proofs.Words.{say_where, say_order, say_by, say_desc, say_limit, say_offset, say_from, say_select, say_count, say_sum, say_min, say_max}
use Rattle.sql_text.proofs.Parts.{signed, key_then, key_before, sign_then, closing, in_parens, name_read, list_read, number_read}

-- ---- WHERE, ORDER BY and LIMIT
module _ (R : Rule Tok Tree) where
  pub where_read : {t : Tree} {w : List ℕ} → Reading R.texts t w → Reading (where_part R).texts (part t) (codes " WHERE " ++ w)
  where_read {t = t} r = spaced (via (λ ts rest g. inl (t, refl, g)) (key_then say_where r))

  pub no_where_read : Reading (where_part R).texts no_part []
  no_where_read = via (λ ts rest g. inr g) (nothing no_part)

  pub order_item : {t : Tree} {w : List ℕ} → Reading R.texts t w → (descending : Bool) → Reading (both paired R direction).texts (t, descending) (w ++ direction_of descending)
  order_item r true = then' paired r (spaced (via (λ ts rest g. inl (tt, refl, g)) (kw say_desc))) refl
  order_item r false = then' paired r (via (λ ts rest g. inr (inr g)) (nothing false)) refl

  pub order_read : {a : Tree × Bool} {os : List (Tree × Bool)} {w v : List ℕ} → Reading (both paired R direction).texts a w → More (both paired R direction).texts os v
      → Reading (order R).texts (orders_of (a ∷ os)) (codes " ORDER BY " ++ (w ++ v))
  order_read {a = a} {os = os} r m = spaced (via (λ ts rest g. inl g) (key_then say_order (key_then say_by (via (λ ts rest g. (a ∷ os, refl, g)) (list_read (both paired R direction) r m)))))

  pub no_order_read : Reading (order R).texts no_order []
  no_order_read = via (λ ts rest g. inr g) (nothing no_order)

count_read : (c : Count) → is_count c ≡ true → Reading count.texts c (count_of c)
count_read (counts.Number n) good = via (λ ts rest g. inl (n, refl, g)) (number_read n good)
count_read (counts.Name n) good = via (λ ts rest g. inr (n, refl, g)) (name_read n good)

pub limit_read : (o : Option Count) → is_count_if o ≡ true → Reading limit.texts o (count_if o)
limit_read None good = via (λ ts rest g. inr g) (nothing None)
limit_read (Some c) good = spaced (via (λ ts rest g. inl (c, refl, g)) (key_then say_limit (count_read c good)))

abbrev bound_of : Option Count → Bound
bound_of None = no_bound
bound_of (Some c) = offset_is c

bound_read : (o : Option Count) → is_count_if o ≡ true → Reading bound.texts (bound_of o) (offset_if o)
bound_read None good = via (λ ts rest g. inr (inr g)) (nothing no_bound)
bound_read (Some c) good = spaced (via (λ ts rest g. inl (c, refl, g)) (key_then say_offset (count_read c good)))

offset_soft : (o : Option Count) → soft (offset_if o) ≡ true
offset_soft None = refl
offset_soft (Some c) = refl

limit_same : (c : Count) (o : Option Count) → limit_by c (bound_of o) ≡ record { count = c; offset = o }
limit_same c None = refl
limit_same c (Some o) = refl

pub limits_read : (l : Option Limit) → is_limit_if l ≡ true → Reading limits.texts l (limit_if l)
limits_read None good = via (λ ts rest g. inr g) (nothing None)
limits_read (Some l) good =
    let p = and_parts (is_count l.count) (is_count_if l.offset) good in
    spaced (via (λ ts rest g. inl (l, refl, g)) (key_then say_limit (valued (then' limit_by (count_read l.count p.0) (bound_read l.offset p.1) (offset_soft l.offset)) (limit_same l.count l.offset))))

pub count_soft : (o : Option Count) → soft (count_if o) ≡ true
count_soft None = refl
count_soft (Some c) = refl

pub limit_soft : (l : Option Limit) → soft (limit_if l) ≡ true
limit_soft None = refl
limit_soft (Some l) = refl

-- ---- FROM
module _ (R : Rule Tok Tree) (t : List ℕ) (good : is_name t ≡ true) where
  pub from_read : {p : Part} {os : Orders} {w v : List ℕ} (l : Option Limit) → Reading (where_part R).texts p w → soft w ≡ true → Reading (order R).texts os v → soft v ≡ true → is_limit_if l ≡ true
      → Reading (from_part R).texts (from_table t p os l) (codes " FROM " ++ name_text t ++ w ++ v ++ limit_if l)
  from_read {w = w} {v = v} l rp sp ro so well =
      written (spaced (key_then say_from (then' origin_of (name_read t good) (then' paired rp (then' paired ro (limits_read l well) (limit_soft l)) (soft_on v (limit_if l) so (limit_soft l))) (soft_on w (v ++ limit_if l) sp (soft_on v (limit_if l) so (limit_soft l))))))
      (group5 (codes " FROM ") (name_text t) w v (limit_if l))

  pub plain_from_read : {p : Part} {w : List ℕ} → Reading (where_part R).texts p w → soft w ≡ true → Reading (plain_from R).texts (from_table t p no_order None) (codes " FROM " ++ name_text t ++ w)
  plain_from_read rp sp = spaced (key_then say_from (then' (λ x y. from_table x y no_order None) (name_read t good) rp sp))

-- ---- aggregates
module _ (R : Rule Tok Tree) (n : ℕ) (l : 0 < n) where
  pub count_all_read : Reading (agg n R).texts None (codes "COUNT(*)")
  count_all_read = via (λ ts rest g. inl g) (key_before say_count (in_parens (counted R) n l (closing (via (λ ts rest g. inl (tt, refl, g)) (signed say_star)))) refl)

  pub aggregate_read : (f : Agg) {a : Tree} {w : List ℕ} → Reading R.texts a w → Reading (agg n R).texts (Some (f, a)) (aggregate_of f ++ w ++ codes ")")
  unfolding kind
  aggregate_read aggs.Count {a = a} r = via (λ ts rest g. inl g) (key_before say_count (in_parens (counted R) n l (closing (via (λ ts rest g. inr (a, refl, g)) r))) refl)
  aggregate_read aggs.Sum r = via (λ ts rest g. inr g) (then' (λ f a. Some (f, a)) (one say_sum refl) (in_parens (closed R) n l (closing r)) refl)
  aggregate_read aggs.Min r = via (λ ts rest g. inr g) (then' (λ f a. Some (f, a)) (one say_min refl) (in_parens (closed R) n l (closing r)) refl)
  aggregate_read aggs.Max r = via (λ ts rest g. inr g) (then' (λ f a. Some (f, a)) (one say_max refl) (in_parens (closed R) n l (closing r)) refl)

-- ---- SELECT
-- FROM with what follows it, or nothing
abbrev pub from_if : Rule Tok Tree → Rule Tok Origin
from_if R = optional kind (code words.From ∷ []) no_origin (from_part R)

module _ (n : ℕ) (R S : Rule Tok Tree) where
  pub items_read : {ts : Trees} {o : Origin} {w v : List ℕ} → Reading (exprs R).texts ts w → Reading (from_if R).texts o v → soft v ≡ true → Reading (select_by n R S).texts (query (items ts) o) (codes "SELECT " ++ w ++ v)
  items_read rs ro so = key_then say_select (via (λ ts rest g. inr (inr g)) (then' (λ ts o. query (items ts) o) rs ro so))

  pub item_read : {t : Tree} {o : Origin} {w v : List ℕ} → Reading R.texts t w → Reading (from_if R).texts o v → soft v ≡ true → Reading (single_by n R S).texts (query (items (tree t no_tree)) o) (codes "SELECT " ++ w ++ v)
  item_read r ro so = key_then say_select (via (λ ts rest g. inr g) (then' (λ t o. query (items (tree t no_tree)) o) r ro so))

  pub all_read : {o : Origin} {v : List ℕ} → Reading (from_part R).texts o v → Reading (select_by n R S).texts (query all_columns o) (codes "SELECT " ++ codes "*" ++ v)
  all_read {o = o} ro = key_then say_select (via (λ ts rest g. inl g) (sign_then say_star (via (λ ts rest g. (o, refl, g)) ro)))

  pub aggregates_read : {as' : List (Option (Agg × Tree))} {o : Origin} {w v : List ℕ} → Reading (list_of (agg n S)).texts as' w → Reading (plain_from R).texts o v → soft v ≡ true
      → Reading (select_by n R S).texts (query (aggregates (aggregates_of as')) o) (codes "SELECT " ++ w ++ v)
  aggregates_read rs ro so = key_then say_select (via (λ ts rest g. inr (inl g)) (then' (λ as' o. query (aggregates (aggregates_of as')) o) rs ro so))

  pub aggregate_one_read : {a : Option (Agg × Tree)} {o : Origin} {w v : List ℕ} → Reading (agg n S).texts a w → Reading (plain_from R).texts o v → soft v ≡ true
      → Reading (single_by n R S).texts (query (aggregates (aggregates_of (a ∷ []))) o) (codes "SELECT " ++ w ++ v)
  aggregate_one_read ra ro so = key_then say_select (via (λ ts rest g. inl g) (then' (λ a o. query (aggregates (aggregates_of (a ∷ []))) o) ra ro so))
