-- Written expressions and SELECTs are read, with two constructs opened for each level of depth.
use Rattle.std.proofs.Common.{◌≡◌, ◌<◌, ◌≤◌, ℕ, suc, pred, ◌*◌, Bool, true, false, ◌&&◌, List, [], ◌∷◌, ◌++◌, Option, Some, None, refl, sym, ◌∙◌, ap, arith, append_assoc, append-nil, inl, inr, codes}
use Rattle.std.proofs.lemmas.Bool.{and_parts}
use Rattle.std.specs.Prelude.{if◌then◌else◌}
use Rattle.val_types.specs.declared.value.Value.TheVariants.{Text}
use Rattle.val_types.specs.declared.ops.UnOp.TheVariants.{Negate, Not, IsNull, IsNotNull}
use Rattle.val_types.specs.declared.ops.Agg.{Agg}
use Rattle.sql_grammar.specs.Grammar.{Mapped, Chain}
use Rattle.sql_grammar.specs.Rule.{Rule, both, paired, alone, then_one}
use Rattle.sql_tree.specs.Tree.{Tree, literal, name, column, new_column, old_column, user_variable, system_variable, unary, binary, is_in, choice, subquery, exists, call, built_in, values_of, name_const, floor_rand}
use Rattle.sql_tree.specs.Tree.{Trees, no_tree, tree, Arms, no_arm, arm, Part, no_part, part, Query, query, items, all_columns, aggregates}
use Rattle.sql_tree.specs.Tree.{Aggregates, no_aggregate, count_all, aggregate, Origin, no_origin, from_table, Orders, no_order, order_by}
use Rattle.sql_tree.specs.BuiltIns.{arity}
use Rattle.sql_tree.specs.Depth.{depth_of_tree, depth_of_trees, depth_of_arms, depth_of_part, depth_of_query, depth_of_origin, depth_of_orders, depth_of_aggregates}
use Rattle.sql_tree.specs.View.{arms_of, orders_of, aggregates_of}
use Rattle.sql_tree.specs.Well.{is_name, is_literal, is_limit_if, has_tree, are_as_many, has_arm, has_aggregate, has_origin, is_unordered, gives_one, goes_with_origin, is_well_tree, are_well_trees, are_well_arms, is_well_part, is_well_query, is_well_selected, are_well_aggregates, is_well_origin, are_well_orders}
use Rattle.sql_print.specs.Names.{quoted_name as name_text}
use Rattle.sql_print.specs.Spelling.{is_choice, tree_text, trees_text, arms_text, else_text, where_text, query_text, aggregates_text, more_aggregates_text, origin_text, orders_text, more_orders_text, aggregate_of}
use Rattle.sql_syntax.specs.Tokens.{Tok}
use Rattle.sql_syntax.specs.Parts.{list_of, exprs, arguments}
use Rattle.sql_syntax.specs.Selects.{where_part, direction, order, from_part, plain_from, agg}
use Rattle.sql_syntax.specs.Expressions.{when_arm, else_part, nested}
use Rattle.sql_text.proofs.Saying.{soft}
use Rattle.sql_text.proofs.Lines.{group4}
use Rattle.sql_text.proofs.Reading.{Reading, via, written, valued, spaced, nothing, then', More, no_more, more, Rows', no_row', row'}
use Rattle.sql_text.proofs.Written.{say_close}
use Rattle.sql_text.proofs.Words.{say_when, say_then, say_else}
use Rattle.sql_text.proofs.Parts.{signed, key_then, closing, list_read, rows_read}
use Rattle.sql_text.proofs.Operands.{group_read, subquery_read, values_read, choice_read, exists_read, plain_read, column_read, new_read, old_read, call_read, user_read, system_read, literal_operand}
use Rattle.sql_text.proofs.BuiltIns.{function_read, constant_read, random_read}
use Rattle.sql_text.proofs.TreeLists.{AreRead, exprs_read}
use Rattle.sql_text.proofs.Levels.{inner_of, prefix_at, prefix_opened, whole_of, operated_at, null_at, not_null_at, in_at, negated_at, not_at, select_at, single_at, select_opened, single_opened}
use Rattle.sql_text.proofs.Selects.{where_read, no_where_read, order_item, order_read, no_order_read, from_read, plain_from_read, count_all_read, aggregate_read, from_if, items_read, item_read, all_read, aggregates_read, aggregate_one_read}

-- ---- lists inside trees
abbrev arm_list : Arms → List (Tree × Tree)
arm_list no_arm = []
arm_list (arm c v arms) = (c, v) ∷ arm_list arms

arms_same : (arms : Arms) → arms_of (arm_list arms) ≡ arms
arms_same no_arm = refl
arms_same (arm c v arms) = ap (arm c v) (arms_same arms)

abbrev order_list : Orders → List (Tree × Bool)
order_list no_order = []
order_list (order_by t descending os) = (t, descending) ∷ order_list os

orders_same : (os : Orders) → orders_of (order_list os) ≡ os
orders_same no_order = refl
orders_same (order_by t descending os) = ap (order_by t descending) (orders_same os)

abbrev aggregate_list : Aggregates → List (Option (Agg × Tree))
aggregate_list no_aggregate = []
aggregate_list (count_all rest) = None ∷ aggregate_list rest
aggregate_list (aggregate f a rest) = Some (f, a) ∷ aggregate_list rest

aggregates_same : (rest : Aggregates) → aggregates_of (aggregate_list rest) ≡ rest
aggregates_same no_aggregate = refl
aggregates_same (count_all rest) = ap count_all (aggregates_same rest)
aggregates_same (aggregate f a rest) = ap (aggregate f a) (aggregates_same rest)

-- ---- what the texts of parts begin with
arms_soft : (arms : Arms) → soft (arms_text arms) ≡ true
arms_soft no_arm = refl
arms_soft (arm c v arms) = refl

else_soft : (o : Part) → soft (else_text o) ≡ true
else_soft no_part = refl
else_soft (part t) = refl

pub where_soft : (o : Part) → soft (where_text o) ≡ true
where_soft no_part = refl
where_soft (part t) = refl

pub orders_soft : (os : Orders) → soft (orders_text os) ≡ true
orders_soft no_order = refl
orders_soft (order_by t descending os) = refl

origin_soft : (o : Origin) → soft (origin_text o) ≡ true
origin_soft no_origin = refl
origin_soft (from_table t w os l) = refl

-- ---- parts, from their own parts
pub query_deep : (q : Query) → 0 < depth_of_query q
query_deep (query w o) = omega arith

aggregates_deep : (rest : Aggregates) → has_aggregate rest ≡ true → 0 < depth_of_aggregates rest
aggregates_deep no_aggregate h = cc
aggregates_deep (count_all rest) h = omega arith
aggregates_deep (aggregate f a rest) h = omega arith

module _ (R : Rule Tok Tree) where
  pub arguments_of : (ts : Trees) → (has_tree ts ≡ true → Reading (exprs R).texts ts (trees_text ts)) → Reading (arguments R).texts ts (trees_text ts ++ 41 ∷ [])
  arguments_of no_tree f = via (λ us rest g. inl (tt, refl, g)) (signed say_close)
  arguments_of (tree t ts) f = via (λ us rest g. inr g) (closing (f refl))

  from_if_of : (o : Origin) → (has_origin o ≡ true → Reading (from_part R).texts o (origin_text o)) → Reading (from_if R).texts o (origin_text o)
  from_if_of no_origin f = via (λ ts rest g. inr g) (nothing no_origin)
  from_if_of (from_table t w os l) f = via (λ ts rest g. inl g) (f refl)

  arm_read : {c v : Tree} {w z : List ℕ} → Reading R.texts c w → Reading R.texts v z → Reading (when_arm R).texts (c, v) (codes " WHEN " ++ w ++ codes " THEN " ++ z)
  arm_read rc rv = written (spaced (key_then say_when (then' paired rc (spaced (key_then say_then rv)) refl))) (simp append_assoc)

  else_of : {t : Tree} {w : List ℕ} → Reading R.texts t w → Reading (else_part R).texts (part t) (codes " ELSE " ++ w)
  else_of {t = t} r = spaced (via (λ ts rest g. inl (t, refl, g)) (key_then say_else r))

  no_else_of : Reading (else_part R).texts no_part []
  no_else_of = via (λ ts rest g. inr g) (nothing no_part)

-- a factor behind RAND() is a CASE in parentheses, or an operand
factor_read : (b : Bool) (a : Tree) (w : List ℕ) (m : ℕ) → 0 < m → ((k : ℕ) → pred m ≤ k → Reading (nested k).prefix.texts a w) → Reading (nested m).prefix.texts a (if b then codes "(" ++ w ++ codes ")" else w)
factor_read true a w m l f = prefix_opened m l (λ k e. group_read k (nested k) (whole_of k (f k (omega (arith, e)))))
factor_read false a w m l f = f m (omega arith)

mutual
  pub tree_read : (t : Tree) (n : ℕ) → 2 * depth_of_tree t ≤ n → is_well_tree t ≡ true → Reading (nested n).prefix.texts t (tree_text t)
  tree_read (literal v) n l w = prefix_at n (literal_operand n (inner_of n) v w)
  tree_read (name x) n l w = prefix_at n (plain_read n (inner_of n) x w)
  tree_read (column t c) n l w = let p = and_parts (is_name t) (is_name c) w in prefix_at n (column_read n (inner_of n) t c p.0 p.1)
  tree_read (new_column c) n l w = prefix_at n (new_read n (inner_of n) c w)
  tree_read (old_column c) n l w = prefix_at n (old_read n (inner_of n) c w)
  tree_read (user_variable x) n l w = prefix_at n (user_read n (inner_of n) x w)
  tree_read (system_variable x) n l w = prefix_at n (system_read n (inner_of n) x w)
  tree_read (unary Negate a) n l w =
      prefix_opened n (omega (arith, l)) (λ m e. group_read m (nested m) (whole_of m (negated_at m (omega (arith, l, e)) (tree_read a (pred m) (omega (arith, l, e)) w))))
  tree_read (unary Not a) n l w = prefix_opened n (omega (arith, l)) (λ m e. group_read m (nested m) (not_at m (omega (arith, l, e)) (tree_read a (pred m) (omega (arith, l, e)) w)))
  tree_read (unary IsNull a) n l w =
      written (prefix_opened n (omega (arith, l)) (λ m e. group_read m (nested m) (null_at m (tree_read a m (omega (arith, l, e)) w))))
      (ap (λ z. 40 ∷ z) (sym (append_assoc (tree_text a) (codes " IS NULL") (41 ∷ []))))
  tree_read (unary IsNotNull a) n l w =
      written (prefix_opened n (omega (arith, l)) (λ m e. group_read m (nested m) (not_null_at m (tree_read a m (omega (arith, l, e)) w))))
      (ap (λ z. 40 ∷ z) (sym (append_assoc (tree_text a) (codes " IS NOT NULL") (41 ∷ []))))
  tree_read (binary op a b) n l w =
      let p = and_parts (is_well_tree a) (is_well_tree b) w in
      prefix_opened n (omega (arith, l)) (λ m e. group_read m (nested m) (operated_at m op (tree_read a m (omega (arith, l, e)) p.0) (tree_read b m (omega (arith, l, e)) p.1)))
  tree_read (is_in negated a ts) n l w =
      let p = and_parts (is_well_tree a && has_tree ts) (are_well_trees ts) w in
      let q = and_parts (is_well_tree a) (has_tree ts) p.0 in
      written (prefix_opened n (omega (arith, l)) (λ m e. group_read m (nested m) (in_at m negated (omega (arith, l, e)) (tree_read a m (omega (arith, l, e)) q.0) (exprs_read (nested (pred m)).whole ts q.1 (each_read ts (pred m) (omega (arith, l, e)) p.1)))))
      (simp append_assoc)
  tree_read (choice arms o) n l w =
      let p = and_parts (has_arm arms && are_well_arms arms) (is_well_part o) w in
      let q = and_parts (has_arm arms) (are_well_arms arms) p.0 in
      valued (prefix_opened n (omega (arith, l)) (λ m e. choice_read m (nested m) (arm_list arms) o (arms_read arms m q.0 (omega (arith, l, e)) q.1) (arms_soft arms) (else_read o m (omega (arith, l, e)) p.1) (else_soft o)))
      (ap (λ z. choice z o) (arms_same arms))
  tree_read (subquery q) n l w =
      let p = and_parts (gives_one q) (is_well_query q) w in
      let deep = query_deep q in
      prefix_opened n (omega (arith, l, deep)) (λ m e. subquery_read m (nested m) (single_read q m p.0 (omega (arith, l, e, deep)) p.1))
  tree_read (exists q) n l w = prefix_opened n (omega (arith, l)) (λ m e. exists_read m (nested m) (select_read q m (omega (arith, l, e)) w))
  tree_read (call x ts) n l w =
      let p = and_parts (is_name x) (are_well_trees ts) w in
      written (prefix_opened n (omega (arith, l)) (λ m e. call_read (suc m) (nested m) x ts p.0 (omega arith) (arguments_of (nested m).whole ts (λ h. exprs_read (nested m).whole ts h (each_read ts m (omega (arith, l, e)) p.1)))))
      (group4 (name_text x) (codes "(") (trees_text ts) (codes ")"))
  tree_read (values_of c) n l w = prefix_opened n (omega (arith, l)) (λ m e. values_read m (nested m) c w)
  tree_read (name_const x v) n l w =
      let p = and_parts (is_literal (Text x)) (is_literal v) w in
      prefix_opened n (omega (arith, l)) (λ m e. constant_read (suc m) (nested m) (omega arith) x v p.0 p.1)
  tree_read (floor_rand a) n l w =
      prefix_opened n (omega (arith, l)) (λ m e. random_read (suc m) (nested m) (omega arith) (omega (arith, l, e)) (factor_read (is_choice a) a (tree_text a) m (omega (arith, l, e)) (λ k h. tree_read a k (omega (arith, l, e, h)) w)))
  tree_read (built_in f ts) n l w =
      let p = and_parts (are_as_many (arity f) ts) (are_well_trees ts) w in
      prefix_opened n (omega (arith, l)) (λ m e. function_read (suc m) (nested m) (omega arith) f ts p.0 (each_read ts m (omega (arith, l, e)) p.1))

  each_read : (ts : Trees) (n : ℕ) → 2 * depth_of_trees ts ≤ n → are_well_trees ts ≡ true → AreRead (nested n).whole ts
  each_read no_tree n l w = tt
  each_read (tree t ts) n l w =
      let p = and_parts (is_well_tree t) (are_well_trees ts) w in
      (whole_of n (tree_read t n (omega (arith, l)) p.0), each_read ts n (omega (arith, l)) p.1)

  arms_read : (arms : Arms) (n : ℕ) → has_arm arms ≡ true → 2 * depth_of_arms arms ≤ n → are_well_arms arms ≡ true
      → Reading (Chain then_one (Mapped alone (when_arm (nested n).whole).texts) (λ x. (when_arm (nested n).whole).texts)) (arm_list arms) (arms_text arms)
  arms_read no_arm n h l w = cc
  arms_read (arm c v arms) n h l w =
      let p = and_parts (is_well_tree c && is_well_tree v) (are_well_arms arms) w in
      let q = and_parts (is_well_tree c) (is_well_tree v) p.0 in
      rows_read (arm_read (nested n).whole (whole_of n (tree_read c n (omega (arith, l)) q.0)) (whole_of n (tree_read v n (omega (arith, l)) q.1))) (arms_soft arms) (more_arms arms n (omega (arith, l)) p.1)

  more_arms : (arms : Arms) (n : ℕ) → 2 * depth_of_arms arms ≤ n → are_well_arms arms ≡ true → Rows' (when_arm (nested n).whole).texts (arm_list arms) (arms_text arms)
  more_arms no_arm n l w = no_row'
  more_arms (arm c v arms) n l w =
      let p = and_parts (is_well_tree c && is_well_tree v) (are_well_arms arms) w in
      let q = and_parts (is_well_tree c) (is_well_tree v) p.0 in
      row' (arm_read (nested n).whole (whole_of n (tree_read c n (omega (arith, l)) q.0)) (whole_of n (tree_read v n (omega (arith, l)) q.1))) (arms_soft arms) (more_arms arms n (omega (arith, l)) p.1)

  else_read : (o : Part) (n : ℕ) → 2 * depth_of_part o ≤ n → is_well_part o ≡ true → Reading (else_part (nested n).whole).texts o (else_text o)
  else_read no_part n l w = no_else_of (nested n).whole
  else_read (part t) n l w = else_of (nested n).whole (whole_of n (tree_read t n l w))

  pub where_part_read : (o : Part) (n : ℕ) → 2 * depth_of_part o ≤ n → is_well_part o ≡ true → Reading (where_part (nested n).whole).texts o (where_text o)
  where_part_read no_part n l w = no_where_read (nested n).whole
  where_part_read (part t) n l w = where_read (nested n).whole (whole_of n (tree_read t n l w))

  pub orders_read : (os : Orders) (n : ℕ) → 2 * depth_of_orders os ≤ n → are_well_orders os ≡ true → Reading (order (nested n).whole).texts os (orders_text os)
  orders_read no_order n l w = no_order_read (nested n).whole
  orders_read (order_by t descending os) n l w =
      let p = and_parts (is_well_tree t) (are_well_orders os) w in
      valued (order_read (nested n).whole (order_item (nested n).whole (whole_of n (tree_read t n (omega (arith, l)) p.0)) descending) (more_orders os n (omega (arith, l)) p.1))
      (ap (order_by t descending) (orders_same os))

  more_orders : (os : Orders) (n : ℕ) → 2 * depth_of_orders os ≤ n → are_well_orders os ≡ true → More (both paired (nested n).whole direction).texts (order_list os) (more_orders_text os)
  more_orders no_order n l w = no_more
  more_orders (order_by t descending os) n l w =
      let p = and_parts (is_well_tree t) (are_well_orders os) w in
      more (order_item (nested n).whole (whole_of n (tree_read t n (omega (arith, l)) p.0)) descending) (more_orders os n (omega (arith, l)) p.1)

  from_at : (o : Origin) (n : ℕ) → has_origin o ≡ true → 2 * depth_of_origin o ≤ n → is_well_origin o ≡ true → Reading (from_part (nested n).whole).texts o (origin_text o)
  from_at no_origin n h l w = cc
  from_at (from_table t c os limit) n h l w =
      let p = and_parts (is_name t && is_well_part c && are_well_orders os) (is_limit_if limit) w in
      let q = and_parts (is_name t && is_well_part c) (are_well_orders os) p.0 in
      let r = and_parts (is_name t) (is_well_part c) q.0 in
      from_read (nested n).whole t r.0 limit (where_part_read c n (omega (arith, l)) r.1) (where_soft c) (orders_read os n (omega (arith, l)) q.1) (orders_soft os) p.1

  plain_from_at : (o : Origin) (n : ℕ) → is_unordered o ≡ true → 2 * depth_of_origin o ≤ n → is_well_origin o ≡ true → Reading (plain_from (nested n).whole).texts o (origin_text o)
  plain_from_at no_origin n h l w = cc
  plain_from_at (from_table t c (order_by u descending os) limit) n h l w = cc
  plain_from_at (from_table t c no_order (Some limit)) n h l w = cc
  plain_from_at (from_table t c no_order None) n h l w =
      let p = and_parts (is_name t && is_well_part c && true) true w in
      let q = and_parts (is_name t && is_well_part c) true p.0 in
      let r = and_parts (is_name t) (is_well_part c) q.0 in
      written (plain_from_read (nested n).whole t r.0 (where_part_read c n (omega (arith, l)) r.1) (where_soft c))
      (append-nil (codes " FROM " ++ name_text t ++ where_text c ++ []) ∙ append-nil (codes " FROM " ++ name_text t ++ where_text c))

  aggregates_at : (rest : Aggregates) (n : ℕ) → has_aggregate rest ≡ true → 2 * depth_of_aggregates rest ≤ n → are_well_aggregates rest ≡ true
      → Reading (list_of (agg n (nested (pred n)).whole)).texts (aggregate_list rest) (aggregates_text rest)
  aggregates_at no_aggregate n h l w = cc
  aggregates_at (count_all rest) n h l w = list_read (agg n (nested (pred n)).whole) (count_all_read (nested (pred n)).whole n (omega (arith, l))) (more_aggregates rest n (omega (arith, l)) w)
  aggregates_at (aggregate f a rest) n h l w =
      let p = and_parts (is_well_tree a) (are_well_aggregates rest) w in
      list_read (agg n (nested (pred n)).whole) (aggregate_read (nested (pred n)).whole n (omega (arith, l)) f (whole_of (pred n) (tree_read a (pred n) (omega (arith, l)) p.0))) (more_aggregates rest n (omega (arith, l)) p.1)

  more_aggregates : (rest : Aggregates) (n : ℕ) → 2 * depth_of_aggregates rest ≤ n → are_well_aggregates rest ≡ true → More (agg n (nested (pred n)).whole).texts (aggregate_list rest) (more_aggregates_text rest)
  more_aggregates no_aggregate n l w = no_more
  more_aggregates (count_all rest) n l w = more (count_all_read (nested (pred n)).whole n (omega (arith, l))) (more_aggregates rest n (omega (arith, l)) w)
  more_aggregates (aggregate f a rest) n l w =
      let p = and_parts (is_well_tree a) (are_well_aggregates rest) w in
      more (aggregate_read (nested (pred n)).whole n (omega (arith, l)) f (whole_of (pred n) (tree_read a (pred n) (omega (arith, l)) p.0))) (more_aggregates rest n (omega (arith, l)) p.1)

  pub select_read : (q : Query) (n : ℕ) → 2 * depth_of_query q ≤ suc n → is_well_query q ≡ true → Reading (nested n).select.texts q (query_text q)
  select_read (query (items ts) o) n l w =
      let p = and_parts (goes_with_origin (query (items ts) o) && is_well_selected (items ts)) (is_well_origin o) w in
      let q = and_parts (has_tree ts) (are_well_trees ts) p.0 in
      select_at n (items_read n (nested n).whole (inner_of n).whole (exprs_read (nested n).whole ts q.0 (each_read ts n (omega (arith, l)) q.1)) (from_if_of (nested n).whole o (λ h. from_at o n h (omega (arith, l)) p.1)) (origin_soft o))
  select_read (query all_columns o) n l w =
      let p = and_parts (goes_with_origin (query all_columns o) && true) (is_well_origin o) w in
      let q = and_parts (has_origin o) true p.0 in
      select_at n (all_read n (nested n).whole (inner_of n).whole (from_at o n q.0 (omega (arith, l)) p.1))
  select_read (query (aggregates rest) o) n l w =
      let p = and_parts (goes_with_origin (query (aggregates rest) o) && is_well_selected (aggregates rest)) (is_well_origin o) w in
      let q = and_parts (is_unordered o) (is_well_selected (aggregates rest)) p.0 in
      let r = and_parts (has_aggregate rest) (are_well_aggregates rest) q.1 in
      let d = aggregates_deep rest r.0 in
      valued (select_opened n (omega (arith, l, d)) (aggregates_read n (nested n).whole (nested (pred n)).whole (aggregates_at rest n r.0 (omega (arith, l)) r.1) (plain_from_at o n q.0 (omega (arith, l)) p.1) (origin_soft o)))
      (ap (λ z. query (aggregates z) o) (aggregates_same rest))

  single_read : (q : Query) (n : ℕ) → gives_one q ≡ true → 2 * depth_of_query q ≤ suc n → is_well_query q ≡ true → Reading (nested n).single.texts q (query_text q)
  single_read (query (items no_tree) o) n g l w = cc
  single_read (query (items (tree t no_tree)) o) n g l w =
      let p = and_parts (goes_with_origin (query (items (tree t no_tree)) o) && is_well_selected (items (tree t no_tree))) (is_well_origin o) w in
      let q = and_parts (is_well_tree t) true p.0 in
      written (single_at n (item_read n (nested n).whole (inner_of n).whole (whole_of n (tree_read t n (omega (arith, l)) q.0)) (from_if_of (nested n).whole o (λ h. from_at o n h (omega (arith, l)) p.1)) (origin_soft o)))
      (ap (λ z. codes "SELECT " ++ z ++ origin_text o) (append-nil (tree_text t)))
  single_read (query (items (tree t (tree u ts))) o) n g l w = cc
  single_read (query all_columns o) n g l w = cc
  single_read (query (aggregates no_aggregate) o) n g l w = cc
  single_read (query (aggregates (count_all no_aggregate)) o) n g l w =
      let p = and_parts (goes_with_origin (query (aggregates (count_all no_aggregate)) o) && true) (is_well_origin o) w in
      let q = and_parts (is_unordered o) true p.0 in
      single_opened n (omega (arith, l)) (aggregate_one_read n (nested n).whole (nested (pred n)).whole (count_all_read (nested (pred n)).whole n (omega (arith, l))) (plain_from_at o n q.0 (omega (arith, l)) p.1) (origin_soft o))
  single_read (query (aggregates (count_all (count_all rest))) o) n g l w = cc
  single_read (query (aggregates (count_all (aggregate f a rest))) o) n g l w = cc
  single_read (query (aggregates (aggregate f a no_aggregate)) o) n g l w =
      let p = and_parts (goes_with_origin (query (aggregates (aggregate f a no_aggregate)) o) && is_well_selected (aggregates (aggregate f a no_aggregate))) (is_well_origin o) w in
      let q = and_parts (is_unordered o) (is_well_selected (aggregates (aggregate f a no_aggregate))) p.0 in
      let r = and_parts (is_well_tree a) true q.1 in
      written (single_opened n (omega (arith, l)) (aggregate_one_read n (nested n).whole (nested (pred n)).whole (aggregate_read (nested (pred n)).whole n (omega (arith, l)) f (whole_of (pred n) (tree_read a (pred n) (omega (arith, l)) r.0))) (plain_from_at o n q.0 (omega (arith, l)) p.1) (origin_soft o)))
      (ap (λ z. codes "SELECT " ++ z ++ origin_text o) (append-nil (aggregate_of f ++ tree_text a ++ codes ")")))
  single_read (query (aggregates (aggregate f a (count_all rest))) o) n g l w = cc
  single_read (query (aggregates (aggregate f a (aggregate h b rest))) o) n g l w = cc

pub trees_read : (ts : Trees) (n : ℕ) → has_tree ts ≡ true → 2 * depth_of_trees ts ≤ n → are_well_trees ts ≡ true → Reading (exprs (nested n).whole).texts ts (trees_text ts)
trees_read ts n h l w = exprs_read (nested n).whole ts h (each_read ts n l w)
