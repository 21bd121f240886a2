-- Operands and operators: what is read as an expression from the texts of its parts, for any rules inside.
use Rattle.std.proofs.Common.{◌≡◌, ◌<◌, ℕ, suc, Bool, true, false, List, [], ◌∷◌, ◌++◌, Some, None, refl, sym, ap, arith, append_assoc, append-nil, inl, inr, codes, unwrap_or}
use Rattle.std.proofs.lemmas.Bool.{or_cases}
use Rattle.std.specs.Prelude.{if◌then◌else◌}
use Rattle.val_types.specs.Text.{text_of}
use Rattle.val_types.specs.declared.value.Value.{Value}
use Rattle.val_types.specs.declared.ops.UnOp.TheVariants.{Negate, Not, IsNull, IsNotNull}
use Rattle.val_types.specs.declared.ops.BinOp.{BinOp}
use Rattle.val_types.specs.declared.ops.BinOp.TheVariants as ops
use Rattle.sql_lex.specs.declared.keyword.Keyword.TheVariants as words
use Rattle.sql_lex.specs.declared.token.Symbol.TheVariants as signs
use Rattle.sql_grammar.specs.Grammar.{Grammar, Mapped, Chain, first}
use Rattle.sql_grammar.specs.Rule.{any_of, of_kinds, only_then, paired, mapped, then_one}
use Rattle.sql_grammar.specs.Sets.{member}
use Rattle.sql_tree.specs.Tree.{Tree, literal, name, column, new_column, old_column, user_variable, system_variable, unary, binary, is_in, choice, subquery, exists, call, values_of}
use Rattle.sql_tree.specs.Tree.{Trees, Part, Query}
use Rattle.sql_tree.specs.View.{arms_of}
use Rattle.sql_tree.specs.Well.{is_name, is_literal}
use Rattle.sql_print.specs.Names.{quoted_name as name_text, bare_name, is_bare}
use Rattle.sql_print.specs.Spelling.{operator_of, in_of}
use Rattle.sql_syntax.specs.Tokens.{Tok, own_names, mark, kind, code, names, but, name_said}
use Rattle.sql_syntax.specs.Parts.{system_name, a_name, exprs, arguments, closed}
use Rattle.sql_syntax.specs.Expressions.{Nested, Tail, alone as no_tail, of_column, named, name_tail, when_arm, else_part, case_body, grouped, primary, prefix_by, product, sum, comparison, comparison_ops, comparison_op, compared, among, membership, negation_by, conjunction, whole_by}
use Rattle.sql_text.proofs.Saying.{soft, soft_on}
use Rattle.sql_text.proofs.Reading.{Said, Firm, Reading, via, written, valued, spaced, one, nothing, then', then_nothing, token_then, last_step, chained}
use Rattle.sql_text.proofs.Written.{name_written, Bare, bare_written, kw, say_dot, say_at_at, say_equal, say_same, say_other, say_less, say_less_equal, say_greater, say_greater_equal, say_plus, say_times, say_minus}
use Rattle.sql_text.proofs.Words.{say_or, say_and, say_div, say_mod, say_not, say_null, say_is, say_in, say_case, say_end, say_exists, say_new, say_old, say_values}
use Rattle.sql_text.proofs.Parts.{sign_token, key_token, key_then, key_before, sign_then, closing, opened_said, in_parens, name_read, at_name, literal_read}

-- ---- the levels of operators
module _ (k : ℕ) (inner : Nested) {t : Tree} {w : List ℕ} where
  pub from_prefix : Reading (prefix_by k inner).texts t w → Reading (whole_by k inner).texts t w
  from_prefix r = via (λ ts rest g. first (first (inr (first (first (first g)))))) r

  from_product : Reading (product (prefix_by k inner)).texts t w → Reading (whole_by k inner).texts t w
  from_product r = via (λ ts rest g. first (first (inr (first (first g))))) r

  from_sum : Reading (sum (prefix_by k inner)).texts t w → Reading (whole_by k inner).texts t w
  from_sum r = via (λ ts rest g. first (first (inr (first g)))) r

  from_comparison : Reading (comparison k inner.whole (prefix_by k inner)).texts t w → Reading (whole_by k inner).texts t w
  from_comparison r = via (λ ts rest g. first (first (inr g))) r

  from_negation : Reading (negation_by k inner).texts t w → Reading (whole_by k inner).texts t w
  from_negation r = via (λ ts rest g. first (first g)) r

  from_conjunction : Reading (conjunction (negation_by k inner)).texts t w → Reading (whole_by k inner).texts t w
  from_conjunction r = via (λ ts rest g. first g) r

  to_product : Reading (prefix_by k inner).texts t w → Reading (product (prefix_by k inner)).texts t w
  to_product r = via (λ ts rest g. first g) r

  to_sum : Reading (prefix_by k inner).texts t w → Reading (sum (prefix_by k inner)).texts t w
  to_sum r = via (λ ts rest g. first (first g)) r

  pub to_negation : Reading (prefix_by k inner).texts t w → Reading (negation_by k inner).texts t w
  to_negation r = via (λ ts rest g. inr (first (first (first g)))) r

  to_conjunction : Reading (prefix_by k inner).texts t w → Reading (conjunction (negation_by k inner)).texts t w
  to_conjunction r = via (λ ts rest g. first (inr (first (first (first g))))) r

module _ (k : ℕ) (inner : Nested) (a b : Tree) (w v : List ℕ) (ra : Reading (prefix_by k inner).texts a w) (rb : Reading (prefix_by k inner).texts b v) where
  -- an operator that is a sign, at the level of products
  times : Reading (product (prefix_by k inner)).texts (binary ops.Multiply a b) (w ++ operator_of ops.Multiply ++ v)
  unfolding kind
  times = written (chained ra refl (last_step (spaced (token_then paired say_times refl rb)))) (append_assoc w (operator_of ops.Multiply) v)

  divided : Reading (product (prefix_by k inner)).texts (binary ops.Divide a b) (w ++ operator_of ops.Divide ++ v)
  unfolding kind
  divided = written (chained ra refl (last_step (spaced (then' paired (one say_div refl) (spaced rb) refl)))) (append_assoc w (operator_of ops.Divide) v)

  remainder : Reading (product (prefix_by k inner)).texts (binary ops.Modulo a b) (w ++ operator_of ops.Modulo ++ v)
  unfolding kind
  remainder = written (chained ra refl (last_step (spaced (then' paired (one say_mod refl) (spaced rb) refl)))) (append_assoc w (operator_of ops.Modulo) v)

  added : Reading (sum (prefix_by k inner)).texts (binary ops.Add a b) (w ++ operator_of ops.Add ++ v)
  unfolding kind
  added = written (chained (to_product k inner ra) refl (last_step (spaced (token_then paired say_plus refl (to_product k inner rb))))) (append_assoc w (operator_of ops.Add) v)

  subtracted : Reading (sum (prefix_by k inner)).texts (binary ops.Subtract a b) (w ++ operator_of ops.Subtract ++ v)
  unfolding kind
  subtracted = written (chained (to_product k inner ra) refl (last_step (spaced (token_then paired say_minus refl (to_product k inner rb))))) (append_assoc w (operator_of ops.Subtract) v)

  compared_by : (op : BinOp) (s : Tok) (z : List ℕ) → Firm s z → of_kinds kind comparison_ops (λ u. Some (comparison_op u)) s ≡ Some op → Reading (comparison k inner.whole (prefix_by k inner)).texts (binary op a b) (w ++ 32 ∷ (z ++ v))
  compared_by op s z r e = chained (to_sum k inner ra) refl (last_step (spaced (via (λ ts rest g. inr (inr (inr g))) (token_then compared r e (to_sum k inner rb)))))

  either_of : Reading (whole_by k inner).texts (binary ops.Or a b) (w ++ operator_of ops.Or ++ v)
  either_of = written (chained (to_conjunction k inner ra) refl (last_step (spaced (key_then say_or (to_conjunction k inner rb))))) (append_assoc w (operator_of ops.Or) v)

  both_of : Reading (conjunction (negation_by k inner)).texts (binary ops.And a b) (w ++ operator_of ops.And ++ v)
  both_of = written (chained (to_negation k inner ra) refl (last_step (spaced (key_then say_and (to_negation k inner rb))))) (append_assoc w (operator_of ops.And) v)

  pub operated : (op : BinOp) → Reading (whole_by k inner).texts (binary op a b) (w ++ operator_of op ++ v)
  unfolding kind
  operated ops.Or = either_of
  operated ops.And = from_conjunction k inner both_of
  operated ops.Equal = from_comparison k inner (written (compared_by ops.Equal (mark signs.Equal) (61 ∷ 32 ∷ []) say_equal refl) (append_assoc w (operator_of ops.Equal) v))
  operated ops.NullSafeEqual = from_comparison k inner (written (compared_by ops.NullSafeEqual (mark signs.NullSafeEqual) (60 ∷ 61 ∷ 62 ∷ 32 ∷ []) say_same refl) (append_assoc w (operator_of ops.NullSafeEqual) v))
  operated ops.NotEqual = from_comparison k inner (written (compared_by ops.NotEqual (mark signs.NotEqual) (60 ∷ 62 ∷ 32 ∷ []) say_other refl) (append_assoc w (operator_of ops.NotEqual) v))
  operated ops.Less = from_comparison k inner (written (compared_by ops.Less (mark signs.Less) (60 ∷ 32 ∷ []) say_less refl) (append_assoc w (operator_of ops.Less) v))
  operated ops.LessOrEqual = from_comparison k inner (written (compared_by ops.LessOrEqual (mark signs.LessEqual) (60 ∷ 61 ∷ 32 ∷ []) say_less_equal refl) (append_assoc w (operator_of ops.LessOrEqual) v))
  operated ops.Greater = from_comparison k inner (written (compared_by ops.Greater (mark signs.Greater) (62 ∷ 32 ∷ []) say_greater refl) (append_assoc w (operator_of ops.Greater) v))
  operated ops.GreaterOrEqual = from_comparison k inner (written (compared_by ops.GreaterOrEqual (mark signs.GreaterEqual) (62 ∷ 61 ∷ 32 ∷ []) say_greater_equal refl) (append_assoc w (operator_of ops.GreaterOrEqual) v))
  operated ops.Add = from_sum k inner added
  operated ops.Subtract = from_sum k inner subtracted
  operated ops.Multiply = from_product k inner times
  operated ops.Divide = from_product k inner divided
  operated ops.Modulo = from_product k inner remainder

-- ---- tests
module _ (k : ℕ) (inner : Nested) (a : Tree) (w : List ℕ) (ra : Reading (prefix_by k inner).texts a w) where
  pub null_read : Reading (whole_by k inner).texts (unary IsNull a) (w ++ codes " IS NULL")
  null_read = from_comparison k inner (chained (to_sum k inner ra) refl (last_step (spaced (via (λ ts rest g. inl g) (key_then say_is (via (λ ts rest g. inr (tt, refl, g)) (kw say_null)))))))

  pub not_null_read : Reading (whole_by k inner).texts (unary IsNotNull a) (w ++ codes " IS NOT NULL")
  not_null_read =
      from_comparison k inner (chained (to_sum k inner ra) refl (last_step (spaced (via (λ ts rest g. inl g) (key_then say_is (via (λ ts rest g. inl (tt, refl, g)) (key_then say_not (kw say_null))))))))

  member_read : (negated : Bool) (ts : Trees) (v : List ℕ) → 0 < k → Reading (exprs inner.whole).texts ts v
      → Reading (membership negated k inner.whole).texts (among negated ts) (codes "IN (" ++ (v ++ 41 ∷ []))
  member_read negated ts v l r = key_then say_in (via (λ us rest g. (ts, refl, g)) (in_parens (closed (exprs inner.whole)) k l (closing r)))

  pub in_read : (negated : Bool) (ts : Trees) (v : List ℕ) → 0 < k → Reading (exprs inner.whole).texts ts v → Reading (whole_by k inner).texts (is_in negated a ts) (w ++ (in_of negated ++ (v ++ 41 ∷ [])))
  in_read false ts v l r = from_comparison k inner (chained (to_sum k inner ra) refl (last_step (spaced (via (λ us rest g. inr (inl g)) (member_read false ts v l r)))))
  in_read true ts v l r = from_comparison k inner (chained (to_sum k inner ra) refl (last_step (spaced (via (λ us rest g. inr (inr (inl g))) (key_then say_not (member_read true ts v l r))))))

-- ---- operators before their operand
pub negated_read : (m : ℕ) (inner : Nested) (a : Tree) (w : List ℕ) → Reading inner.prefix.texts a w → Reading (prefix_by (suc m) inner).texts (unary Negate a) (45 ∷ 32 ∷ w)
negated_read m inner a w r = via (λ ts rest g. inr (inl g)) (token_then (λ u x. unary Negate x) say_minus (sign_token signs.Minus) r)

pub not_read : (m : ℕ) (inner : Nested) (a : Tree) (w : List ℕ) → Reading inner.negation.texts a w → Reading (whole_by (suc m) inner).texts (unary Not a) (codes "NOT " ++ w)
not_read m inner a w r = from_negation (suc m) inner (via (λ ts rest g. inl g) (then' (λ u x. unary Not x) (one say_not (key_token words.Not)) (spaced r) refl))

-- ---- primary expressions
pub as_primary : (k : ℕ) (inner : Nested) {A : Type 0} {G : Grammar Tok A} {a : A} {t : Tree} {w : List ℕ} → ((ts rest : List Tok) → G a ts rest → (primary k inner).texts t ts rest) → Reading G a w
    → Reading (prefix_by k inner).texts t w
as_primary k inner f r = via (λ ts rest g. inr (inr (f ts rest g))) r

module _ (m : ℕ) (inner : Nested) where
  pub group_read : {t : Tree} {w : List ℕ} → Reading inner.whole.texts t w → Reading (prefix_by (suc m) inner).texts t (40 ∷ (w ++ 41 ∷ []))
  group_read r = as_primary (suc m) inner (λ ts rest g. inl g) (in_parens (grouped inner) (suc m) (omega arith) (via (λ ts rest g. inr g) (closing r)))

  pub subquery_read : {q : Query} {w : List ℕ} → Reading inner.single.texts q w → Reading (prefix_by (suc m) inner).texts (subquery q) (40 ∷ (w ++ 41 ∷ []))
  subquery_read {q = q} r = as_primary (suc m) inner (λ ts rest g. inl g) (in_parens (grouped inner) (suc m) (omega arith) (via (λ ts rest g. inl (q, refl, g)) (closing r)))

  pub values_read : (c : List ℕ) → is_name c ≡ true → Reading (prefix_by (suc m) inner).texts (values_of c) (codes "VALUES(" ++ name_text c ++ codes ")")
  values_read c good =
      as_primary (suc m) inner (λ ts rest g. inr (inr (inl g))) (key_before say_values (in_parens (mapped values_of (closed a_name)) (suc m) (omega arith) (via (λ ts rest g. (c, refl, g)) (closing (name_read c good)))) refl)

  pub choice_read : (arms : List (Tree × Tree)) (o : Part) {w v : List ℕ} → Reading (Chain then_one (Mapped (λ x. x ∷ []) (when_arm inner.whole).texts) (λ x. (when_arm inner.whole).texts)) arms w → soft w ≡ true
      → Reading (else_part inner.whole).texts o v → soft v ≡ true → Reading (prefix_by (suc m) inner).texts (choice (arms_of arms) o) (codes "CASE" ++ w ++ v ++ codes " END")
  choice_read arms o {w = w} {v = v} ra sa ro so =
      let body : Reading (case_body inner.whole).texts (choice (arms_of arms) o) ((w ++ v) ++ codes " END") =
      then' (λ x u. x) (then' (λ as' p. choice (arms_of as') p) ra ro so) (spaced (kw say_end)) refl in
      as_primary (suc m) inner (λ ts rest g. inr (inr (inr (inl g))))
      (opened_said (any_of kind (code words.Case)) (λ u x. x) (case_body inner.whole) (suc m) (omega arith) say_case (key_token words.Case) body (soft_on (w ++ v) (codes " END") (soft_on w v sa so) refl))

  pub exists_read : {q : Query} {w : List ℕ} → Reading inner.select.texts q w → Reading (prefix_by (suc m) inner).texts (exists q) (codes "EXISTS (" ++ w ++ codes ")")
  exists_read {q = q} r =
      as_primary (suc m) inner (λ ts rest g. inr (inr (inr (inr (inl g))))) (key_then say_exists (in_parens (mapped exists (closed inner.select)) (suc m) (omega arith) (via (λ ts rest g. (q, refl, g)) (closing r))))

-- ---- names
-- a name of a system variable that stands without backquotes
bare_read : (n : List ℕ) (t : Tok) → Said t n → Bare n t → Reading system_name.texts n n
bare_read n t r e = elim (or_cases (member (kind t) (code words.Session ∷ [])) (member (kind t) (but names (code words.Session ∷ []))) e.1) [
  | inl m ↦ via (λ ts rest g. inl g) (valued (then_nothing (λ s o. unwrap_or o s) (one r (ap (λ b. only_then b (Some (name_said t))) m)) (via (λ ts rest g. inr g) (nothing None))) e.0)
  | inr m ↦ via (λ ts rest g. inr g) (valued (one r (ap (λ b. only_then b (Some (name_said t))) m)) e.0)
]

pub system_name_read : (n : List ℕ) → is_name n ≡ true → Reading system_name.texts n (bare_name n)
unfolding kind
system_name_read n good = by (is_bare n) refl
  where
    by : (b : Bool) → is_bare n ≡ b → Reading system_name.texts n (if b then n else name_text n)
    by true e = let k = bare_written n good e in bare_read n k.0 k.1 k.2
    by false e = via (λ ts rest g. inr g) (one (name_written n good) refl)

module _ (k : ℕ) (inner : Nested) where
  named_read : {t : Tok} {x : Tail} {w v : List ℕ} → Said t w → of_kinds kind own_names (λ u. Some u) t ≡ Some t → Reading (name_tail k inner.whole).texts x v → soft v ≡ true
      → Reading (prefix_by k inner).texts (named t x) (w ++ v)
  named_read r e q o = as_primary k inner (λ ts rest g. inr (inr (inr (inr (inr (inr (inr (inr (inr (inr g)))))))))) (then' named (one r e) q o)

  of_column_read : (c : List ℕ) → is_name c ≡ true → Reading (name_tail k inner.whole).texts (of_column c) (46 ∷ name_text c)
  of_column_read c good = via (λ ts rest g. inr (inl (c, refl, g))) (sign_then say_dot (name_read c good))

  pub plain_read : (n : List ℕ) → is_name n ≡ true → Reading (prefix_by k inner).texts (name n) (name_text n)
  unfolding kind
  plain_read n good = written (named_read (name_written n good) refl (via (λ ts rest g. inr (inr g)) (nothing no_tail)) refl) (sym (append-nil (name_text n)))

  pub column_read : (t c : List ℕ) → is_name t ≡ true → is_name c ≡ true → Reading (prefix_by k inner).texts (column t c) (name_text t ++ codes "." ++ name_text c)
  unfolding kind
  column_read t c good well = written (named_read (name_written t good) refl (of_column_read c well) refl) (append_assoc (name_text t) (46 ∷ []) (name_text c))

  pub new_read : (c : List ℕ) → is_name c ≡ true → Reading (prefix_by k inner).texts (new_column c) (codes "NEW." ++ name_text c)
  unfolding kind
  new_read c good = named_read say_new refl (of_column_read c good) refl

  pub old_read : (c : List ℕ) → is_name c ≡ true → Reading (prefix_by k inner).texts (old_column c) (codes "OLD." ++ name_text c)
  unfolding kind
  old_read c good = named_read say_old refl (of_column_read c good) refl

  pub call_read : (n : List ℕ) (ts : Trees) {w : List ℕ} → is_name n ≡ true → 0 < k → Reading (arguments inner.whole).texts ts w → Reading (prefix_by k inner).texts (call n ts) (name_text n ++ 40 ∷ w)
  unfolding kind
  call_read n ts good l r = named_read (name_written n good) refl (via (λ us rest g. inl (ts, refl, g)) (in_parens (arguments inner.whole) k l r)) refl

  pub user_read : (n : List ℕ) → is_name n ≡ true → Reading (prefix_by k inner).texts (user_variable n) (codes "@" ++ name_text n)
  user_read n good = as_primary k inner (λ ts rest g. inr (inr (inr (inr (inr (inl (n, refl, g))))))) (at_name n good)

  pub system_read : (n : List ℕ) → is_name n ≡ true → Reading (prefix_by k inner).texts (system_variable n) (codes "@@" ++ bare_name n)
  system_read n good = as_primary k inner (λ ts rest g. inr (inr (inr (inr (inr (inr (inl (n, refl, g)))))))) (sign_then say_at_at (system_name_read n good))

  pub literal_operand : (v : Value) → is_literal v ≡ true → Reading (prefix_by k inner).texts (literal v) (text_of v)
  literal_operand v good = elim (literal_read v good) [
    | inl r ↦ via (λ ts rest g. inl (v, refl, g)) r
    | inr r ↦ as_primary k inner (λ ts rest g. inr (inr (inr (inr (inr (inr (inr (inr (inr (inl (v, refl, g))))))))))) r
  ]
