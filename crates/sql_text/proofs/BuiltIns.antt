-- Calls of built-ins, for any rules inside.
use Rattle.std.proofs.Common.{◌≡◌, ◌<◌, ℕ, pred, true, List, [], ◌∷◌, ◌++◌, Some, refl, append_assoc, inl, inr, codes}
use Rattle.val_types.specs.Text.{text_of}
use Rattle.val_types.specs.declared.value.Value.{Value}
use Rattle.val_types.specs.declared.value.Value.TheVariants.{Text}
use Rattle.val_types.specs.declared.ops.Func.{Func}
use Rattle.val_types.specs.declared.ops.Func0.{Func0}
use Rattle.val_types.specs.declared.ops.Func1.{Func1}
use Rattle.val_types.specs.declared.ops.Func2.{Func2}
use Rattle.val_types.specs.declared.ops.Func3.{Func3}
use Rattle.val_types.specs.declared.ops.FuncN.{FuncN}
use Rattle.sql_lex.specs.declared.keyword.Keyword.TheVariants as words
use Rattle.sql_lex.specs.declared.token.Symbol.TheVariants as signs
use Rattle.sql_grammar.specs.Rule.{Rule, of_kinds, paired}
use Rattle.sql_tree.specs.Tree.{Tree, built_in, name_const, floor_rand}
use Rattle.sql_tree.specs.Tree.{Trees, no_tree, tree}
use Rattle.sql_tree.specs.BuiltIns.{on_none, on_one, on_two, on_three, on_many, about, arity}
use Rattle.sql_tree.specs.Well.{is_literal, are_as_many}
use Rattle.sql_print.specs.Spelling.{function_of, tree_text, trees_text}
use Rattle.sql_syntax.specs.Tokens.{Tok, function_word, kind, code, none_code, one_code, two_code, three_code, many_code, sign}
use Rattle.sql_syntax.specs.Parts.{exprs, closed}
use Rattle.sql_syntax.specs.Expressions.{Nested, built, built_or_named, built_ins, as_three, call_none, call_one, call_two, call_three, call_many, two_arguments, three_arguments, constant, random, prefix_by}
use Rattle.sql_text.proofs.Lines.{group4, group5, arguments_line}
use Rattle.sql_text.proofs.Reading.{Said, Reading, via, written, spaced, one, then'}
use Rattle.sql_text.proofs.Written.{say_close, say_times}
use Rattle.sql_text.proofs.Words.{say_name_const, say_floor, say_rand, say_if}
use Rattle.sql_text.proofs.FunctionNames.{called_said}
use Rattle.sql_text.proofs.Parts.{signed, key_before, sign_then, comma_then, closing, in_parens, text_read, value_read}
use Rattle.sql_text.proofs.Operands.{as_primary}
use Rattle.sql_text.proofs.TreeLists.{AreRead, exprs_read}

built_by : {A : Type 0} (set : List ℕ) (make : Tok → A → Tree) (R : Rule Tok A) {t : Tok} (a : A) {w v : List ℕ} (k : ℕ) → 0 < k → Said t w → of_kinds kind set (λ u. Some u) t ≡ Some t
    → Reading R.texts a v → Reading (built_or_named set make k R).texts (make t a) (w ++ 40 ∷ v)
built_by set make R a k l r e q = then' (built make) (one r e) (via (λ ts rest g. inl (a, refl, g)) (in_parens R k l q)) refl

module _ (k : ℕ) (inner : Nested) (l : 0 < k) where
  as_built : {t : Tree} {w : List ℕ} → Reading (built_ins k inner).texts t w → Reading (prefix_by k inner).texts t w
  as_built r = as_primary k inner (λ ts rest g. inr (inr (inr (inr (inr (inr (inr (inl g)))))))) r

  -- the call of a built-in, from what stands behind its parenthesis
  none_read : (f : Func0) {w : List ℕ} → Said (function_word (Func.Zero f)) w → Reading (prefix_by k inner).texts (on_none f) (w ++ 40 ∷ 41 ∷ [])
  unfolding kind
  none_read f r = as_built (via (λ ts rest g. inl g) (built_by (none_code ∷ []) call_none (sign signs.Close) tt k l r refl (signed say_close)))

  one_read : (f : Func1) {w : List ℕ} {a : Tree} → Said (function_word (Func.One f)) w → Reading inner.whole.texts a (tree_text a)
      → Reading (prefix_by k inner).texts (on_one f a) (w ++ 40 ∷ (trees_text (tree a no_tree) ++ 41 ∷ []))
  unfolding kind
  one_read f {a = a} r ra =
      as_built (via (λ ts rest g. inr (inl g)) (built_by (one_code ∷ []) call_one (closed inner.whole) a k l r refl (written (closing ra) (append_assoc (tree_text a) [] (41 ∷ [])))))

  two_read : (f : Func2) {w : List ℕ} {a b : Tree} → Said (function_word (Func.Two f)) w → Reading inner.whole.texts a (tree_text a) → Reading inner.whole.texts b (tree_text b)
      → Reading (prefix_by k inner).texts (on_two f a b) (w ++ 40 ∷ (trees_text (tree a (tree b no_tree)) ++ 41 ∷ []))
  unfolding kind
  two_read f {a = a} {b = b} r ra rb =
      let pair : Reading (two_arguments paired inner.whole).texts (a, b) (trees_text (tree a (tree b no_tree)) ++ 41 ∷ []) = written (then' paired ra (comma_then (closing rb)) refl) (simp append_assoc) in
      as_built (via (λ ts rest g. inr (inr (inl g))) (built_by (two_code ∷ []) call_two (two_arguments paired inner.whole) (a, b) k l r refl pair))

  -- three arguments
  three_given : {A : Type 0} (f : Tree → Tree → Tree → A) {a b c : Tree} → Reading inner.whole.texts a (tree_text a) → Reading inner.whole.texts b (tree_text b) → Reading inner.whole.texts c (tree_text c)
      → Reading (three_arguments f inner.whole).texts (f a b c) (trees_text (tree a (tree b (tree c no_tree))) ++ 41 ∷ [])
  three_given f {a = a} {b = b} {c = c} ra rb rc =
      written (then' (λ x yz. f x yz.0 yz.1) ra (comma_then (then' paired rb (comma_then (closing rc)) refl)) refl) (arguments_line (tree_text a) (tree_text b) (tree_text c))

  three_read : (f : Func3) {w : List ℕ} {a b c : Tree} → Said (function_word (Func.Three f)) w → Reading inner.whole.texts a (tree_text a) → Reading inner.whole.texts b (tree_text b) → Reading inner.whole.texts c (tree_text c)
      → Reading (prefix_by k inner).texts (on_three f a b c) (w ++ 40 ∷ (trees_text (tree a (tree b (tree c no_tree))) ++ 41 ∷ []))
  unfolding kind
  three_read f {a = a} {b = b} {c = c} r ra rb rc =
      as_built (via (λ ts rest g. inr (inr (inr (inl g)))) (built_by (three_code ∷ []) call_three (three_arguments as_three inner.whole) (as_three a b c) k l r refl (three_given as_three ra rb rc)))

  many_read : (f : FuncN) {w : List ℕ} {ts : Trees} → Said (function_word (Func.Many f)) w → Reading (exprs inner.whole).texts ts (trees_text ts)
      → Reading (prefix_by k inner).texts (on_many f ts) (w ++ 40 ∷ (trees_text ts ++ 41 ∷ []))
  unfolding kind
  many_read f {ts = ts} r rs =
      as_built (via (λ us rest g. inr (inr (inr (inr (inl g))))) (built_by (many_code ∷ []) call_many (closed (exprs inner.whole)) ts k l r refl (closing rs)))

  -- each built-in with as many arguments as it takes
  called_read : (f : Func) (ts : Trees) → are_as_many (arity f) ts ≡ true → AreRead inner.whole ts → Reading (prefix_by k inner).texts (built_in f ts) ((about f).name ++ 40 ∷ (trees_text ts ++ 41 ∷ []))
  called_read (Func.Zero f) no_tree h r = none_read f (called_said (Func.Zero f) refl)
  called_read (Func.Zero f) (tree x ts) h r = cc
  called_read (Func.One f) (tree a no_tree) h r = one_read f (called_said (Func.One f) refl) r.0
  called_read (Func.One f) no_tree h r = cc
  called_read (Func.One f) (tree a (tree x ts)) h r = cc
  called_read (Func.Two f) (tree a (tree b no_tree)) h r = two_read f (called_said (Func.Two f) refl) r.0 r.1.0
  called_read (Func.Two f) no_tree h r = cc
  called_read (Func.Two f) (tree a no_tree) h r = cc
  called_read (Func.Two f) (tree a (tree b (tree x ts))) h r = cc
  called_read (Func.Three Func3.If) (tree a (tree b (tree c no_tree))) h r =
      as_primary k inner (λ us rest g. inr (inl g)) (key_before say_if (in_parens (three_arguments (on_three Func3.If) inner.whole) k l (three_given (on_three Func3.If) r.0 r.1.0 r.1.1.0)) refl)
  called_read (Func.Three f) (tree a (tree b (tree c no_tree))) h r = three_read f (called_said (Func.Three f) refl) r.0 r.1.0 r.1.1.0
  called_read (Func.Three f) no_tree h r = cc
  called_read (Func.Three f) (tree a no_tree) h r = cc
  called_read (Func.Three f) (tree a (tree b no_tree)) h r = cc
  called_read (Func.Three f) (tree a (tree b (tree c (tree x ts)))) h r = cc
  called_read (Func.Many f) ts h r = many_read f (called_said (Func.Many f) refl) (exprs_read inner.whole ts h r)

  pub function_read : (f : Func) (ts : Trees) → are_as_many (arity f) ts ≡ true → AreRead inner.whole ts → Reading (prefix_by k inner).texts (built_in f ts) (function_of f ++ codes "(" ++ trees_text ts ++ codes ")")
  function_read f ts h r = written (called_read f ts h r) (group4 (about f).name (codes "(") (trees_text ts) (codes ")"))

  pub constant_read : (n : List ℕ) (x : Value) → is_literal (Text n) ≡ true → is_literal x ≡ true → Reading (prefix_by k inner).texts (name_const n x) (codes "NAME_CONST(" ++ text_of (Text n) ++ codes ", " ++ text_of x ++ codes ")")
  unfolding kind
  constant_read n x good well =
      let r : Reading constant.texts (name_const n x) (text_of (Text n) ++ (44 ∷ 32 ∷ (text_of x ++ 41 ∷ []))) = then' name_const (text_read n good) (comma_then (closing (value_read x well))) refl in
      written (as_built (via (λ us rest g. inr (inr (inr (inr (inr (inl g)))))) (built_by (code words.NameConst ∷ []) (λ t y. y) constant (name_const n x) k l say_name_const refl r))) (group5 (codes "NAME_CONST(") (text_of (Text n)) (codes ", ") (text_of x) (codes ")"))

  pub random_read : {a : Tree} {w : List ℕ} → 0 < pred k → Reading inner.prefix.texts a w → Reading (prefix_by k inner).texts (floor_rand a) (codes "FLOOR(RAND() * " ++ w ++ codes ")")
  unfolding kind
  random_read {a = a} {w = w} m ra =
      let product : Reading _ (floor_rand a) (codes "* " ++ (w ++ 41 ∷ [])) = sign_then say_times (via (λ us rest g. (a, refl, g)) (closing ra)) in
      let r : Reading (random (pred k) inner.prefix).texts (floor_rand a) (codes "RAND() * " ++ (w ++ 41 ∷ [])) =
      key_before say_rand (then' (λ u x. x) (in_parens (sign signs.Close) (pred k) m (signed say_close)) (spaced product) refl) refl in
      as_built (via (λ us rest g. inr (inr (inr (inr (inr (inr g)))))) (built_by (code words.Floor ∷ []) (λ t y. y) (random (pred k) inner.prefix) (floor_rand a) k l say_floor refl r))
