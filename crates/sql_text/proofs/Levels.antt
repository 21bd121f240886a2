-- Expressions by the number of constructs that may still be opened.
use Rattle.std.proofs.Common.{◌≡◌, ◌<◌, ℕ, zero, suc, pred, Bool, List, [], ◌∷◌, ◌++◌, refl, arith, codes}
use Rattle.val_types.specs.declared.ops.UnOp.TheVariants.{Negate, Not, IsNull, IsNotNull}
use Rattle.val_types.specs.declared.ops.BinOp.{BinOp}
use Rattle.sql_grammar.specs.Rule.{refused}
use Rattle.sql_tree.specs.Tree.{Tree, unary, binary, is_in, Trees, Query}
use Rattle.sql_print.specs.Spelling.{operator_of, in_of}
use Rattle.sql_syntax.specs.Parts.{exprs}
use Rattle.sql_syntax.specs.Selects.{select_by, single_by}
use Rattle.sql_syntax.specs.Expressions.{Nested, prefix_by, negation_by, whole_by, nested}
use Rattle.sql_text.proofs.Reading.{Reading}
use Rattle.sql_text.proofs.Operands.{from_prefix, to_negation, operated, null_read, not_null_read, in_read, negated_read, not_read}

-- the rules for one construct less
abbrev pub inner_of : ℕ → Nested
inner_of zero = record { whole = refused; negation = refused; prefix = refused; select = refused; single = refused }
inner_of (suc n) = nested n

module _ {t : Tree} {w : List ℕ} where
  pub prefix_at : (n : ℕ) → Reading (prefix_by n (inner_of n)).texts t w → Reading (nested n).prefix.texts t w
  unfolding nested
  prefix_at zero r = r
  prefix_at (suc n) r = r

  prefix_in : (n : ℕ) → Reading (nested n).prefix.texts t w → Reading (prefix_by n (inner_of n)).texts t w
  unfolding nested
  prefix_in zero r = r
  prefix_in (suc n) r = r

  whole_at : (n : ℕ) → Reading (whole_by n (inner_of n)).texts t w → Reading (nested n).whole.texts t w
  unfolding nested
  whole_at zero r = r
  whole_at (suc n) r = r

  negation_at : (n : ℕ) → Reading (negation_by n (inner_of n)).texts t w → Reading (nested n).negation.texts t w
  unfolding nested
  negation_at zero r = r
  negation_at (suc n) r = r

  -- where a construct may be opened
  pub prefix_opened : (n : ℕ) → 0 < n → ((m : ℕ) → m ≡ pred n → Reading (prefix_by (suc m) (nested m)).texts t w) → Reading (nested n).prefix.texts t w
  unfolding nested
  prefix_opened zero l f = absurd (omega (arith, l))
  prefix_opened (suc n) l f = f n refl

  -- an operand is an expression, and may stand behind NOT
  pub whole_of : (n : ℕ) → Reading (nested n).prefix.texts t w → Reading (nested n).whole.texts t w
  whole_of n r = whole_at n (from_prefix n (inner_of n) (prefix_in n r))

  negation_of : (n : ℕ) → Reading (nested n).prefix.texts t w → Reading (nested n).negation.texts t w
  negation_of n r = negation_at n (to_negation n (inner_of n) (prefix_in n r))

pub operated_at : (n : ℕ) (op : BinOp) {a b : Tree} {w v : List ℕ} → Reading (nested n).prefix.texts a w → Reading (nested n).prefix.texts b v → Reading (nested n).whole.texts (binary op a b) (w ++ operator_of op ++ v)
operated_at n op {a = a} {b = b} {w = w} {v = v} ra rb = whole_at n (operated n (inner_of n) a b w v (prefix_in n ra) (prefix_in n rb) op)

module _ {a : Tree} {w : List ℕ} where
  pub null_at : (n : ℕ) → Reading (nested n).prefix.texts a w → Reading (nested n).whole.texts (unary IsNull a) (w ++ codes " IS NULL")
  null_at n ra = whole_at n (null_read n (inner_of n) a w (prefix_in n ra))

  pub not_null_at : (n : ℕ) → Reading (nested n).prefix.texts a w → Reading (nested n).whole.texts (unary IsNotNull a) (w ++ codes " IS NOT NULL")
  not_null_at n ra = whole_at n (not_null_read n (inner_of n) a w (prefix_in n ra))

  pub in_at : (n : ℕ) (negated : Bool) {ts : Trees} {v : List ℕ} → 0 < n → Reading (nested n).prefix.texts a w → Reading (exprs (nested (pred n)).whole).texts ts v
      → Reading (nested n).whole.texts (is_in negated a ts) (w ++ (in_of negated ++ (v ++ 41 ∷ [])))
  in_at zero negated l ra rs = absurd (omega (arith, l))
  in_at (suc n) negated {ts = ts} {v = v} l ra rs = whole_at (suc n) (in_read (suc n) (nested n) a w (prefix_in (suc n) ra) negated ts v l rs)

  pub negated_at : (n : ℕ) → 0 < n → Reading (nested (pred n)).prefix.texts a w → Reading (nested n).prefix.texts (unary Negate a) (45 ∷ 32 ∷ w)
  negated_at zero l r = absurd (omega (arith, l))
  negated_at (suc n) l r = prefix_at (suc n) (negated_read n (nested n) a w r)

  pub not_at : (n : ℕ) → 0 < n → Reading (nested (pred n)).prefix.texts a w → Reading (nested n).whole.texts (unary Not a) (codes "NOT " ++ w)
  not_at zero l r = absurd (omega (arith, l))
  not_at (suc n) l r = whole_at (suc n) (not_read n (nested n) a w (negation_of n r))

-- ---- SELECT
module _ {q : Query} {w : List ℕ} where
  pub select_at : (n : ℕ) → Reading (select_by n (nested n).whole (inner_of n).whole).texts q w → Reading (nested n).select.texts q w
  unfolding nested
  select_at zero r = r
  select_at (suc n) r = r

  pub single_at : (n : ℕ) → Reading (single_by n (nested n).whole (inner_of n).whole).texts q w → Reading (nested n).single.texts q w
  unfolding nested
  single_at zero r = r
  single_at (suc n) r = r

  pub select_opened : (n : ℕ) → 0 < n → Reading (select_by n (nested n).whole (nested (pred n)).whole).texts q w → Reading (nested n).select.texts q w
  select_opened zero l r = absurd (omega (arith, l))
  select_opened (suc n) l r = select_at (suc n) r

  pub single_opened : (n : ℕ) → 0 < n → Reading (single_by n (nested n).whole (nested (pred n)).whole).texts q w → Reading (nested n).single.texts q w
  single_opened zero l r = absurd (omega (arith, l))
  single_opened (suc n) l r = single_at (suc n) r
