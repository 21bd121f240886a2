-- The rules that nest in one another, each by the others.
use Rattle.std.proofs.Common.{◌≡◌, ℕ, zero, suc, pred, List, [], ◌∷◌, Ok, Err, refl}
use Rattle.sql_lex.specs.declared.keyword.Keyword.TheVariants as words
use Rattle.sql_lex.specs.declared.token.Symbol.TheVariants as signs
use Rattle.sql_grammar.specs.Reader.{Read, bind}
use Rattle.sql_grammar.specs.Rule.{Rule, either, opened, any_of, behind, paired}
use Rattle.val_types.specs.declared.ops.UnOp.TheVariants.{Not}
use Rattle.sql_tree.specs.Tree.{Tree, unary}
use Rattle.sql_syntax.specs.Tokens.{Tok, kind, code, sign}
use Rattle.sql_syntax.specs.Selects.{select_by, single_by}
use Rattle.sql_syntax.specs.Expressions.{nested, disjunction, comparison, prefix_by, two_arguments, three_arguments, as_three}

pub whole_is : (n : ℕ) → (nested n).whole ≡ disjunction (nested n).negation
unfolding nested
whole_is zero = refl
whole_is (suc n) = refl

pub negation_is : (n : ℕ) → (nested n).negation
    ≡ either kind (code words.Not ∷ []) (opened n (any_of kind (code words.Not)) (λ u a. unary Not a) (nested (pred n)).negation) (comparison n (nested (pred n)).whole (nested n).prefix)
unfolding nested
negation_is zero = refl
negation_is (suc n) = refl

pub prefix_is : (n : ℕ) → (nested n).prefix ≡ prefix_by n (nested (pred n))
unfolding nested
prefix_is zero = refl
prefix_is (suc n) = refl

pub select_is : (n : ℕ) → (nested n).select ≡ select_by n (nested n).whole (nested (pred n)).whole
unfolding nested
select_is zero = refl
select_is (suc n) = refl

pub single_is : (n : ℕ) → (nested n).single ≡ single_by n (nested n).whole (nested (pred n)).whole
unfolding nested
single_is zero = refl
single_is (suc n) = refl

-- two readers, and a function of what they make
both_as : {A B C D : Type 0} (m : Read Tok A) (q : List Tok → Read Tok B) (h : A → B → C) (g : C → D)
    → bind m (λ x. bind (q x.1) (λ y. Ok (g (h x.0 y.0), y.1))) ≡ bind (bind m (λ x. bind (q x.1) (λ y. Ok (h x.0 y.0, y.1)))) (λ z. Ok (g z.0, z.1))
both_as {A} {B} {C} {D} (Ok x) q h g = by (q x.1)
  where
    by : (r : Read Tok B) → bind r (λ y. Ok (g (h x.0 y.0), y.1)) ≡ bind (bind r (λ y. Ok (h x.0 y.0, y.1))) (λ z. Ok (g z.0, z.1))
    by (Ok y) = refl
    by (Err e) = refl
both_as (Err e) q h g = refl

-- a function of three expressions, and the three
pub three_as : {A : Type 0} (f : Tree → Tree → Tree → A) (r : Rule Tok Tree) (ts : List Tok)
    → (three_arguments f r).read ts ≡ bind ((three_arguments as_three r).read ts) (λ x. Ok (f x.0.0 x.0.1.0 x.0.1.1, x.1))
three_as f r ts = both_as (r.read ts) (behind (sign signs.Comma) (two_arguments paired r)).read (λ a bc. as_three a bc.0 bc.1) (λ p. f p.0 p.1.0 p.1.1)
