-- Names, literals, lists and parentheses of good tokens are good.
use Rattle.std.proofs.Common.{◌≡◌, ◌≤◌, ℕ, zero, suc, true, List, [], ◌∷◌, refl, arith, pos, neg_ℤ}
use Rattle.std.proofs.lemmas.Bool.{and_from, leb-true, le-leb, false≢true}
use Rattle.std.specs.Prelude.{length, nat_le}
use Rattle.std.specs.List.{list_all}
use Rattle.val_types.specs.declared.value.Value.{Value}
use Rattle.val_types.specs.declared.value.Value.TheVariants.{Null, Int, Text}
use Rattle.sql_lex.specs.declared.keyword.Keyword.{Keyword}
use Rattle.sql_lex.specs.declared.keyword.Keyword.TheVariants as words
use Rattle.sql_lex.specs.declared.token.Symbol.{Symbol}
use Rattle.sql_lex.specs.declared.token.Symbol.TheVariants as signs
use Rattle.sql_lex.specs.Keywords.{word_of}
use Rattle.sql_lex.proofs.KeywordLaws.{all_keywords}
use Rattle.sql_grammar.specs.Sets.{member, within}
use Rattle.sql_grammar.specs.Rule.{Rule}
use Rattle.sql_grammar.proofs.Lists.{within_member}
use Rattle.sql_tree.specs.Tree.{Tree, Trees, no_tree}
use Rattle.sql_tree.specs.View.{trees_of}
use Rattle.sql_tree.specs.Well.{is_name, are_names, is_number, is_literal, has_tree, is_well_tree, are_well_trees}
use Rattle.sql_syntax.specs.Tokens.{Tok, key, function_word, plain_name, quoted_name, digits, least_digits, literal_text, mark, tight_minus, broken_minus, kind, code, sign_code, number_code, least_code, text_code, tight_code, names, but, name_said, text_said, number_said}
use Rattle.sql_syntax.specs.Parts.{a_name, name_but, word_name, list_of, exprs, closed, arguments, in_parentheses, names_in, a_text, a_number, plain_value, negative_value, a_value}
use Rattle.sql_text.proofs.Good.{is_good, Gives, Each, Some', each_all, weaker, either_gives, mapped_gives, behind_gives, before_gives, rows_give, said_gives, any_gives, keyword_gives, sign_gives, mark_gives, opened_gives}

-- ---- what is well, as properties
abbrev pub Name : List ℕ → Type 0
Name n = is_name n ≡ true

abbrev pub Lit : Value → Type 0
Lit v = is_literal v ≡ true

abbrev pub Well : Tree → Type 0
Well t = is_well_tree t ≡ true

-- one expression or more
abbrev pub Wells : Trees → Type 0
Wells ts = (has_tree ts ≡ true) × (are_well_trees ts ≡ true)

-- ---- names
-- a keyword may be a name
pub word_is_name : (k : Keyword) → is_name (word_of k) ≡ true
word_is_name = all_keywords (λ k. is_name (word_of k)) refl

no_sign_is_name : (s : Symbol) → member (sign_code s) names ≡ true → ⊥
no_sign_is_name signs.Open m = absurd (false≢true m)
no_sign_is_name signs.Close m = absurd (false≢true m)
no_sign_is_name signs.Comma m = absurd (false≢true m)
no_sign_is_name signs.Semicolon m = absurd (false≢true m)
no_sign_is_name signs.Dot m = absurd (false≢true m)
no_sign_is_name signs.At m = absurd (false≢true m)
no_sign_is_name signs.AtAt m = absurd (false≢true m)
no_sign_is_name signs.Equal m = absurd (false≢true m)
no_sign_is_name signs.Assign m = absurd (false≢true m)
no_sign_is_name signs.NullSafeEqual m = absurd (false≢true m)
no_sign_is_name signs.NotEqual m = absurd (false≢true m)
no_sign_is_name signs.Less m = absurd (false≢true m)
no_sign_is_name signs.LessEqual m = absurd (false≢true m)
no_sign_is_name signs.Greater m = absurd (false≢true m)
no_sign_is_name signs.GreaterEqual m = absurd (false≢true m)
no_sign_is_name signs.Plus m = absurd (false≢true m)
no_sign_is_name signs.Minus m = absurd (false≢true m)
no_sign_is_name signs.Star m = absurd (false≢true m)
no_sign_is_name signs.Percent m = absurd (false≢true m)

pub name_good : (t : Tok) → is_good t ≡ true → member (kind t) names ≡ true → is_name (name_said t) ≡ true
unfolding kind
name_good (key k) g m = word_is_name k
name_good (function_word f) g m = g
name_good (plain_name w) g m = g
name_good (quoted_name w) g m = g
name_good (digits n) g m = absurd (false≢true m)
name_good least_digits g m = absurd (false≢true m)
name_good (literal_text x) g m = absurd (false≢true m)
name_good (mark s) g m = absurd (no_sign_is_name s m)
name_good tight_minus g m = absurd (false≢true m)
name_good broken_minus g m = absurd (false≢true m)

pub named_within : (set : List ℕ) → within set names ≡ true → (t : Tok) → is_good t ≡ true → member (kind t) set ≡ true → is_name (name_said t) ≡ true
named_within set w t g m = name_good t g (within_member (kind t) set names w m)

pub name_well : Gives Name a_name.texts
name_well = said_gives names name_said name_good

pub but_well : (set : List ℕ) → within (but names set) names ≡ true → Gives Name (name_but set).texts
but_well set w = said_gives (but names set) name_said (named_within (but names set) w)

pub word_name_well : (k : Keyword) → within (code k ∷ []) names ≡ true → Gives Name (word_name k).texts
word_name_well k w = said_gives (code k ∷ []) name_said (named_within (code k ∷ []) w)

-- ---- numbers and texts
text_good : (t : Tok) → is_good t ≡ true → is_literal (Text (text_said t)) ≡ true
text_good (key k) g = refl
text_good (function_word f) g = refl
text_good (plain_name w) g = refl
text_good (quoted_name w) g = refl
text_good (digits n) g = refl
text_good least_digits g = refl
text_good (literal_text x) g = g
text_good (mark s) g = refl
text_good tight_minus g = refl
text_good broken_minus g = refl

number_good : (t : Tok) → is_good t ≡ true → member (kind t) (number_code ∷ []) ≡ true → is_number (number_said t) ≡ true
unfolding kind
number_good (key k) g m = refl
number_good (function_word f) g m = refl
number_good (plain_name w) g m = refl
number_good (quoted_name w) g m = refl
number_good (digits n) g m = g
number_good least_digits g m = absurd (false≢true m)
number_good (literal_text x) g m = refl
number_good (mark s) g m = refl
number_good tight_minus g m = refl
number_good broken_minus g m = refl

number_small : (t : Tok) → is_good t ≡ true → number_said t ≤ 9223372036854775808
number_small (key k) g = omega arith
number_small (function_word f) g = omega arith
number_small (plain_name w) g = omega arith
number_small (quoted_name w) g = omega arith
number_small (digits n) g = let l = leb-true n 9223372036854775807 g in omega (arith, l)
number_small least_digits g = omega arith
number_small (literal_text x) g = omega arith
number_small (mark s) g = omega arith
number_small tight_minus g = omega arith
number_small broken_minus g = omega arith

negated_good : (n : ℕ) → n ≤ 9223372036854775808 → is_literal (Int (neg_ℤ (pos n))) ≡ true
negated_good zero l = refl
negated_good (suc k) l = and_from (nat_le k 9223372036854775807) true (le-leb k 9223372036854775807 (omega (arith, l))) refl

pub text_well : Gives (λ t. is_literal (Text t) ≡ true) a_text.texts
text_well = said_gives (text_code ∷ []) text_said (λ t g m. text_good t g)

pub number_well : Gives (λ n. is_number n ≡ true) a_number.texts
number_well = said_gives (number_code ∷ []) number_said number_good

pub plain_well : Gives Lit plain_value.texts
plain_well =
    either_gives (mapped_gives (λ n. Int (pos n)) (λ n p. and_from true (is_number n) refl p) number_well) (
    either_gives (mapped_gives Text (λ t p. p) text_well) (mapped_gives (λ u. Null) (λ u p. refl) (keyword_gives words.Null)))

pub negative_well : Gives Lit negative_value.texts
negative_well =
    behind_gives (any_gives tight_code) (said_gives (number_code ∷ least_code ∷ []) (λ t. Int (neg_ℤ (pos (number_said t)))) (λ t g m. negated_good (number_said t) (number_small t g)))

pub value_well : Gives Lit a_value.texts
value_well = either_gives negative_well plain_well

-- ---- lists and parentheses
module _ {A : Type 0} {P : A → Type 0} where
  pub list_well : (r : Rule Tok A) → Gives P r.texts → Gives (Some' P) (list_of r).texts
  list_well r q = rows_give q (λ as'. mark_gives q signs.Comma)

  pub closed_well : (r : Rule Tok A) → Gives P r.texts → Gives P (closed r).texts
  closed_well r q = before_gives q (sign_gives signs.Close)

  pub parens_well : (n : ℕ) (r : Rule Tok A) → Gives P r.texts → Gives P (in_parentheses n r).texts
  parens_well n r q = opened_gives n (sign_code signs.Open) (λ u a. a) r (λ b p. p) q

pub some_names : (ns : List (List ℕ)) → Some' Name ns → are_names ns ≡ true
some_names [] p = absurd p
some_names (n ∷ ns) p = and_from (nat_le 1 (length (n ∷ ns))) (list_all is_name (n ∷ ns)) (le-leb 1 (length (n ∷ ns)) (omega arith)) (each_all is_name (n ∷ ns) p)

each_tree : (ts : List Tree) → Each Well ts → are_well_trees (trees_of ts) ≡ true
each_tree [] p = refl
each_tree (t ∷ ts) p = and_from (is_well_tree t) (are_well_trees (trees_of ts)) p.0 (each_tree ts p.1)

some_trees : (ts : List Tree) → Some' Well ts → Wells (trees_of ts)
some_trees [] p = absurd p
some_trees (t ∷ ts) p = (refl, each_tree (t ∷ ts) p)

pub names_well : Gives (λ ns. are_names ns ≡ true) (list_of a_name).texts
names_well = weaker some_names (list_well a_name name_well)

pub names_in_well : (n : ℕ) → Gives (λ ns. are_names ns ≡ true) (names_in n).texts
names_in_well n = parens_well n (closed (list_of a_name)) (closed_well (list_of a_name) names_well)

module _ (r : Rule Tok Tree) (q : Gives Well r.texts) where
  pub exprs_well : Gives Wells (exprs r).texts
  exprs_well = mapped_gives trees_of some_trees (list_well r q)

  pub arguments_well : Gives (λ ts. are_well_trees ts ≡ true) (arguments r).texts
  arguments_well = either_gives (mapped_gives (λ u. no_tree) (λ u p. refl) (sign_gives signs.Close)) (weaker (λ ts p. p.1) (closed_well (exprs r) exprs_well))
