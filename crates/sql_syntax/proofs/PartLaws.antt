-- The laws of what many rules are made of.
use Rattle.std.proofs.Common.{◌≡◌, ℕ, suc, pred, pos, neg_ℤ, true, false, inl, inr, List, [], ◌∷◌, Some, refl}
use Rattle.val_types.specs.declared.value.Value.TheVariants.{Null, Int, Text}
use Rattle.sql_lex.specs.declared.keyword.Keyword.{Keyword}
use Rattle.sql_lex.specs.declared.keyword.Keyword.TheVariants as words
use Rattle.sql_lex.specs.declared.token.Symbol.{Symbol}
use Rattle.sql_lex.specs.declared.token.Symbol.TheVariants as signs
use Rattle.sql_tree.specs.Tree.{Tree, no_tree}
use Rattle.sql_tree.specs.View.{trees_of}
use Rattle.sql_grammar.specs.Sets.{member, apart, next_in}
use Rattle.sql_grammar.specs.Rule.{Rule, any_of, of_kinds, both, mapped, optional, behind, alone, then_one}
use Rattle.sql_grammar.proofs.Lists.{apart_nothing, next_apart}
use Rattle.sql_grammar.proofs.Lawful.{Shape, shape, Lawful, GoesOn}
use Rattle.sql_grammar.proofs.Single.{Takes, takes_kinds, takes_any, expect_lawful, mapped_lawful, widened}
use Rattle.sql_grammar.proofs.Sequence.{both_shape, both_lawful, opened_lawful}
use Rattle.sql_grammar.proofs.Choice.{either_lawful, Never}
use Rattle.sql_grammar.proofs.Chains.{chain_shape, listed_lawful}
use Rattle.sql_grammar.proofs.Alive.{one_alive, both_alive, first_alive, mapped_alive, chain_alive}
use Rattle.sql_grammar.proofs.TwoTokens.{Starts}
use Rattle.sql_syntax.specs.Tokens.{Tok, quoted_name, digits, literal_text, tight_minus, kind, code, sign_code, number_code, least_code, text_code, tight_code, quoted_code, names, but, name_said, text_said, number_said, keyword, sign}
use Rattle.sql_syntax.specs.Parts.{a_name, name_but, word_name, list_of, exprs, closed, arguments, in_parentheses, names_in, a_text, a_number, plain_value, negative_value, a_value}
use Rattle.sql_syntax.proofs.Words.{spelled, keyword_kind, takes_sign, keyword_lawful, sign_lawful, keyword_alive, sign_alive}
use Rattle.sql_syntax.proofs.Shapes.{comma, starts, behind_lists, wholes}

-- ---- words with a value
pub takes_name : Takes kind (of_kinds kind names (λ t. Some (name_said t))) names
unfolding kind
takes_name = takes_kinds kind names (λ t. Some (name_said t)) (quoted_name []) [] refl refl

pub name_lawful : (d : ℕ) → Lawful kind (shape names false [] true) (λ e. a_name) d
name_lawful d = expect_lawful takes_name d

pub takes_but : (set : List ℕ) → member quoted_code (but names set) ≡ true → Takes kind (of_kinds kind (but names set) (λ t. Some (name_said t))) (but names set)
unfolding kind
takes_but set m = takes_kinds kind (but names set) (λ t. Some (name_said t)) (quoted_name []) [] m refl

pub but_lawful : (set : List ℕ) → member quoted_code (but names set) ≡ true → (d : ℕ) → Lawful kind (shape (but names set) false [] true) (λ e. name_but set) d
but_lawful set m d = expect_lawful (takes_but set m) d

pub takes_word : (k : Keyword) → Takes kind (of_kinds kind (code k ∷ []) (λ t. Some (name_said t))) (code k ∷ [])
takes_word k = takes_kinds kind (code k ∷ []) (λ t. Some (name_said t)) (spelled k) (name_said (spelled k)) (keyword_kind k) refl

pub word_name_lawful : (k : Keyword) (d : ℕ) → Lawful kind (shape (code k ∷ []) false [] true) (λ e. word_name k) d
word_name_lawful k d = expect_lawful (takes_word k) d

pub takes_number : Takes kind (of_kinds kind (number_code ∷ []) (λ t. Some (number_said t))) (number_code ∷ [])
unfolding kind
takes_number = takes_kinds kind (number_code ∷ []) (λ t. Some (number_said t)) (digits 0) 0 refl refl

pub number_lawful : (d : ℕ) → Lawful kind (shape (number_code ∷ []) false [] true) (λ e. a_number) d
number_lawful d = expect_lawful takes_number d

pub takes_text : Takes kind (of_kinds kind (text_code ∷ []) (λ t. Some (text_said t))) (text_code ∷ [])
unfolding kind
takes_text = takes_kinds kind (text_code ∷ []) (λ t. Some (text_said t)) (literal_text []) [] refl refl

pub text_lawful : (d : ℕ) → Lawful kind (shape (text_code ∷ []) false [] true) (λ e. a_text) d
text_lawful d = expect_lawful takes_text d

takes_least : Takes kind (of_kinds kind (number_code ∷ least_code ∷ []) (λ t. Some (Int (neg_ℤ (pos (number_said t)))))) (number_code ∷ least_code ∷ [])
unfolding kind
takes_least = takes_kinds kind (number_code ∷ least_code ∷ []) (λ t. Some (Int (neg_ℤ (pos (number_said t))))) (digits 0) (Int (neg_ℤ (pos 0))) refl refl

takes_tight : Takes kind (any_of kind tight_code) (tight_code ∷ [])
unfolding kind
takes_tight = takes_any kind tight_code tight_minus refl

-- ---- one behind another
module _ {A : Type 0} {s : Shape} {Q : ℕ → Rule Tok A} {d : ℕ} (l : Lawful kind s Q d) (live : s.live ≡ true) where
  pub keyword_then : (k : Keyword) → Lawful kind (both_shape (shape (code k ∷ []) false [] true) s) (λ e. behind (keyword k) (Q e)) d
  keyword_then k = both_lawful (λ u a. a) (keyword_lawful k d) l (apart_nothing s.first) live

  pub sign_then : (k : Symbol) → Lawful kind (both_shape (shape (sign_code k ∷ []) false [] true) s) (λ e. behind (sign k) (Q e)) d
  sign_then k = both_lawful (λ u a. a) (sign_lawful k d) l (apart_nothing s.first) live

pub closed_lawful : {A : Type 0} {s : Shape} {P : ℕ → Rule Tok A} {d : ℕ} → Lawful kind s P d → apart (sign_code signs.Close ∷ []) s.after ≡ true
    → Lawful kind (both_shape s (shape (sign_code signs.Close ∷ []) false [] true)) (λ e. closed (P e)) d
closed_lawful {d = d} l out = both_lawful (λ a u. a) l (sign_lawful signs.Close d) out refl

pub list_lawful : {A : Type 0} {s : Shape} {P : ℕ → Rule Tok A} {d : ℕ} → Lawful kind s P d → s.live ≡ true → apart comma s.after ≡ true → apart comma (both_shape (shape comma false [] true) s).after ≡ true
    → Lawful kind (chain_shape s (both_shape (shape comma false [] true) s) comma) (λ e. list_of (P e)) d
list_lawful {s = s} {d = d} l live out between = listed_lawful comma (sign_lawful signs.Comma d) l (apart_nothing s.first, live) refl refl out between

-- ---- literals
pub plain_value_lawful : (d : ℕ) → Lawful kind (shape (number_code ∷ text_code ∷ code words.Null ∷ []) false [] true) (λ e. plain_value) d
plain_value_lawful d =
    either_lawful (number_code ∷ []) (mapped_lawful (λ n. Int (pos n)) (number_lawful d))
    (either_lawful (text_code ∷ []) (mapped_lawful Text (text_lawful d)) (mapped_lawful (λ u. Null) (keyword_lawful words.Null d)) refl refl refl) refl refl refl

pub negative_value_lawful : (d : ℕ) → Lawful kind (shape (tight_code ∷ []) false [] true) (λ e. negative_value) d
negative_value_lawful d = both_lawful (λ u a. a) (expect_lawful takes_tight d) (expect_lawful takes_least d) refl refl

pub value_lawful : (d : ℕ) → Lawful kind (shape (tight_code ∷ number_code ∷ text_code ∷ code words.Null ∷ []) false [] true) (λ e. a_value) d
value_lawful d = either_lawful (tight_code ∷ []) (negative_value_lawful d) (plain_value_lawful d) refl refl refl

-- ---- lists and parentheses
module _ {R : ℕ → Rule Tok Tree} {d : ℕ} (l : Lawful kind wholes R d) where
  pub exprs_lawful : Lawful kind (shape starts false behind_lists true) (λ e. exprs (R e)) d
  exprs_lawful = widened (mapped_lawful trees_of (list_lawful l refl refl refl)) (shape starts false behind_lists true) refl

  pub one_closed_lawful : Lawful kind (shape starts false [] true) (λ e. closed (R e)) d
  one_closed_lawful = closed_lawful l refl

  pub exprs_closed_lawful : Lawful kind (shape starts false [] true) (λ e. closed (exprs (R e))) d
  exprs_closed_lawful = closed_lawful exprs_lawful refl

  pub arguments_lawful : Lawful kind (shape (sign_code signs.Close ∷ starts) false [] true) (λ e. arguments (R e)) d
  arguments_lawful =
      widened (either_lawful (sign_code signs.Close ∷ []) (mapped_lawful (λ u. no_tree) (sign_lawful signs.Close d)) exprs_closed_lawful refl refl refl)
      (shape (sign_code signs.Close ∷ starts) false [] true) refl

pub in_parentheses_lawful : {A : Type 0} {s : Shape} (R : ℕ → Rule Tok A) → GoesOn R [] → (d : ℕ) → ((k : ℕ) → d ≡ suc k → Lawful kind s R k) → s.live ≡ true
    → Lawful kind (shape (sign_code signs.Open ∷ []) false s.after true) (λ e. in_parentheses e (R (pred e))) d
in_parentheses_lawful R alive d l live = opened_lawful (takes_sign signs.Open) (λ u a. a) R alive d l live

-- ---- what there is in them
module _ {A : Type 0} (W : ℕ → Rule Tok A) (alive : GoesOn W []) where
  pub list_alive : GoesOn (λ e. list_of (W e)) []
  list_alive = chain_alive kind then_one comma (λ e. mapped alone (W e)) (λ e a. behind (sign signs.Comma) (W e)) (mapped_alive alone W alive)

  pub closed_alive : GoesOn (λ e. closed (W e)) []
  closed_alive = both_alive (λ a u. a) W (λ e. sign signs.Close) alive (sign_alive signs.Close)

  pub keyword_then_alive : (k : Keyword) → GoesOn (λ e. behind (keyword k) (W e)) []
  keyword_then_alive k = both_alive (λ u a. a) (λ e. keyword k) W (keyword_alive k) alive

  pub sign_then_alive : (k : Symbol) → GoesOn (λ e. behind (sign k) (W e)) []
  sign_then_alive k = both_alive (λ u a. a) (λ e. sign k) W (sign_alive k) alive

module _ (W : ℕ → Rule Tok Tree) (alive : GoesOn W []) where
  pub exprs_alive : GoesOn (λ e. exprs (W e)) []
  exprs_alive = mapped_alive trees_of (λ e. list_of (W e)) (list_alive W alive)

  pub exprs_closed_alive : GoesOn (λ e. closed (exprs (W e))) []
  exprs_closed_alive = closed_alive (λ e. exprs (W e)) exprs_alive

  pub arguments_alive : GoesOn (λ e. arguments (W e)) []
  arguments_alive =
      first_alive (next_in kind (sign_code signs.Close ∷ [])) (λ e. mapped (λ u. no_tree) (sign signs.Close)) (λ e. closed (exprs (W e)))
      (mapped_alive (λ u. no_tree) (λ e. sign signs.Close) (sign_alive signs.Close))

pub names_in_lawful : (d : ℕ) → Lawful kind (shape (sign_code signs.Open ∷ []) false [] true) (λ e. names_in e) d
names_in_lawful d =
    in_parentheses_lawful (λ e. closed (list_of a_name)) (closed_alive (λ e. list_of a_name) (list_alive (λ e. a_name) (one_alive takes_name))) d
    (λ k e. closed_lawful (list_lawful (name_lawful k) refl refl refl) refl) refl

-- ---- texts that never begin with a pair of tokens, with a part behind them that may be left out
pub never_before_option : {A B C : Type 0} (f : A → B → C) {set other after first' : List ℕ} (opt : List ℕ) (b : B) {P : ℕ → Rule Tok A} {Q : ℕ → Rule Tok B} → Never kind set other after P
    → Starts kind first' Q → apart first' after ≡ true → Never kind set other after (λ e. both f (P e) (optional kind opt b (Q e)))
never_before_option f {after = after} {first' = first'} opt b p q out = record {
  holds = λ e c ts rest h n. p.holds e h.0 ts h.2 h.4 (elim h.5 [ inl k ↦ next_apart kind h.2 first' after out (q.holds e h.1 h.2 rest k) | inr k ↦ rw k.1 n ]);
}
