-- Rules keep to what they take: from good tokens come good values, and what is left is good.
use Rattle.std.proofs.Common.{◌≡◌, ℕ, zero, suc, Bool, true, false, List, [], ◌∷◌, ◌++◌, Option, Some, None, refl, sym, subst, inl, inr, ◌⊎◌}
use Rattle.std.proofs.lemmas.Bool.{and_from}
use Rattle.std.specs.List.{list_all}
use Rattle.val_types.specs.declared.value.Value.TheVariants.{Text}
use Rattle.sql_lex.specs.declared.keyword.Keyword.{Keyword}
use Rattle.sql_lex.specs.declared.token.Symbol.{Symbol}
use Rattle.sql_grammar.specs.Sets.{member}
use Rattle.sql_grammar.specs.Grammar.{Grammar, One, Both, Pure, Mapped, WithTokens, Chain, first, next}
use Rattle.sql_grammar.specs.Rule.{Rule, only_then, of_kinds, any_of, only_if, opened, paired, then_one, alone}
use Rattle.sql_tree.specs.BuiltIns.{lower_name}
use Rattle.sql_tree.specs.Well.{is_name, is_number, is_literal}
use Rattle.sql_syntax.specs.Tokens.{Tok, key, function_word, plain_name, quoted_name, digits, least_digits, literal_text, mark, tight_minus, broken_minus, kind, code, sign_code, keyword, sign}

-- what the token says may stand in a statement
abbrev pub is_good : Tok → Bool
is_good (key k) = true
is_good (function_word f) = is_name (lower_name f)
is_good (plain_name w) = is_name w
is_good (quoted_name w) = is_name w
is_good (digits n) = is_number n
is_good least_digits = true
is_good (literal_text t) = is_literal (Text t)
is_good (mark s) = true
is_good tight_minus = true
is_good broken_minus = true

abbrev pub AllGood : List Tok → Type 0
AllGood [] = Unit {0}
AllGood (t ∷ ts) = (is_good t ≡ true) × AllGood ts

-- of each value that the grammar takes from good tokens this holds, and good tokens are left
pub record Gives {A : Type 0} (P : A → Type 0) (G : Grammar Tok A) : Type 0 where
  pub gives : (a : A) (ts rest : List Tok) → AllGood ts → G a ts rest → P a × AllGood rest

-- ---- what holds of values
-- nothing in particular
abbrev pub Any : {A : Type 0} → A → Type 0
Any a = Unit {0}

-- of both of a pair
abbrev pub Pair : {A B : Type 0} → (A → Type 0) → (B → Type 0) → A × B → Type 0
Pair P Q x = P x.0 × Q x.1

-- of the value where there is one
abbrev pub IfSome : {A : Type 0} → (A → Type 0) → Option A → Type 0
IfSome P None = Unit {0}
IfSome P (Some a) = P a

-- of each of a list
abbrev pub Each : {A : Type 0} → (A → Type 0) → List A → Type 0
Each P [] = Unit {0}
Each P (a ∷ as') = P a × Each P as'

-- of each of one or more
abbrev pub Some' : {A : Type 0} → (A → Type 0) → List A → Type 0
Some' P [] = ⊥
Some' P (a ∷ as') = P a × Each P as'

module _ {A : Type 0} (P : A → Type 0) where
  pub each_last : (as' : List A) (b : A) → Each P as' → P b → Each P (as' ++ b ∷ [])
  each_last [] b p q = (q, tt)
  each_last (a ∷ as') b p q = (p.0, each_last as' b p.1 q)

  pub some_last : (as' : List A) (b : A) → Some' P as' → P b → Some' P (as' ++ b ∷ [])
  some_last [] b p q = absurd p
  some_last (a ∷ as') b p q = (p.0, each_last as' b p.1 q)

pub each_all : {A : Type 0} (p : A → Bool) (as' : List A) → Each (λ a. p a ≡ true) as' → list_all p as' ≡ true
each_all p [] g = refl
each_all p (a ∷ as') g = and_from (p a) (list_all p as') g.0 (each_all p as' g.1)

-- ---- combinators
module _ {A : Type 0} {P : A → Type 0} where
  pub weaker : {Q : A → Type 0} {G : Grammar Tok A} → ((a : A) → P a → Q a) → Gives P G → Gives Q G
  weaker f r = record { gives = λ a ts rest g t. let k = r.gives a ts rest g t in (f a k.0, k.1) }

  pub one_gives : (f : Tok → Option A) → ((t : Tok) (a : A) → is_good t ≡ true → f t ≡ Some a → P a) → Gives P (One f)
  one_gives f h = record {
    gives = λ a ts rest g x.
        let k : AllGood (x.0 ∷ rest) = subst (λ (z : List Tok). AllGood z) x.1 g in
        (h x.0 a k.0 x.2, k.1);
  }

  pub either_gives : {G H : Grammar Tok A} → Gives P G → Gives P H → Gives P (λ a ts rest. G a ts rest ⊎ H a ts rest)
  either_gives r q = record { gives = λ a ts rest g x. elim x [ inl y ↦ r.gives a ts rest g y | inr y ↦ q.gives a ts rest g y ] }

  pub pure_gives : (a : A) → P a → Gives P (Pure {T = Tok} a)
  pure_gives a p = record { gives = λ b ts rest g x. (subst (λ (z : A). P z) (sym x.0) p, subst (λ (z : List Tok). AllGood z) x.1 g) }

  pub only_gives : (b : Bool) (r : Rule Tok A) → Gives P r.texts → Gives P (only_if b r).texts
  only_gives true r q = q
  only_gives false r q = record { gives = λ a ts rest g x. absurd x }

  pub optional_gives : {G : Grammar Tok A} (a : A) → P a → Gives P G → Gives P (λ b ts rest. G b ts rest ⊎ Pure a b ts rest)
  optional_gives a p r = either_gives r (pure_gives a p)

module _ {A B : Type 0} {P : A → Type 0} {Q : B → Type 0} where
  pub mapped_gives : (f : A → B) {G : Grammar Tok A} → ((a : A) → P a → Q (f a)) → Gives P G → Gives Q (Mapped f G)
  mapped_gives f h r = record {
    gives = λ b ts rest g x. let k = r.gives x.0 ts rest g x.2 in (subst (λ (z : B). Q z) (sym x.1) (h x.0 k.0), k.1);
  }

  pub tokens_give : (f : A → List Tok → B) {G : Grammar Tok A} → ((a : A) (front : List Tok) → P a → Q (f a front)) → Gives P G → Gives Q (WithTokens f G)
  tokens_give f h r = record {
    gives = λ b ts rest g x. let k = r.gives x.0 ts rest g x.4 in (subst (λ (z : B). Q z) (sym x.3) (h x.0 x.1 k.0), k.1);
  }

  pub paired_gives : {G : Grammar Tok A} {H : Grammar Tok B} → Gives P G → Gives Q H → Gives (Pair P Q) (Both paired G H)
  paired_gives r q = record {
    gives = λ c ts rest g x.
        let k = r.gives x.0 ts x.2 g x.4 in
        let j = q.gives x.1 x.2 rest k.1 x.5 in
        (subst (λ (z : A × B). Pair P Q z) (sym x.3) (k.0, j.0), j.1);
  }

  pub behind_gives : {G : Grammar Tok A} {H : Grammar Tok B} → Gives P G → Gives Q H → Gives Q (Both (λ a b. b) G H)
  behind_gives r q = record {
    gives = λ c ts rest g x.
        let k = r.gives x.0 ts x.2 g x.4 in
        let j = q.gives x.1 x.2 rest k.1 x.5 in
        (subst (λ (z : B). Q z) (sym x.3) j.0, j.1);
  }

  pub before_gives : {G : Grammar Tok A} {H : Grammar Tok B} → Gives P G → Gives Q H → Gives P (Both (λ a b. a) G H)
  before_gives r q = record {
    gives = λ c ts rest g x.
        let k = r.gives x.0 ts x.2 g x.4 in
        let j = q.gives x.1 x.2 rest k.1 x.5 in
        (subst (λ (z : A). P z) (sym x.3) k.0, j.1);
  }

module _ {A B C : Type 0} {P : A → Type 0} {Q : B → Type 0} {R : C → Type 0} where
  pub both_gives : (f : A → B → C) {G : Grammar Tok A} {H : Grammar Tok B} → ((a : A) (b : B) → P a → Q b → R (f a b)) → Gives P G → Gives Q H → Gives R (Both f G H)
  both_gives f h r q = record {
    gives = λ c ts rest g x.
        let k = r.gives x.0 ts x.2 g x.4 in
        let j = q.gives x.1 x.2 rest k.1 x.5 in
        (subst (λ (z : C). R z) (sym x.3) (h x.0 x.1 k.0 j.0), j.1);
  }

module _ {A B : Type 0} {P : A → Type 0} {Q : B → Type 0} (f : A → B → A) {G : Grammar Tok A} {H : A → Grammar Tok B} (h : (a : A) (b : B) → P a → Q b → P (f a b)) (r : Gives P G) (q : (a : A) → Gives Q (H a)) where
  chain_goes : {a : A} {ts rest : List Tok} → Chain f G H a ts rest → AllGood ts → P a × AllGood rest
  chain_goes {a = a} {ts = ts} {rest = rest} (first x) g = r.gives a ts rest g x
  chain_goes {rest = rest} (next {a = a} {mid = mid} b c x) g =
      let k = chain_goes c g in
      let j = (q a).gives b mid rest k.1 x in (h a b k.0 j.0, j.1)

  pub chain_gives : Gives P (Chain f G H)
  chain_gives = record { gives = λ a ts rest g c. chain_goes c g }

module _ {A : Type 0} {P : A → Type 0} where
  -- one or more
  pub rows_give : {G : Grammar Tok A} {H : List A → Grammar Tok A} → Gives P G → ((as' : List A) → Gives P (H as')) → Gives (Some' P) (Chain then_one (Mapped alone G) H)
  rows_give r q = chain_gives then_one (some_last P) (mapped_gives alone (λ a p. (p, tt)) r) q

  -- none or more
  pub repeated_gives : {H : List A → Grammar Tok A} → ((as' : List A) → Gives P (H as')) → Gives (Each P) (Chain then_one (Pure []) H)
  repeated_gives q = chain_gives then_one (each_last P) (pure_gives [] tt) q

-- ---- tokens
taken : {A : Type 0} (b : Bool) (o : Option A) (a : A) → only_then b o ≡ Some a → (b ≡ true) × (o ≡ Some a)
taken true o a e = (refl, e)
taken false o a e = cc

said_is : {A : Type 0} (P : A → Type 0) (a b : A) → Some a ≡ Some b → P a → P b
said_is P a b e p = let q : a ≡ b = cc in subst P q p

module _ {A : Type 0} {P : A → Type 0} where
  pub said_gives : (set : List ℕ) (h : Tok → A) → ((t : Tok) → is_good t ≡ true → member (kind t) set ≡ true → P (h t)) → Gives P (One (of_kinds kind set (λ t. Some (h t))))
  said_gives set h f = one_gives (of_kinds kind set (λ t. Some (h t))) (λ t a g e. let k = taken (member (kind t) set) (Some (h t)) a e in said_is P (h t) a k.1 (f t g k.0))

pub any_gives : (k : ℕ) → Gives Any (One (any_of kind k))
any_gives k = one_gives (any_of kind k) (λ t a g e. tt)

pub keyword_gives : (k : Keyword) → Gives Any (keyword k).texts
keyword_gives k = any_gives (code k)

pub sign_gives : (s : Symbol) → Gives Any (sign s).texts
sign_gives s = any_gives (sign_code s)

module _ {B : Type 0} {Q : B → Type 0} {H : Grammar Tok B} (r : Gives Q H) where
  pub key_gives : (k : Keyword) → Gives Q (Both (λ a b. b) (keyword k).texts H)
  key_gives k = behind_gives (keyword_gives k) r

  pub mark_gives : (s : Symbol) → Gives Q (Both (λ a b. b) (sign s).texts H)
  mark_gives s = behind_gives (sign_gives s) r

pub opened_gives : {B C : Type 0} {P : B → Type 0} {Q : C → Type 0} (n k : ℕ) (g : Unit {0} → B → C) (R : Rule Tok B) → ((b : B) → P b → Q (g tt b)) → Gives P R.texts → Gives Q (opened n (any_of kind k) g R).texts
opened_gives zero k g R h r = record { gives = λ c ts rest a x. absurd x }
opened_gives (suc n) k g R h r = both_gives g (λ u b q p. h b p) (any_gives k) r
