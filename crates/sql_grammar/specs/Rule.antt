-- Rules of a grammar: the relation, its fronts and the reading function by one definition.
use Rattle.std.specs.Prelude.{◌≡◌, ℕ, zero, suc, ◌⊎◌, Bool, true, false, List, [], ◌∷◌, ◌++◌, Option, Some, None, Ok, Err}
use Rattle.sql_grammar.specs.Sets.{member, next_in, next_two_in}
use Rattle.sql_grammar.specs.Reader.{Reader, Syntax, read_one, refuse_one, read_both, read_either, read_chain, read_mapped, read_with_tokens}
use Rattle.sql_grammar.specs.Grammar.{Grammar, Fronts, One, OneFronts, Both, BothFronts, Pure, Mapped, WithTokens, Chain, ChainFronts}

-- A rule for values: its texts, what they may begin with, and how they are read.
pub record Rule (T A : Type 0) : Type 1 where
  pub texts : Grammar T A
  pub fronts : Fronts T
  pub read : Reader T A

-- one token that the function takes
abbrev pub expect : {T A : Type 0} → (T → Option A) → Rule T A
expect f = record { texts = One f; fronts = OneFronts f; read = read_one f }

-- a value that may be there, where something holds
abbrev pub only_then : {A : Type 0} → Bool → Option A → Option A
only_then true o = o
only_then false o = None

-- the value of a token, where it is of one of these kinds and has one
abbrev pub of_kinds : {T A : Type 0} → (T → ℕ) → List ℕ → (T → Option A) → T → Option A
of_kinds kind set value t = only_then (member (kind t) set) (value t)

-- a token of one of these kinds, which has a value
abbrev pub token : {T A : Type 0} → (T → ℕ) → List ℕ → (T → Option A) → Rule T A
token kind set value = expect (of_kinds kind set value)

-- any token of this kind
abbrev pub any_of : {T : Type 0} → (T → ℕ) → ℕ → T → Option (Unit {0})
any_of kind k = of_kinds kind (k ∷ []) (λ t. Some tt)

-- a token of this kind
abbrev pub word : {T : Type 0} → (T → ℕ) → ℕ → Rule T (Unit {0})
word kind k = expect (any_of kind k)

-- one rule behind another
abbrev pub both : {T A B C : Type 0} → (A → B → C) → Rule T A → Rule T B → Rule T C
both f r s = record {
  texts = Both f r.texts s.texts;
  fronts = BothFronts r.texts r.fronts s.fronts;
  read = read_both f r.read s.read;
}

-- one rule or another: the first is read where the test of what comes next holds
abbrev pub either_by : {T A : Type 0} → (List T → Bool) → Rule T A → Rule T A → Rule T A
either_by test r s = record {
  texts = λ a ts rest. r.texts a ts rest ⊎ s.texts a ts rest;
  fronts = λ ts. r.fronts ts ⊎ s.fronts ts;
  read = read_either test r.read s.read;
}

-- one rule or another, told apart by the kind of the next token: those of the first are in the set
abbrev pub either : {T A : Type 0} → (T → ℕ) → List ℕ → Rule T A → Rule T A → Rule T A
either kind set = either_by (next_in kind set)

-- one rule or another, told apart by the kinds of the next two tokens
abbrev pub either_by_two : {T A : Type 0} → (T → ℕ) → List ℕ → List ℕ → Rule T A → Rule T A → Rule T A
either_by_two kind set other = either_by (next_two_in kind set other)

-- nothing, which stands for the value
abbrev pub pure : {T A : Type 0} → A → Rule T A
pure a = record { texts = Pure a; fronts = λ ts. ts ≡ []; read = λ ts. Ok (a, ts) }

-- no text at all
abbrev pub refused : {T A : Type 0} → Rule T A
refused = record { texts = λ a ts rest. ⊥; fronts = λ ts. ts ≡ []; read = λ ts. Err (Syntax ts) }

-- the rule, where it is allowed
abbrev pub only_if : {T A : Type 0} → Bool → Rule T A → Rule T A
only_if true r = r
only_if false r = refused

-- the value with a function applied
abbrev pub mapped : {T A B : Type 0} → (A → B) → Rule T A → Rule T B
mapped f r = record { texts = Mapped f r.texts; fronts = r.fronts; read = read_mapped f r.read }

-- a value made of the value and of the tokens that it was read from
abbrev pub with_tokens : {T A B : Type 0} → (A → List T → B) → Rule T A → Rule T B
with_tokens f r = record { texts = WithTokens f r.texts; fronts = r.fronts; read = read_with_tokens f r.read }

-- A construct that its first token opens, with as many constructs as the number says still to be opened. Where there are none,
-- the token is one too many.
abbrev pub opened : {T A B C : Type 0} → ℕ → (T → Option A) → (A → B → C) → Rule T B → Rule T C
opened zero f g r = record { texts = λ c ts rest. ⊥; fronts = λ ts. ts ≡ []; read = refuse_one f }
opened (suc n) f g r = both g (expect f) r

-- A first value and steps behind it, as long as the kind of the next token is in the set. The rule of a step may depend
-- on the value so far.
abbrev pub chain_by : {T A B : Type 0} → (T → ℕ) → (A → B → A) → List ℕ → Rule T A → (A → Rule T B) → Rule T A
chain_by kind f set r s = record {
  texts = Chain f r.texts (λ a. (s a).texts);
  fronts = ChainFronts f r.texts (λ a. (s a).texts) r.fronts (λ a. (s a).fronts);
  read = read_chain f (next_in kind set) r.read (λ a. (s a).read);
}

-- a first value and steps behind it, all by one rule
abbrev pub chain : {T A B : Type 0} → (T → ℕ) → (A → B → A) → List ℕ → Rule T A → Rule T B → Rule T A
chain kind f set r s = chain_by kind f set r (λ a. s)

-- the rule, or nothing, which stands for the value
abbrev pub optional : {T A : Type 0} → (T → ℕ) → List ℕ → A → Rule T A → Rule T A
optional kind set a r = either kind set r (pure a)

-- the steps, none or more, from a value on
abbrev pub repeated : {T A B : Type 0} → (T → ℕ) → (A → B → A) → List ℕ → A → Rule T B → Rule T A
repeated kind f set a r = chain kind f set (pure a) r

-- both values of two rules
abbrev pub paired : {A B : Type 0} → A → B → A × B
paired a b = (a, b)

-- the value of the second of two rules
abbrev pub behind : {T A B : Type 0} → Rule T A → Rule T B → Rule T B
behind = both (λ a b. b)

-- the value of the first of two rules
abbrev pub before : {T A B : Type 0} → Rule T A → Rule T B → Rule T A
before = both (λ a b. a)

-- one value
abbrev pub alone : {A : Type 0} → A → List A
alone a = a ∷ []

-- a value behind those so far
abbrev pub then_one : {A : Type 0} → List A → A → List A
then_one as' a = as' ++ a ∷ []

-- one or more, with separators of these kinds between
abbrev pub listed : {T A B : Type 0} → (T → ℕ) → List ℕ → Rule T B → Rule T A → Rule T (List A)
listed kind set separator r = chain kind then_one set (mapped alone r) (behind separator r)
