-- Rules that the next two tokens tell apart: texts that begin with a pair, and texts that never do. Nothing here asks for
-- the laws of a rule that nests, so that it can be used while those are proved.
use Rattle.std.proofs.Common.{◌≡◌, ℕ, zero, suc, inl, inr, Bool, true, false, ◌&&◌, List, [], ◌∷◌, ◌++◌, Option, refl}
use Rattle.sql_grammar.specs.Sets.{member, within, apart, next_in, next_two_in}
use Rattle.sql_grammar.specs.Grammar.{Chain, first, next}
use Rattle.sql_grammar.specs.Rule.{Rule, expect, both, either_by, mapped, opened, chain_by}
use Rattle.sql_grammar.proofs.Lists.{next_within, next_apart, next_not_within, next_left, next_right, within_member}
use Rattle.sql_grammar.proofs.Lawful.{Shape, Lawful}
use Rattle.sql_grammar.proofs.Single.{Takes}
use Rattle.sql_grammar.proofs.Choice.{Never, Always}

and_true : (a b : Bool) → a ≡ true → b ≡ true → (a && b) ≡ true
and_true true b e f = f
and_true false b e f = e

and_false : (a b : Bool) → b ≡ false → (a && b) ≡ false
and_false true b e = e
and_false false b e = refl

pair_not : {T : Type 0} (kind : T → ℕ) (set other : List ℕ) (ts : List T) → next_in kind set ts ≡ false → next_two_in kind set other ts ≡ false
pair_not kind set other [] e = refl
pair_not kind set other (t ∷ ts) e = rw e refl

-- each text begins with a token of the set
pub record Starts {T A : Type 0} (kind : T → ℕ) (set : List ℕ) (rule : ℕ → Rule T A) : Type 0 where
  pub holds : (e : ℕ) (a : A) (ts rest : List T) → (rule e).texts a ts rest → next_in kind set ts ≡ true

module _ {T : Type 0} {kind : T → ℕ} where
  pub starts_one : {A : Type 0} {f : T → Option A} {set : List ℕ} → Takes kind f set → Starts kind set (λ e. expect f)
  starts_one t = record { holds = λ e a ts rest g. rw g.1 (t.takes g.0 a g.2) }

  pub starts_both : {A B C : Type 0} {set : List ℕ} (f : A → B → C) {P : ℕ → Rule T A} (Q : ℕ → Rule T B) → Starts kind set P → Starts kind set (λ e. both f (P e) (Q e))
  starts_both f Q p = record { holds = λ e c ts rest g. p.holds e g.0 ts g.2 g.4 }

  pub starts_mapped : {A B : Type 0} {set : List ℕ} (f : A → B) {P : ℕ → Rule T A} → Starts kind set P → Starts kind set (λ e. mapped f (P e))
  starts_mapped f p = record { holds = λ e b ts rest g. p.holds e g.0 ts rest g.2 }

  opened_starts : {A B C : Type 0} {f : T → Option A} {set : List ℕ} → Takes kind f set → (g : A → B → C) (R : ℕ → Rule T B) (e : ℕ) (c : C) (ts rest : List T)
      → (opened e f g (R e)).texts c ts rest → next_in kind set ts ≡ true
  opened_starts t g R zero c ts rest h = absurd h
  opened_starts t g R (suc e) c ts rest h = rw h.4.1 (t.takes h.4.0 h.0 h.4.2)

  pub starts_opened : {A B C : Type 0} {f : T → Option A} {set : List ℕ} → Takes kind f set → (g : A → B → C) (R : ℕ → Rule T B) → Starts kind set (λ e. opened e f g (R e))
  starts_opened t g R = record { holds = opened_starts t g R }

  pub starts_either : {A : Type 0} (test : List T → Bool) {set set' : List ℕ} {P Q : ℕ → Rule T A} → Starts kind set P → Starts kind set' Q → Starts kind (set ++ set') (λ e. either_by test (P e) (Q e))
  starts_either test {set = set} {set' = set'} p q = record {
    holds = λ e a ts rest g. elim g [ inl k ↦ next_left kind ts set set' (p.holds e a ts rest k) | inr k ↦ next_right kind ts set set' (q.holds e a ts rest k) ];
  }

  -- a token of the one set, and behind it what begins with the other
  pub always_pair : {A B C : Type 0} {f : T → Option A} {words starts : List ℕ} (g : A → B → C) (set other : List ℕ) {Q : ℕ → Rule T B} → Takes kind f words → Starts kind starts Q
      → within words set ≡ true → within starts other ≡ true → Always kind set other (λ e. both g (expect f) (Q e))
  always_pair {words = words} {starts = starts} g set other word q in' in'' = record {
    holds = λ e c ts rest h.
        let w = within_member (kind h.4.0) words set in' (word.takes h.4.0 h.0 h.4.2) in
        let n = next_within kind h.2 starts other in'' (q.holds e h.1 h.2 rest h.5) in
        rw h.4.1 (and_true (member (kind h.4.0) set) (next_in kind other h.2) w n);
  }

  -- what goes on behind such texts
  pub always_both : {A B C : Type 0} {set other : List ℕ} (f : A → B → C) {P : ℕ → Rule T A} (Q : ℕ → Rule T B) → Always kind set other P → Always kind set other (λ e. both f (P e) (Q e))
  always_both f Q p = record { holds = λ e c ts rest h. p.holds e h.0 ts h.2 h.4 }

  pub always_either : {A : Type 0} (test : List T → Bool) {set other : List ℕ} {P Q : ℕ → Rule T A} → Always kind set other P → Always kind set other Q → Always kind set other (λ e. either_by test (P e) (Q e))
  always_either test p q = record { holds = λ e a ts rest g. elim g [ inl k ↦ p.holds e a ts rest k | inr k ↦ q.holds e a ts rest k ] }

  pub always_mapped : {A B : Type 0} {set other : List ℕ} (f : A → B) {P : ℕ → Rule T A} → Always kind set other P → Always kind set other (λ e. mapped f (P e))
  always_mapped f p = record { holds = λ e b ts rest g. p.holds e g.0 ts rest g.2 }

  chain_always : {A B : Type 0} (f : A → B → A) {set other : List ℕ} {P : ℕ → Rule T A} (S : ℕ → A → Rule T B) → Always kind set other P → {e : ℕ} {a : A} {ts rest : List T}
      → Chain f (P e).texts (λ b. (S e b).texts) a ts rest → next_two_in kind set other ts ≡ true
  chain_always f S p {e = e} (first {a = a} {ts = ts} {rest = rest} g) = p.holds e a ts rest g
  chain_always f S p (next b c k) = chain_always f S p c

  pub always_chain : {A B : Type 0} (f : A → B → A) (steps' : List ℕ) {set other : List ℕ} {P : ℕ → Rule T A} (S : ℕ → A → Rule T B) → Always kind set other P → Always kind set other (λ e. chain_by kind f steps' (P e) (S e))
  always_chain f steps' S p = record { holds = λ e a ts rest c. chain_always f S p c }

  -- texts that begin with other tokens
  pub never_first : {A : Type 0} {starts : List ℕ} (set other after : List ℕ) {P : ℕ → Rule T A} → Starts kind starts P → apart starts set ≡ true → Never kind set other after P
  never_first {starts = starts} set other after p out = record { holds = λ e a ts rest g h. pair_not kind set other ts (next_apart kind ts starts set out (p.holds e a ts rest g)) }

  -- one token alone
  pub never_one : {A : Type 0} (f : T → Option A) (set other after : List ℕ) → within other after ≡ true → Never kind set other after (λ e. expect f)
  never_one f set other after in' = record {
    holds = λ e a ts rest g h.
        rw g.1 (and_false (member (kind g.0) set) (next_in kind other rest) (next_not_within kind rest other after in' h));
  }

  -- a token, and behind it what does not begin with the other set
  pub never_pair : {A B C : Type 0} (f : T → Option A) (g : A → B → C) (set other after : List ℕ) {s : Shape} {Q : ℕ → Rule T B} → ((e : ℕ) → Lawful kind s Q e) → apart s.first other ≡ true
      → within other after ≡ true → Never kind set other after (λ e. both g (expect f) (Q e))
  never_pair f g set other after {s = s} l out in' = record {
    holds = λ e c ts rest h n.
        let m : next_in kind other h.2 ≡ false = elim ((l e).begins h.1 h.2 rest h.5) [
          | inl k ↦ next_apart kind h.2 s.first other out k.0
          | inr k ↦ rw k.1 (next_not_within kind rest other after in' n)
        ] in
        rw h.4.1 (and_false (member (kind h.4.0) set) (next_in kind other h.2) m);
  }

  pub never_either : {A : Type 0} (test : List T → Bool) {set other after : List ℕ} {P Q : ℕ → Rule T A} → Never kind set other after P → Never kind set other after Q
      → Never kind set other after (λ e. either_by test (P e) (Q e))
  never_either test p q = record { holds = λ e a ts rest g h. elim g [ inl k ↦ p.holds e a ts rest k h | inr k ↦ q.holds e a ts rest k h ] }

  pub never_mapped : {A B : Type 0} (f : A → B) {set other after : List ℕ} {P : ℕ → Rule T A} → Never kind set other after P → Never kind set other after (λ e. mapped f (P e))
  never_mapped f p = record { holds = λ e b ts rest g h. p.holds e g.0 ts rest g.2 h }

  pub never_same : {A : Type 0} {set other after : List ℕ} (P : ℕ → Rule T A) {Q : ℕ → Rule T A} → ((e : ℕ) → P e ≡ Q e) → Never kind set other after Q → Never kind set other after P
  never_same P same q = record { holds = λ e a ts rest g h. q.holds e a ts rest (rw (same e) at g) h }

  pub never_wider : {A : Type 0} {set other after : List ℕ} (wider : List ℕ) {P : ℕ → Rule T A} → Never kind set other after P → within after wider ≡ true → Never kind set other wider P
  never_wider {after = after} wider p in' = record { holds = λ e a ts rest g h. p.holds e a ts rest g (next_not_within kind rest after wider in' h) }

  -- a first value that does not, with steps behind it
  module _ {A B : Type 0} (f : A → B → A) (steps' : List ℕ) {set other after first' : List ℕ} {P : ℕ → Rule T A} {S : ℕ → A → Rule T B} (p : Never kind set other after P)
      (ls : (a : A) → Starts kind first' (λ e. S e a)) (out : apart first' after ≡ true) where
    chain_never : {e : ℕ} {a : A} {ts rest : List T} → Chain f (P e).texts (λ b. (S e b).texts) a ts rest → next_in kind after rest ≡ false → next_two_in kind set other ts ≡ false
    chain_never {e = e} (first {a = a} {ts = ts} {rest = rest} g) h = p.holds e a ts rest g h
    chain_never {e = e} (next {a = a} {ts = ts} {mid = mid} {rest = rest} b c k) h = chain_never c (next_apart kind mid first' after out ((ls a).holds e b mid rest k))

    pub never_chain : Never kind set other after (λ e. chain_by kind f steps' (P e) (S e))
    never_chain = record { holds = λ e a ts rest c h. chain_never c h }
