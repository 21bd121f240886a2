-- Rules that have a text, where enough may be opened.
use Rattle.std.proofs.Common.{ℕ, ◌+◌, inl, inr, Bool, List, [], ◌∷◌, ◌++◌, append_assoc, Option, refl, arith}
use Rattle.sql_grammar.specs.Grammar.{first}
use Rattle.sql_grammar.specs.Rule.{Rule, expect, both, either_by, pure, mapped, chain_by}
use Rattle.sql_grammar.proofs.Lawful.{GoesOn}
use Rattle.sql_grammar.proofs.Single.{Takes}

module _ {T : Type 0} where
  pub one_alive : {A : Type 0} {kind : T → ℕ} {f : T → Option A} {set : List ℕ} → Takes kind f set → GoesOn (λ e. expect f) []
  one_alive t = (0, λ e m tail. (t.token ∷ [], t.value, (t.token, refl, t.taken)))

  pub pure_alive : {A : Type 0} (a : A) → GoesOn (λ e. pure {T = T} a) []
  pure_alive a = (0, λ e m tail. ([], a, (refl, refl)))

  pub both_alive : {A B C : Type 0} (f : A → B → C) (P : ℕ → Rule T A) (Q : ℕ → Rule T B) → GoesOn P [] → GoesOn Q [] → GoesOn (λ e. both f (P e) (Q e)) []
  both_alive f P Q p q = (
    p.0 + q.0,
    λ e m tail.
        let z = q.1 e (omega arith) tail in
        let y = p.1 e (omega arith) (z.0 ++ tail) in
        (y.0 ++ z.0, f y.1 z.1, rw append_assoc (y.1, z.1, z.0 ++ tail, refl, y.2, z.2)),
  )

  pub first_alive : {A : Type 0} (test : List T → Bool) (P Q : ℕ → Rule T A) → GoesOn P [] → GoesOn (λ e. either_by test (P e) (Q e)) []
  first_alive test P Q p = (p.0, λ e m tail. let z = p.1 e m tail in (z.0, z.1, inl z.2))

  pub other_alive : {A : Type 0} (test : List T → Bool) (P Q : ℕ → Rule T A) → GoesOn Q [] → GoesOn (λ e. either_by test (P e) (Q e)) []
  other_alive test P Q p = (p.0, λ e m tail. let z = p.1 e m tail in (z.0, z.1, inr z.2))

  pub mapped_alive : {A B : Type 0} (f : A → B) (P : ℕ → Rule T A) → GoesOn P [] → GoesOn (λ e. mapped f (P e)) []
  mapped_alive f P p = (p.0, λ e m tail. let z = p.1 e m tail in (z.0, f z.1, (z.1, refl, z.2)))

  pub chain_alive : {A B : Type 0} (kind : T → ℕ) (f : A → B → A) (set : List ℕ) (P : ℕ → Rule T A) (S : ℕ → A → Rule T B) → GoesOn P [] → GoesOn (λ e. chain_by kind f set (P e) (S e)) []
  chain_alive kind f set P S p = (p.0, λ e m tail. let z = p.1 e m tail in (z.0, z.1, first z.2))
