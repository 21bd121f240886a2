-- What is read to its last byte.
use Rattle.std.proofs.Common.{◌≡◌, ℕ, true, false, eqb, List, [], ◌∷◌, ◌++◌, length, Some, None, refl, ap, ◌∙◌, arith}
use Rattle.std.proofs.lemmas.Bool.{ne_eqb}
use Rattle.std.proofs.lemmas.List.{map-append}
use Rattle.store_model.specs.Reading.{to_the_end}
use Rattle.store_bodies.specs.Ends.{end_at, ends_at}

module _ {X : Type 0} where
  -- nothing is behind it
  pub ended : (x : X) (rest : List ℕ) → eqb (length rest) 0 ≡ true → to_the_end (Some (x, rest)) ≡ Some x
  ended x [] is = refl
  ended x (b ∷ rest) is =
      let not : eqb (length (b ∷ rest)) 0 ≡ false = ne_eqb _ _ (λ e. omega arith) in
      cc

  -- something is behind it
  pub not_ended : (x : X) (rest : List ℕ) → eqb (length rest) 0 ≡ false → to_the_end (Some (x, rest)) ≡ None
  not_ended x [] is = cc
  not_ended x (b ∷ rest) is = refl

-- ---- ends of logs

-- one more log ends
pub ends_grow : (new places : List ℕ) (pos : ℕ) → new ≡ places ++ (pos ∷ []) → ends_at new ≡ ends_at places ++ (end_at pos ∷ [])
ends_grow new places pos e = ap ends_at e ∙ map-append end_at places (pos ∷ [])
