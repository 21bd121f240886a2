-- Steps one after the other.
use Rattle.std.proofs.Common.{◌≡◌, ℕ, ◌+◌, ◌≤◌, List, [], ◌∷◌, ◌++◌, length, take, drop, Option, Some, None, refl, sym, ◌∙◌, ap, arith, append_assoc}
use Rattle.std.specs.Option.{option_and_then}
use Rattle.std.proofs.lemmas.List.{length-append, length-take-le, take_at, take-append-drop}
use Rattle.durable_runs.specs.Runs.{Side, behind_steps}

pub some_same : {A : Type 0} (a b : A) → Some a ≡ Some b → a ≡ b
some_same a b e = cc

module _ {S X : Type 0} (side : Side S X) where
  first_append : (first : Option S) (xs ys : List X)
      → ((s : S) → behind_steps side (xs ++ ys) s ≡ option_and_then (behind_steps side ys) (behind_steps side xs s))
      → option_and_then (behind_steps side (xs ++ ys)) first ≡ option_and_then (behind_steps side ys) (option_and_then (behind_steps side xs) first)
  first_append None xs ys rest = refl
  first_append (Some s) xs ys rest = rest s

  pub steps_append : (xs ys : List X) (s : S) → behind_steps side (xs ++ ys) s ≡ option_and_then (behind_steps side ys) (behind_steps side xs s)
  steps_append [] ys s = refl
  steps_append (x ∷ xs) ys s = first_append (side.step x s) xs ys (steps_append xs ys)

  pub steps_behind : (xs ys : List X) (s mid : S) → behind_steps side xs s ≡ Some mid → behind_steps side (xs ++ ys) s ≡ behind_steps side ys mid
  steps_behind xs ys s mid e = steps_append xs ys s ∙ ap (option_and_then (behind_steps side ys)) e

  -- where all steps are made, the first are
  parted : (first : Option S) (ys : List X) (now : S) → option_and_then (behind_steps side ys) first ≡ Some now
      → (mid : S) × ((first ≡ Some mid) × (behind_steps side ys mid ≡ Some now))
  parted None ys now e = cc
  parted (Some mid) ys now e = (mid, (refl, e))

  pub steps_part : (xs ys : List X) (s now : S) → behind_steps side (xs ++ ys) s ≡ Some now
      → (mid : S) × ((behind_steps side xs s ≡ Some mid) × (behind_steps side ys mid ≡ Some now))
  steps_part xs ys s now e = parted (behind_steps side xs s) ys now (sym (steps_append xs ys s) ∙ e)

-- ---- the first of steps

pub take_past : {X : Type 0} (xs ys : List X) (k : ℕ) → k ≤ length ys → take (length xs + k) (xs ++ ys) ≡ xs ++ take k ys
take_past {X} xs ys k le =
    let size : length (xs ++ take k ys) ≡ length xs + k = omega (arith, length-append xs (take k ys), length-take-le k ys le) in
    ap (λ (l : List X). take (length xs + k) (xs ++ l)) (sym (take-append-drop k ys))
    ∙ ap (λ (l : List X). take (length xs + k) l) (sym (append_assoc xs (take k ys) (drop k ys)))
    ∙ take_at (xs ++ take k ys) (drop k ys) (length xs + k) size
