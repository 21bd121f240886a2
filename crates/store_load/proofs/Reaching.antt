-- How far a store has come behind a record.
use Rattle.std.proofs.Common.{◌≡◌, ℕ, ◌-◌, ◌<◌, ◌≤◌, zero, suc, List, [], ◌∷◌, ◌++◌, length, refl, ◌∙◌, ap, arith}
use Rattle.std.specs.Prelude.{slice_set}
use Rattle.store_model.specs.sql_reach.catalog_rules.Bases.{Base}
use Rattle.store_model.specs.log_model.Log.{LogPlace}
use Rattle.store_model.specs.Held.{LogEnd, Held, with_last_end}
use Rattle.store_load.specs.Loading.{ends_at}

set_at : (pos : ℕ) (ends : List ℕ) (n : ℕ) → length ends ≡ suc n → ends_at (slice_set ends n pos) ≡ with_last_end pos (ends_at ends)
set_at pos [] n is = absurd (omega (arith, is))
set_at pos (e ∷ []) zero is = refl
set_at pos (e ∷ []) (suc n) is = absurd (omega (arith, is))
set_at pos (e ∷ f ∷ ends) zero is = absurd (omega (arith, is))
set_at pos (e ∷ f ∷ ends) (suc n) is = ap (λ (more : List LogEnd). record { pos = e } ∷ more) (set_at pos (f ∷ ends) n (omega (arith, is)))

pub last_set : (pos count : ℕ) (ends : List ℕ) → count ≡ length ends → 0 < count → ends_at (slice_set ends (count - 1) pos) ≡ with_last_end pos (ends_at ends)
last_set pos count ends is some = set_at pos ends (count - 1) (omega (arith, is))

pub none_set : (pos : ℕ) (ends : List ℕ) → length ends ≤ 0 → ends_at ends ≡ with_last_end pos (ends_at ends)
none_set pos [] none = refl
none_set pos (e ∷ ends) none = absurd (omega arith)

more_ends : (ends more : List ℕ) → ends_at (ends ++ more) ≡ ends_at ends ++ ends_at more
more_ends [] more = refl
more_ends (e ∷ ends) more = ap (λ (rest : List LogEnd). record { pos = e } ∷ rest) (more_ends ends more)

abbrev held_with : Base → ℕ → LogPlace → List LogEnd → Held
held_with base number place ends = record { base = base; number = number; ends = ends; place = place }

pub with_ends : (base : Base) (number : ℕ) (place : LogPlace) (ends more : List LogEnd) → ends ≡ more → held_with base number place ends ≡ held_with base number place more
with_ends base number place ends more same = ap (held_with base number place) same

pub one_begun : (ends set now : List ℕ) (pos old_end : ℕ) → ends_at set ≡ with_last_end old_end (ends_at ends) → now ≡ set ++ pos ∷ []
    → ends_at now ≡ with_last_end old_end (ends_at ends) ++ record { pos = pos } ∷ []
one_begun ends set now pos old_end last is =
    ap (λ (es : List ℕ). ends_at es) is ∙ more_ends set (pos ∷ []) ∙ ap (λ (es : List LogEnd). es ++ record { pos = pos } ∷ []) last
