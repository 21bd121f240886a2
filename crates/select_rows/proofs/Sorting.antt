-- One list is in order and keeps ties as they stood: the one that the definition gives.
use Rattle.std.proofs.Common.{◌≡◌, ℕ, suc, ◌<◌, List, [], ◌∷◌, length, get_or, Bool, true, false, not, cond, refl, sym, ap, ◌∙◌, arith, add-one}
use Rattle.std.specs.Cmp.{IsStrictWeakOrder}
use Rattle.std.specs.List.{filter}
use Rattle.std.specs.List.Sorted.{IsSortedBy, IsStableBy, ties}
use Rattle.std.proofs.lemmas.Bool.{false_from_ne_true, true≢false, and_parts, not-true}
use Rattle.std.proofs.lemmas.List.Sorted.{sorted_far}
use Rattle.value_rules.specs.Selecting.{in_order}
use Rattle.value_rules.proofs.Sorting.{Least, Sorted, sorted_in_order, kept_in_order}

module _ {X : Type 0} (lt : X → X → Bool) (o : IsStrictWeakOrder lt) where
  irreflexive : (x : X) → lt x x ≡ false
  irreflexive x = false_from_ne_true (lt x x) (λ e. true≢false (sym e ∙ o.one_way x x e))

  least_from : (x : X) (xs : List X) → ((j : ℕ) (d : X) → j < length xs → lt (get_or xs j d) x ≡ false) → Least lt o x xs
  least_from x [] f = tt
  least_from x (y ∷ ys) f = (f 0 y (omega arith), least_from x ys (λ j d h. f (suc j) d (omega arith)))

  sorted_tail : (x : X) (xs : List X) → IsSortedBy lt (x ∷ xs) → IsSortedBy lt xs
  sorted_tail x xs up k d low high = rw add-one (rw add-one at (up (suc k) d (omega arith) (omega arith)))

  sorted_from : (xs : List X) → IsSortedBy lt xs → Sorted lt o xs
  sorted_from [] up = tt
  sorted_from (x ∷ xs) up =
      (least_from x xs (λ j d h. sorted_far lt o (x ∷ xs) up 0 (suc j) d (omega arith) (omega arith)), sorted_from xs (sorted_tail x xs up))

  ties_self : (x : X) → ties lt x x ≡ true
  ties_self x = rw (irreflexive x) refl

  -- what a filter finds does not come before the least
  found_step : (p : X → Bool) (z w : X) (ws : List X) (v : X) (vs : List X) (b : Bool) → p w ≡ b → lt w z ≡ false
      → (filter p ws ≡ v ∷ vs → (u : X) × (p u ≡ true) × (lt u z ≡ false)) → cond b (w ∷ filter p ws) (filter p ws) ≡ v ∷ vs
      → (u : X) × (p u ≡ true) × (lt u z ≡ false)
  found_step p z w ws v vs true e least rest h = (w, e, least)
  found_step p z w ws v vs false e least rest h = rest h

  found_behind : (p : X → Bool) (z : X) (ws : List X) (v : X) (vs : List X) → Least lt o z ws → filter p ws ≡ v ∷ vs → (u : X) × (p u ≡ true) × (lt u z ≡ false)
  found_behind p z [] v vs least h = cc
  found_behind p z (w ∷ ws) v vs least h = found_step p z w ws v vs (p w) refl least.0 (found_behind p z ws v vs least.1) h

  -- the least of a list is not behind the least of another that has what ties with it
  not_behind : (y z : X) (ys zs : List X) → Least lt o z zs → filter (ties lt y) (y ∷ ys) ≡ filter (ties lt y) (z ∷ zs) → lt y z ≡ false
  not_behind y z ys zs least same =
      let begins : filter (ties lt y) (z ∷ zs) ≡ y ∷ filter (ties lt y) ys = sym same ∙ ap (λ (b : Bool). cond b (y ∷ filter (ties lt y) ys) (filter (ties lt y) ys)) (ties_self y) in
      let found = found_behind (ties lt y) z (z ∷ zs) y (filter (ties lt y) ys) (irreflexive z, least) begins in
      o.chain y found.0 z (not-true (lt y found.0) (and_parts (not (lt y found.0)) (not (lt found.0 y)) found.1).0) found.2

  tail_step : (x y : X) (ys zs : List X) (b : Bool) → cond b (y ∷ filter (ties lt x) ys) (filter (ties lt x) ys) ≡ cond b (y ∷ filter (ties lt x) zs) (filter (ties lt x) zs)
      → filter (ties lt x) ys ≡ filter (ties lt x) zs
  tail_step x y ys zs true e = cc
  tail_step x y ys zs false e = e

  first_same : (y z : X) (ys zs : List X) → Least lt o y ys → Least lt o z zs → ((x : X) → filter (ties lt x) (y ∷ ys) ≡ filter (ties lt x) (z ∷ zs)) → y ≡ z
  first_same y z ys zs least_y least_z same =
      let forth : lt y z ≡ false = not_behind y z ys zs least_z (same y) in
      let back : lt z y ≡ false = not_behind z y zs ys least_y (sym (same z)) in
      let tie : ties lt y z ≡ true = rw (forth, back) refl in
      let left : filter (ties lt y) (y ∷ ys) ≡ y ∷ filter (ties lt y) ys = ap (λ (b : Bool). cond b (y ∷ filter (ties lt y) ys) (filter (ties lt y) ys)) (ties_self y) in
      let right : filter (ties lt y) (z ∷ zs) ≡ z ∷ filter (ties lt y) zs = ap (λ (b : Bool). cond b (z ∷ filter (ties lt y) zs) (filter (ties lt y) zs)) tie in
      let firsts : y ∷ filter (ties lt y) ys ≡ z ∷ filter (ties lt y) zs = sym left ∙ same y ∙ right in
      cc

  same_sorted : (ys zs : List X) → Sorted lt o ys → Sorted lt o zs → ((x : X) → filter (ties lt x) ys ≡ filter (ties lt x) zs) → ys ≡ zs
  same_sorted [] [] p q same = refl
  same_sorted [] (z ∷ zs) p q same =
      let h : [] ≡ z ∷ filter (ties lt z) zs = same z ∙ ap (λ (b : Bool). cond b (z ∷ filter (ties lt z) zs) (filter (ties lt z) zs)) (ties_self z) in cc
  same_sorted (y ∷ ys) [] p q same =
      let h : [] ≡ y ∷ filter (ties lt y) ys = sym (same y) ∙ ap (λ (b : Bool). cond b (y ∷ filter (ties lt y) ys) (filter (ties lt y) ys)) (ties_self y) in cc
  same_sorted (y ∷ ys) (z ∷ zs) p q same =
      let first : y ≡ z = first_same y z ys zs p.0 q.0 same in
      let again : (x : X) → filter (ties lt x) (y ∷ ys) ≡ filter (ties lt x) (y ∷ zs) = λ x. same x ∙ ap (λ (w : X). filter (ties lt x) (w ∷ zs)) (sym first) in
      let rest : ys ≡ zs = same_sorted ys zs p.1 q.1 (λ x. tail_step x y ys zs (ties lt x y) (again x)) in
      cc

  -- what a stable sort gives is what the definition gives
  pub stable_sort : (xs ys : List X) → IsSortedBy lt ys → IsStableBy lt xs ys → ys ≡ in_order lt xs
  stable_sort xs ys up stable = same_sorted ys (in_order lt xs) (sorted_from ys up) (sorted_in_order lt o xs) (λ x. stable x ∙ sym (kept_in_order lt o x xs))
