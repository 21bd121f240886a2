-- The best of some values.
use Rattle.std.proofs.Common.{◌≡◌, ℕ, suc, List, [], ◌∷◌, ◌||◌, ◌&&◌, ◌⊎◌, inl, inr, Bool, true, false, not, cond, Result, Ok, Err, refl, sym, ap, subst, ◌∙◌, arith}
use Rattle.std.specs.Prelude.{IsTrue}
use Rattle.std.specs.Cmp.{IsStrictWeakOrder}
use Rattle.std.specs.List.{list_all, list_any, Contains}
use Rattle.std.proofs.lemmas.Bool.{false_from_ne_true, true≢false}
use Rattle.val_types.specs.declared.value.Value.{Value}
use Rattle.val_types.specs.declared.value.Value.TheVariants.{Null}
use Rattle.val_types.specs.Errors.{kinds_mixed}
use Rattle.val_types.specs.Fitting.{is_null}
use Rattle.value_rules.specs.Selecting.{better, extreme, extreme_of, is_text, is_number, comes_first, IsBest, ExtremesAreBest}
use Rattle.value_rules.proofs.Orders.{comes_first_ranks}

module _ (before : Value → Value → Bool) (o : IsStrictWeakOrder before) where
  -- ---- NULL where all are

  null_step : (nv nb bf : Bool) (best v : Value) → is_null v ≡ nv → is_null best ≡ nb → is_null (cond nv best (cond (nb || bf) v best)) ≡ true → (nb ≡ true) × (nv ≡ true)
  null_step true true bf best v e f h = (refl, refl)
  null_step true false bf best v e f h = absurd (true≢false (sym h ∙ f))
  null_step false true bf best v e f h = absurd (true≢false (sym h ∙ e))
  null_step false false true best v e f h = absurd (true≢false (sym h ∙ e))
  null_step false false false best v e f h = absurd (true≢false (sym h ∙ f))

  all_null : (best : Value) (vs : List Value) → is_null (extreme before best vs) ≡ true → (is_null best ≡ true) × (list_all is_null vs ≡ true)
  all_null best [] h = (h, refl)
  all_null best (v ∷ vs) h =
      let rest = all_null (better before best v) vs h in
      let here = null_step (is_null v) (is_null best) (before v best) best v refl refl rest.0 in
      (here.0, rw here.1 rest.1)

  -- ---- one of them

  later : (v r : Value) (vs : List Value) → Contains vs r → Contains (v ∷ vs) r
  later v r vs k = (suc k.0, omega (arith, k.1), k.2)

  here : (v : Value) (vs : List Value) → Contains (v ∷ vs) v
  here v vs = (0, omega arith, refl)

  choice : (nv c : Bool) (best v r : Value) (vs : List Value) → r ≡ cond nv best (cond c v best) → (r ≡ best) ⊎ (Contains (v ∷ vs) r)
  choice true c best v r vs e = inl e
  choice false true best v r vs e = inr (rw e (here v vs))
  choice false false best v r vs e = inl e

  among : (best : Value) (vs : List Value) → (extreme before best vs ≡ best) ⊎ (Contains vs (extreme before best vs))
  among best [] = inl refl
  among best (v ∷ vs) = elim (among (better before best v) vs) [
    | inl e ↦ choice (is_null v) (is_null best || before v best) best v (extreme before (better before best v) vs) vs e
    | inr k ↦ inr (later v (extreme before (better before best v) vs) vs k)
  ]

  -- ---- none comes before it

  irreflexive : (x : Value) → before x x ≡ false
  irreflexive x = false_from_ne_true (before x x) (λ e. true≢false (sym e ∙ o.one_way x x e))

  -- a value that is NULL or does not come before r
  abbrev Passes : Value → Value → Bool
  Passes r x = is_null x || not (before x r)

  known_passes : (x : Value) (b : Bool) (r : Value) → is_null x ≡ false → before x r ≡ b → Passes r x ≡ true → before x r ≡ false
  known_passes x true r e f h = absurd (true≢false (sym h ∙ rw (e, f) refl))
  known_passes x false r e f h = f

  passes_step : (nv nb bf : Bool) (r best v : Value) → is_null v ≡ nv → is_null best ≡ nb → before v best ≡ bf → Passes r (cond nv best (cond (nb || bf) v best)) ≡ true
      → (Passes r best ≡ true) × (Passes r v ≡ true)
  passes_step true nb bf r best v e f g h = (h, rw e refl)
  passes_step false true bf r best v e f g h = (rw f refl, h)
  passes_step false false true r best v e f g h =
      let mine : before best r ≡ false = o.chain best v r (o.one_way v best g) (known_passes v (before v r) r e refl h) in
      (rw (f, mine) refl, h)
  passes_step false false false r best v e f g h =
      let mine : before v r ≡ false = o.chain v best r g (known_passes best (before best r) r f refl h) in
      (h, rw (e, mine) refl)

  none_before : (best : Value) (vs : List Value) → (Passes (extreme before best vs) best ≡ true) × (list_all (Passes (extreme before best vs)) vs ≡ true)
  none_before best [] = (first (is_null best), refl)
    where
      first : (b : Bool) → (b || not (before best best)) ≡ true
      first true = refl
      first false = rw (irreflexive best) refl
  none_before best (v ∷ vs) =
      let rest = none_before (better before best v) vs in
      let mine = passes_step (is_null v) (is_null best) (before v best) (extreme before (better before best v) vs) best v refl refl refl rest.0 in
      (mine.0, rw mine.1 rest.1)

  -- ---- the whole

  one_of : (r : Value) (vs : List Value) → (r ≡ Null) ⊎ (Contains vs r) → IsTrue (not (is_null r)) → Contains vs r
  one_of r vs (inl e) h = absurd (true≢false (sym h ∙ ap (λ (x : Value). not (is_null x)) e))
  one_of r vs (inr k) h = k

  best_of : (vs : List Value) → IsBest before vs (extreme before Null vs)
  best_of vs = record {
    known = λ e. (all_null Null vs (ap is_null e)).1;
    among = one_of (extreme before Null vs) vs (among Null vs);
    first = (none_before Null vs).1;
  }

  answer : (b : Bool) (code : ℕ) (r best : Value) → ◌≡◌ {A = Result Value ℕ} (cond b (Err code) (Ok r)) (Ok best) → r ≡ best
  answer true code r best e = cc
  answer false code r best e = cc

  pub is_best : (vs : List Value) (best : Value) → extreme_of before vs ≡ Ok best → IsBest before vs best
  is_best vs best e =
      let same : extreme before Null vs ≡ best = answer (list_any is_text vs && list_any is_number vs) kinds_mixed (extreme before Null vs) best e in
      subst (λ (r : Value). IsBest before vs r) same (best_of vs)

pub extremes_are_best : ExtremesAreBest
extremes_are_best = record {
  least = is_best (comes_first false) (comes_first_ranks false);
  greatest = is_best (comes_first true) (comes_first_ranks true);
}
