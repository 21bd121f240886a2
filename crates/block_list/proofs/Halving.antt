-- One step of a search by halves.
use Rattle.std.proofs.Common.{◌≡◌, ℕ, ◌+◌, ◌*◌, ◌^◌, ◌<◌, ◌≤◌, inl, inr, ◌⊎◌, refl, sym, ap, ◌∙◌, arith, pow-add}
use Rattle.std.specs.declared.cmp.Ordering.{Ordering}
use Rattle.std.specs.declared.cmp.Ordering.TheVariants.{Less, Equal, Greater}
use Rattle.std.proofs.lemmas.Bool.{cases_eq}
use Rattle.std.proofs.Math.Nat.{mul-le-mul_left, mul_assoc}
use Rattle.block_list.specs.Places.{AreParted}

-- what is left is at most a half of what was left
pub halved_once : (k s t n : ℕ) → 2 ^ k * s ≤ n → 2 * t ≤ s → 2 ^ (k + 1) * t ≤ n
halved_once k s t n h half =
    let more : 2 ^ k * (2 * t) ≤ 2 ^ k * s = mul-le-mul_left (2 ^ k) half in
    let e : 2 ^ (k + 1) * t ≡ 2 ^ k * (2 * t) = ap (λ x. x * t) (pow-add 2 k 1) ∙ mul_assoc (2 ^ k) 2 t in
    omega arith

-- one more comparison, while something is left
pub spent_once : (k s n : ℕ) → 2 ^ k * s ≤ n → 0 < s → 2 ^ (k + 1) ≤ 2 * n + 1
spent_once k s n h some =
    let one : 1 ≤ s = omega arith in
    let more : 2 ^ k * 1 ≤ 2 ^ k * s = mul-le-mul_left (2 ^ k) one in
    let e : 2 ^ (k + 1) ≡ 2 ^ k * 2 = pow-add 2 k 1 in
    omega arith

-- up to one that is less all are less
pub low_less : (order : ℕ → Ordering) (count m i : ℕ) → AreParted order count → m < count → order m ≡ Less → i ≤ m → order i ≡ Less
low_less order count m i parted within is le = step (cases_eq i m)
  where
    less_equal : Less ≡ Equal → ⊥
    less_equal e = cc

    less_greater : Less ≡ Greater → ⊥
    less_greater e = cc

    at : (o : Ordering) → order i ≡ o → i < m → order i ≡ Less
    at Less e lt = e
    at Equal e lt = let up : order m ≡ Greater = parted i m lt within (λ h. less_equal (sym h ∙ e)) in absurd (less_greater (sym is ∙ up))
    at Greater e lt = let up : order m ≡ Greater = parted i m lt within (λ h. less_greater (sym h ∙ e)) in absurd (less_greater (sym is ∙ up))

    step : (i ≡ m) ⊎ ((i ≡ m) → ⊥) → order i ≡ Less
    step (inl e) = ap order e ∙ is
    step (inr e) = at (order i) refl (omega (arith, e))

-- from one that is greater on all are greater
pub high_greater : (order : ℕ → Ordering) (count m i : ℕ) → AreParted order count → order m ≡ Greater → m ≤ i → i < count → order i ≡ Greater
high_greater order count m i parted is le within = step (cases_eq m i)
  where
    greater_less : Greater ≡ Less → ⊥
    greater_less e = cc

    step : (m ≡ i) ⊎ ((m ≡ i) → ⊥) → order i ≡ Greater
    step (inl e) = sym (ap order e) ∙ is
    step (inr e) = parted m i (omega (arith, e)) within (λ h. greater_less (sym is ∙ h))
