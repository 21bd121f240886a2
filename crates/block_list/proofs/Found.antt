-- What was found among the first numbers of blocks and in one block, among all numbers.
use Rattle.std.proofs.Common.{◌≡◌, ℕ, zero, suc, ◌+◌, ◌-◌, ◌<◌, ◌≤◌, List, [], ◌∷◌, length, take, inl, inr, ◌⊎◌, sym, ap, subst, ◌∙◌, arith, length-append}
use Rattle.std.specs.Prelude.{slice_index, Ok, Err}
use Rattle.std.specs.declared.cmp.Ordering.{Ordering}
use Rattle.std.specs.declared.cmp.Ordering.TheVariants.{Less, Equal, Greater}
use Rattle.std.proofs.lemmas.Bool.{cases_lt}
use Rattle.std.proofs.lemmas.Option.{get_or_from_slice_get, slice_get_within}
use Rattle.block_list.specs.Layouts.{flat, AreShaped}
use Rattle.block_list.specs.Places.{AreParted, AreInOrder, IsPlace}
use Rattle.block_list.specs.Spots.{block_at, IsFound}
use Rattle.block_list.proofs.Halving.{low_less, high_greater}
use Rattle.block_list.proofs.Joined.{shaped_behind}
use Rattle.block_list.proofs.Standing.{some_at, number_at, count_more, count_all}

-- how many numbers stand before a block
abbrev before : List (List ℕ) → ℕ → ℕ
before bs i = length (flat (take i bs))

-- a number of a block among all
pub number_is_at : (bs : List (List ℕ)) (i at : ℕ) → at < length (block_at bs i) → slice_index (flat bs) (before bs i + at) ≡ slice_index (block_at bs i) at
number_is_at bs i at lt = get_or_from_slice_get (flat bs) (before bs i + at) (slice_index (block_at bs i) at) 0 (number_at bs i at lt)

pub place_is_within : (bs : List (List ℕ)) (i at : ℕ) → at < length (block_at bs i) → before bs i + at < length (flat bs)
place_is_within bs i at lt = slice_get_within (flat bs) (before bs i + at) (slice_index (block_at bs i) at) (number_at bs i at lt)

-- later blocks stand behind
before_rises : (bs : List (List ℕ)) (i j : ℕ) → AreShaped bs → i < j → j < length bs → before bs i < before bs j
before_rises [] i j s up lt = absurd (omega (arith, lt))
before_rises (b ∷ bs) i zero s up lt = absurd (omega (arith, up))
before_rises (b ∷ bs) zero (suc j) s up lt = omega (arith, length-append b (flat (take j bs)), some_at (b ∷ bs) 0 s (omega (arith, lt)))
before_rises (b ∷ bs) (suc i) (suc j) s up lt =
    omega (arith, length-append b (flat (take i bs)), length-append b (flat (take j bs)), before_rises bs i j (shaped_behind (b ∷ []) bs s) (omega (arith, up)) (omega (arith, lt)))

module _ (order : ℕ → Ordering) (bs : List (List ℕ)) (shaped : AreShaped bs) (in_order : AreInOrder order (flat bs)) where
  -- the order by places among all numbers
  abbrev by_place : ℕ → Ordering
  by_place i = order (slice_index (flat bs) i)

  -- the number at a place of a block
  abbrev by_block : ℕ → ℕ → Ordering
  by_block i at = order (slice_index (block_at bs i) at)

  same_order : (i at : ℕ) → at < length (block_at bs i) → by_place (before bs i + at) ≡ by_block i at
  same_order i at lt = ap order (number_is_at bs i at lt)

  first_order : (i : ℕ) → i < length bs → by_place (before bs i) ≡ by_block i 0
  first_order i lt = ap by_place (omega_zero (before bs i)) ∙ same_order i 0 (some_at bs i shaped lt)
    where
      omega_zero : (n : ℕ) → n ≡ n + 0
      omega_zero n = omega arith

  -- the numbers of a block are in order, and so are the first ones of blocks
  pub block_in_order : (i : ℕ) → AreInOrder order (block_at bs i)
  block_in_order i j k up lt not_less =
      sym (same_order i k lt)
      ∙ in_order (before bs i + j) (before bs i + k) (omega (arith, up)) (place_is_within bs i k lt) (λ e. not_less (sym (same_order i j (omega (arith, up, lt))) ∙ e))

  pub firsts_in_order : AreParted (λ at. by_block (at + 1) 0) (length bs - 1)
  firsts_in_order i j up lt not_less =
      let there_j : j + 1 < length bs = omega (arith, lt) in
      let there_i : i + 1 < length bs = omega (arith, lt, up) in
      let within : before bs (j + 1) + 0 < length (flat bs) = place_is_within bs (j + 1) 0 (some_at bs (j + 1) shaped there_j) in
      sym (first_order (j + 1) there_j)
      ∙ in_order (before bs (i + 1)) (before bs (j + 1)) (before_rises bs (i + 1) (j + 1) shaped (omega (arith, up)) there_j) (omega (arith, within)) (λ e. not_less (sym (first_order (i + 1) there_i) ∙ e))

  -- the number that is looked for
  pub found_at : (i at : ℕ) → at < length (block_at bs i) → by_block i at ≡ Equal → IsFound order bs (Ok (record { block = i; at = at }))
  found_at i at lt e = (lt, same_order i at lt ∙ e)

  -- what is before the block in which it belongs, and what is behind that
  module _ (i : ℕ) (lt : i < length bs) (less : (k : ℕ) → k < i → by_block (k + 1) 0 ≡ Less) (greater : (k : ℕ) → i ≤ k → k < length bs - 1 → by_block (k + 1) 0 ≡ Greater) where
    all_before : (p : ℕ) → p < before bs i → by_place p ≡ Less
    all_before p up = step (cases_lt 0 i)
      where
        step : (0 < i) ⊎ (i ≤ 0) → by_place p ≡ Less
        step (inr none) = let e : before bs i ≡ before bs 0 = ap (λ n. before bs n) (zero_is i none) in absurd (omega (arith, e, up))
          where
            zero_is : (n : ℕ) → n ≤ 0 → n ≡ 0
            zero_is n h = omega arith
        step (inl some) =
            let again : i - 1 + 1 ≡ i = omega (arith, some) in
            let first : by_block i 0 ≡ Less = subst (λ n. by_block n 0 ≡ Less) again (less (i - 1) (omega (arith, some))) in
            let within : before bs i + 0 < length (flat bs) = place_is_within bs i 0 (some_at bs i shaped lt) in
            low_less by_place (length (flat bs)) (before bs i) p in_order (omega (arith, within)) (first_order i lt ∙ first) (omega (arith, up))

    all_behind : (p : ℕ) → before bs (i + 1) ≤ p → p < length (flat bs) → by_place p ≡ Greater
    all_behind p back within = step (cases_lt (i + 1) (length bs))
      where
        step : (i + 1 < length bs) ⊎ (length bs ≤ i + 1) → by_place p ≡ Greater
        step (inr last) = absurd (omega (arith, count_all bs (i + 1) last, back, within))
        step (inl more) = high_greater by_place (length (flat bs)) (before bs (i + 1)) p in_order (first_order (i + 1) more ∙ greater i (omega arith) (omega (arith, more))) back within

    pub missing_at : (at : ℕ) → at ≤ length (block_at bs i) → ((k : ℕ) → k < at → by_block i k ≡ Less) → ((k : ℕ) → at ≤ k → k < length (block_at bs i) → by_block i k ≡ Greater)
        → IsFound order bs (Err (record { block = i; at = at }))
    missing_at at few low high = (λ p up. below p up (cases_lt p (before bs i)), λ p back within. above p back within (cases_lt p (before bs (i + 1))))
      where
        below : (p : ℕ) → p < before bs i + at → (p < before bs i) ⊎ (before bs i ≤ p) → by_place p ≡ Less
        below p up (inl front) = all_before p front
        below p up (inr here) =
            let e : before bs i + (p - before bs i) ≡ p = omega (arith, here) in
            subst (λ n. by_place n ≡ Less) e (same_order i (p - before bs i) (omega (arith, up, here, few)) ∙ low (p - before bs i) (omega (arith, up, here)))

        above : (p : ℕ) → before bs i + at ≤ p → p < length (flat bs) → (p < before bs (i + 1)) ⊎ (before bs (i + 1) ≤ p) → by_place p ≡ Greater
        above p back within (inr behind) = all_behind p behind within
        above p back within (inl here) =
            let e : before bs i + (p - before bs i) ≡ p = omega (arith, back) in
            let inside : p - before bs i < length (block_at bs i) = omega (arith, here, count_more bs i lt, back) in
            subst (λ n. by_place n ≡ Greater) e (same_order i (p - before bs i) inside ∙ high (p - before bs i) (omega (arith, back)) inside)

  -- the same, as calls answer it
  pub first_in : (i : ℕ) → (AreParted (λ at. by_block (at + 1) 0) (length bs - 1) → IsPlace (λ at. by_block (at + 1) 0) (length bs - 1) (Ok i)) → IsFound order bs (Ok (record { block = i + 1; at = 0 }))
  first_in i answer =
      let found : (i < length bs - 1) × (by_block (i + 1) 0 ≡ Equal) = answer firsts_in_order in
      found_at (i + 1) 0 (some_at bs (i + 1) shaped (omega (arith, found.0))) found.1

  pub found_in : (i at : ℕ) (numbers : List ℕ) → numbers ≡ block_at bs i → (AreInOrder order numbers → IsPlace (λ k. order (slice_index numbers k)) (length numbers) (Ok at))
      → IsFound order bs (Ok (record { block = i; at = at }))
  found_in i at numbers is answer =
      let Answers : List ℕ → Type 0 = λ xs. AreInOrder order xs → IsPlace (λ k. order (slice_index xs k)) (length xs) (Ok at) in
      let found : (at < length (block_at bs i)) × (by_block i at ≡ Equal) = subst Answers is answer (block_in_order i) in
      found_at i at found.0 found.1

  pub missing_in : (i at : ℕ) (numbers : List ℕ) → numbers ≡ block_at bs i → 0 < length bs → (AreParted (λ k. by_block (k + 1) 0) (length bs - 1) → IsPlace (λ k. by_block (k + 1) 0) (length bs - 1) (Err i))
      → (AreInOrder order numbers → IsPlace (λ k. order (slice_index numbers k)) (length numbers) (Err at)) → IsFound order bs (Err (record { block = i; at = at }))
  missing_in i at numbers is some first_answer answer =
      let Answers : List ℕ → Type 0 = λ xs. AreInOrder order xs → IsPlace (λ k. order (slice_index xs k)) (length xs) (Err at) in
      let first : IsPlace (λ k. by_block (k + 1) 0) (length bs - 1) (Err i) = first_answer firsts_in_order in
      let here : IsPlace (λ k. by_block i k) (length (block_at bs i)) (Err at) = subst Answers is answer (block_in_order i) in
      missing_at i (omega (arith, first.0, some)) first.1 first.2 at here.0 here.1 here.2
