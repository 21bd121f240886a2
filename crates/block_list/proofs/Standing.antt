-- Where numbers stand: the places of blocks among all numbers.
use Rattle.std.proofs.Common.{◌≡◌, ℕ, zero, suc, ◌+◌, ◌-◌, ◌<◌, ◌≤◌, List, [], ◌∷◌, ◌++◌, length, take, Some, None, refl, ap, subst, ◌∙◌, arith, length-append}
use Rattle.std.specs.Prelude.{slice_get, slice_index}
use Rattle.std.proofs.lemmas.List.{take_more, take_all, get_or_default, append-nil}
use Rattle.block_list.specs.Layouts.{Layout, flat, AreShaped}
use Rattle.block_list.specs.Spots.{block_at}
use Rattle.block_list.proofs.Joined.{flat-append}
use Rattle.block_list.proofs.Changed.{number_is, there}

-- the numbers up to a block, and with it
pub count_more : (bs : List (List ℕ)) (i : ℕ) → i < length bs → length (flat (take (i + 1) bs)) ≡ length (flat (take i bs)) + length (block_at bs i)
count_more bs i lt =
    ap (λ (x : List (List ℕ)). length (flat x)) (take_more bs i [] lt)
    ∙ ap length (flat-append (take i bs) (block_at bs i ∷ []))
    ∙ length-append (flat (take i bs)) (block_at bs i ++ [])
    ∙ ap (λ (x : List ℕ). length (flat (take i bs)) + length x) (append-nil (block_at bs i))

pub count_all : (bs : List (List ℕ)) (i : ℕ) → length bs ≤ i → length (flat (take i bs)) ≡ length (flat bs)
count_all bs i le = ap (λ (x : List (List ℕ)). length (flat x)) (take_all i bs le)

-- behind the last number of the last block, or where there is none
pub at_end : (bs : List (List ℕ)) (i at : ℕ) → i ≤ length bs - 1 → length bs ≤ i + 1 → at ≤ length (block_at bs i) → length (block_at bs i) ≤ at → length (flat (take i bs)) + at ≡ length (flat bs)
at_end [] i at le last few more = omega (arith, few, count_all [] i (omega arith))
at_end (b ∷ bs) i at le last few more =
    omega (arith, few, more, count_more (b ∷ bs) i (omega (arith, le)), count_all (b ∷ bs) (i + 1) last)

pub some_at : (bs : List (List ℕ)) (i : ℕ) → AreShaped bs → i < length bs → 0 < length (block_at bs i)
some_at [] i s lt = absurd (omega (arith, lt))
some_at (b ∷ []) zero s lt = omega (arith, s.0)
some_at (b ∷ []) (suc i) s lt = absurd (omega (arith, lt))
some_at (b ∷ (c ∷ bs)) zero s lt = omega (arith, s.0)
some_at (b ∷ (c ∷ bs)) (suc i) s lt = some_at (c ∷ bs) i s.3 (omega (arith, lt))

pub few_at : (bs : List (List ℕ)) (i : ℕ) → AreShaped bs → length (block_at bs i) ≤ 255
few_at [] i s = omega arith
few_at (b ∷ []) zero s = s.1
few_at (b ∷ []) (suc i) s = omega arith
few_at (b ∷ (c ∷ bs)) zero s = s.1
few_at (b ∷ (c ∷ bs)) (suc i) s = few_at (c ∷ bs) i s.3

-- the number at a spot
pub number_at : (bs : List (List ℕ)) (i at : ℕ) → at < length (block_at bs i) → slice_get (flat bs) (length (flat (take i bs)) + at) ≡ Some (slice_index (block_at bs i) at)
number_at bs i at lt = number_is bs i at (slice_index (block_at bs i) at) (block_at bs i) (there bs i at lt) lt (get_or_default bs i [] (block_at bs i) (there bs i at lt)) refl

pub none_past : (xs : List ℕ) (i : ℕ) → length xs ≤ i → slice_get xs i ≡ None
none_past [] i le = refl
none_past (x ∷ xs) zero le = absurd (omega (arith, le))
none_past (x ∷ xs) (suc i) le = none_past xs i (omega (arith, le))

-- the first number of a block stands behind the last one of the block before
pub next_place : (bs : List (List ℕ)) (i at : ℕ) → i + 1 < length bs → at ≤ length (block_at bs i) → length (block_at bs i) ≤ at → length (flat (take (i + 1) bs)) + 0 ≡ length (flat (take i bs)) + at
next_place bs i at lt few more = omega (arith, few, more, count_more bs i (omega (arith, lt)))

-- the last number of the block before it
pub before_first : (bs : List (List ℕ)) (i at last : ℕ) → at ≡ 0 → 0 < i → i - 1 < length bs → last ≡ length (block_at bs (i - 1)) → 0 < last
    → length (flat (take (i - 1) bs)) + (last - 1) + 1 ≡ length (flat (take i bs)) + at
before_first bs i at last none some lt is more =
    let again : i - 1 + 1 ≡ i = omega (arith, some) in
    omega (arith, count_more bs (i - 1) lt, ap (λ n. length (flat (take n bs))) again, none, is, more)

pub shaped_same : (was now : Layout) → was ≡ now → AreShaped was.blocks → AreShaped now.blocks
shaped_same was now same s = subst (λ (l : Layout). AreShaped l.blocks) same s
