-- How numbers stand in blocks, and how many more can be put without memory.
use Rattle.std.specs.Prelude.{◌+◌, ◌-◌, ◌*◌, ◌^◌, ◌<◌, ◌≤◌, ℕ, max, List, [], ◌∷◌, ◌++◌, length}

-- the blocks in use, each the list of its numbers, and how many spare blocks there are
pub record Layout : Type 0 where
  pub blocks : List (List ℕ)
  pub spares : ℕ

-- the numbers of all blocks, in their order
abbrev pub flat : List (List ℕ) → List ℕ
flat [] = []
flat (b ∷ bs) = b ++ flat bs

-- no block is empty or has too many numbers, and two neighbours have more than one block holds
abbrev pub AreShaped : List (List ℕ) → Type 0
AreShaped [] = Unit {0}
AreShaped (b ∷ []) = (1 ≤ length b) × (length b ≤ 255)
AreShaped (b ∷ (c ∷ bs)) = (1 ≤ length b) × (length b ≤ 255) × (256 ≤ length b + length c) × AreShaped (c ∷ bs)

-- what blocks have above half of what one holds, and the last one all that it has
abbrev pub excess : List (List ℕ) → ℕ
excess [] = 128
excess (b ∷ []) = length b
excess (b ∷ (c ∷ bs)) = (length b - 128) + excess (c ∷ bs)

-- How many numbers can be put without memory, at whatever places: one for each spare block, or what is left where each block
-- that becomes full is split into two halves.
unfoldable pub room : Layout → ℕ
room l = max l.spares (128 * (l.spares + 1) - excess l.blocks)

-- How many numbers all blocks, the spare ones too, hold while numbers are put and taken at whatever places: two neighbours have more
-- than one of them holds.
abbrev pub holds : Layout → ℕ
holds l = 128 * (length l.blocks + l.spares - 1)

-- so many comparisons are at most one more than a count has binary digits
abbrev pub AreWithinDigits : ℕ → ℕ → Type 0
AreWithinDigits count steps = (digits : ℕ) → count < 2 ^ digits → steps ≤ digits + 1
