-- Two runs of blocks, one behind the other, whose neighbours are made one block where they fit.
use Rattle.std.specs.Prelude.{◌≡◌, ◌+◌, ◌*◌, ◌≤◌, ℕ, List, [], ◌∷◌, ◌++◌, length, nat_le, if◌then◌else◌}
use Rattle.block_list.specs.Layouts.{flat, excess, AreShaped}

-- a block before others
abbrev pub joined_to : List ℕ → List (List ℕ) → List (List ℕ)
joined_to b [] = b ∷ []
joined_to b (c ∷ cs) = if nat_le (length b + length c) 255 then (b ++ c) ∷ cs else b ∷ (c ∷ cs)

-- blocks before others
abbrev pub joined : List (List ℕ) → List (List ℕ) → List (List ℕ)
joined [] cs = cs
joined (b ∷ []) cs = joined_to b cs
joined (b ∷ (d ∷ bs)) cs = b ∷ joined (d ∷ bs) cs

-- what room blocks take, in halves of blocks: the block itself is one, and so is what it has above that
abbrev pub weight : List (List ℕ) → ℕ
weight bs = excess bs + 128 * length bs

-- blocks become others that have these numbers and the shape, and at most so much more weight
pub record Becomes (old new : List (List ℕ)) (numbers : List ℕ) (more : ℕ) : Type 0 where
  pub numbers_are : flat new ≡ numbers
  pub shaped : AreShaped new
  pub weight_is : weight new ≤ weight old + more
