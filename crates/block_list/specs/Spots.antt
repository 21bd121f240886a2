-- Where a number stands: its block, and its place in there; and what place among all that is.
use Rattle.std.specs.Prelude.{◌≡◌, ◌+◌, ◌-◌, ◌<◌, ◌≤◌, ℕ, List, [], length, take, slice_index, slice_index_or, Result, Ok, Err}
use Rattle.std.specs.declared.cmp.Ordering.{Ordering}
use Rattle.std.specs.declared.cmp.Ordering.TheVariants.{Less, Equal, Greater}
use Rattle.block_list.specs.declared.spot.Spot.{Spot}
use Rattle.block_list.specs.Layouts.{flat}

-- the block of a number, counted from 0
abbrev pub block_at : List (List ℕ) → ℕ → List ℕ
block_at blocks which = slice_index_or blocks which []

-- the place among all numbers
abbrev pub place : List (List ℕ) → Spot → ℕ
place blocks spot = length (flat (take spot.block blocks)) + spot.at

-- a spot in one of the blocks, or behind its last number; where there is no block, in the first to come
abbrev pub IsSpot : List (List ℕ) → Spot → Type 0
IsSpot blocks spot = (spot.block ≤ length blocks - 1) × (spot.at ≤ length (block_at blocks spot.block))

-- a spot at which a number stands
abbrev pub IsAt : List (List ℕ) → Spot → Type 0
IsAt blocks spot = spot.at < length (block_at blocks spot.block)

-- the spot of the number that is equal, or the one at which it belongs
abbrev pub IsFound : (ℕ → Ordering) → List (List ℕ) → Result Spot Spot → Type 0
IsFound order blocks (Ok spot) = IsAt blocks spot × (order (slice_index (flat blocks) (place blocks spot)) ≡ Equal)
IsFound order blocks (Err spot) =
    ((i : ℕ) → i < place blocks spot → order (slice_index (flat blocks) i) ≡ Less)
    × ((i : ℕ) → place blocks spot ≤ i → i < length (flat blocks) → order (slice_index (flat blocks) i) ≡ Greater)
