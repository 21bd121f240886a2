-- Where whole groups lie, and that they stay what they are.
use Rattle.std.specs.Prelude.{◌≡◌, ◌≤◌, ℕ, ◌+◌, List, [], ◌++◌, length}
use Rattle.log_model.specs.Groups.{Group, group, not_whole, damaged_at, foreign_at, group_at}

-- from a place on, with at least a header's bytes of so many, and within a log
pub record Lies (pos count : ℕ) (g : Group) : Type 0 where
  pub begins : g.begin ≡ pos
  pub header : pos + 19 ≤ g.end
  pub within : g.end ≤ pos + count
  pub ends : g.end ≤ 1200000000

-- a group that is read lies within the bytes that it is read from
abbrev pub GroupsLieWithin : Type 0
GroupsLieWithin = (bytes : List ℕ) (pos : ℕ) (g : Group) → group_at (record { bytes = bytes; pos = pos }) ≡ group g → Lies pos (length bytes) g

-- and it is read whatever follows it
abbrev pub GroupsStay : Type 0
GroupsStay = (bytes more : List ℕ) (pos : ℕ) (g : Group) → group_at (record { bytes = bytes; pos = pos }) ≡ group g
    → group_at (record { bytes = bytes ++ more; pos = pos }) ≡ group g

-- so is what is damaged or not known
abbrev pub StopsStay : Type 0
StopsStay = (bytes more : List ℕ) (pos : ℕ)
    → ((at : ℕ) → group_at (record { bytes = bytes; pos = pos }) ≡ damaged_at at
    → group_at (record { bytes = bytes ++ more; pos = pos }) ≡ damaged_at at)
    × ((at kind : ℕ) → group_at (record { bytes = bytes; pos = pos }) ≡ foreign_at at kind
    → group_at (record { bytes = bytes ++ more; pos = pos }) ≡ foreign_at at kind)

-- no bytes are a front of a group
abbrev pub NothingIsNotWhole : Type 0
NothingIsNotWhole = (pos : ℕ) → group_at (record { bytes = []; pos = pos }) ≡ not_whole
