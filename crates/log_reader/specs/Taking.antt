-- What bytes are that were taken from a place on: just a group, of no group, or none.
use Rattle.std.specs.Prelude.{◌≡◌, ◌≤◌, ◌⊎◌, ℕ, ◌+◌, Bool, true, false, List, [], length, Option}
use Rattle.log_groups.specs.log_model.Groups.{Group, group, not_whole, damaged_at, foreign_at, group_at}
use Rattle.log_file_model.specs.Passing.{names_next}
use Rattle.log_reader.specs.declared.reader.Found.{Found}
use Rattle.log_reader.specs.declared.reader.Found.TheVariants as found
use Rattle.log_reader.specs.Reading.{IsEnd}

-- the bytes are just a group, which is the name of the next log or not
pub record IsWhole (bytes : List ℕ) (begin : ℕ) (closed : Bool) : Type 0 where
  pub one : Group
  pub reads : group_at (record { bytes = bytes; pos = begin }) ≡ group one
  pub whole : one.end ≡ begin + length bytes
  pub kind : closed ≡ names_next one.form

-- what they are where it is settled
abbrev pub FindsSettled : List ℕ → (begin : ℕ) → Bool → Found → Type 0
FindsSettled bytes begin closed found.Group = IsWhole bytes begin closed
FindsSettled bytes begin closed found.End = ⊥
FindsSettled bytes begin closed (found.Damaged pos) = group_at (record { bytes = bytes; pos = begin }) ≡ damaged_at pos
FindsSettled bytes begin closed (found.Foreign pos kind) = group_at (record { bytes = bytes; pos = begin }) ≡ foreign_at pos kind

-- what they are where the input ends and no group is whole
abbrev pub Ends : List ℕ → (begin : ℕ) → Found → Type 0
Ends bytes begin found.Group = ⊥
Ends bytes begin found.End = bytes ≡ []
Ends bytes begin (found.Damaged pos) =
    (group_at (record { bytes = bytes; pos = begin }) ≡ not_whole) × (1 ≤ length bytes) × (pos ≡ begin)
Ends bytes begin (found.Foreign pos kind) = ⊥

-- either, with what is left of the input
abbrev pub Finds : List ℕ → (begin : ℕ) → Bool → Option (List ℕ) → Found → Type 0
Finds bytes begin closed left found.Group = IsWhole bytes begin closed
Finds bytes begin closed left found.End = (bytes ≡ []) × IsEnd left
Finds bytes begin closed left (found.Damaged pos) =
    (group_at (record { bytes = bytes; pos = begin }) ≡ damaged_at pos)
    ⊎ ((group_at (record { bytes = bytes; pos = begin }) ≡ not_whole) × (1 ≤ length bytes) × (pos ≡ begin) × IsEnd left)
Finds bytes begin closed left (found.Foreign pos kind) = group_at (record { bytes = bytes; pos = begin }) ≡ foreign_at pos kind

-- what they are behind the name of the next log
abbrev pub FindsBehindName : List ℕ → (begin : ℕ) → Option (List ℕ) → Found → Type 0
FindsBehindName bytes begin left found.Group = ⊥
FindsBehindName bytes begin left found.End = (bytes ≡ []) × IsEnd left
FindsBehindName bytes begin left (found.Damaged pos) = (pos ≡ begin) × (1 ≤ length bytes)
FindsBehindName bytes begin left (found.Foreign pos kind) = ⊥

abbrev pub FindsNext : (was : Bool) → List ℕ → (begin : ℕ) → (closed : Bool) → Option (List ℕ) → Found → Type 0
FindsNext true bytes begin closed left found = FindsBehindName bytes begin left found
FindsNext false bytes begin closed left found = Finds bytes begin closed left found

-- what is kept of them: a group, and whether it is the name of the next log
abbrev pub IsKept : Found → (closed : Bool) → List ℕ → Bool → List ℕ → Bool → Type 0
IsKept found.Group closed before was after now = (after ≡ before) × (now ≡ closed)
IsKept found.End closed before was after now = (after ≡ []) × (now ≡ was)
IsKept (found.Damaged pos) closed before was after now = (after ≡ []) × (now ≡ was)
IsKept (found.Foreign pos kind) closed before was after now = (after ≡ []) × (now ≡ was)
