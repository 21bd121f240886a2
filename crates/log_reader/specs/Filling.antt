-- Bytes read from an input up to a count.
use Rattle.std.specs.Prelude.{◌≡◌, ◌<◌, ℕ, ◌+◌, Bool, true, false, List, ◌++◌, length, Option, Some, None}
use Rattle.log_reader.specs.Reading.{IsEnd, Took}

-- others were put behind some bytes
abbrev pub Grows : List ℕ → List ℕ → Type 0
Grows old new = (more : List ℕ) × (new ≡ old ++ more)

-- there are so many bytes; or fewer, and the input has ended
abbrev pub FillsTo : Bool → (count : ℕ) → List ℕ → Option (List ℕ) → Type 0
FillsTo true count bytes left = length bytes ≡ count
FillsTo false count bytes left = (length bytes < count) × IsEnd left

-- ---- bytes that are let go

-- bytes were taken up to a place, from another on
pub record Passed (from to : ℕ) (before after : Option (List ℕ)) : Type 0 where
  pub taken : List ℕ
  pub took : Took before after taken
  pub count : to ≡ from + length taken

-- all up to a position; or the input ended before, at a place
abbrev pub PassesTo : (from pos : ℕ) → Option (List ℕ) → Option (List ℕ) → Option ℕ → Type 0
PassesTo from pos before after None = Passed from pos before after
PassesTo from pos before after (Some at) = Passed from at before after × (at < pos) × IsEnd after
