-- Files in memory.
use Rattle.std.specs.Prelude.{ℕ, List, [], slice_get, unwrap_or}
use Rattle.disk_model.specs.declared.call.Call.{Call}
use Rattle.disk_model.specs.Story.{Image, Story}

-- a file by its place in a list, empty past its end
abbrev pub files : List (List ℕ) → Image
files list f = unwrap_or (slice_get list f) []

-- a disk in memory, as contracts see it: the files that it began with, its calls, the newest first, and how many faults it has had
pub record MemState : Type 0 where
  pub first : List (List ℕ)
  pub calls : List Call
  pub faults : ℕ

-- the story that it tells
abbrev pub story_of : MemState → Story
story_of d = record { first = files d.first; calls = d.calls }
