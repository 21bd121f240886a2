-- What calls on two files of a disk did, at each moment.
use Rattle.std.specs.Prelude.{◌≡◌, ◌≢◌, ◌⊎◌, ℕ, true, List, Option}
use Rattle.disk_model.specs.Story.{Image, Story, count, seen}
use Rattle.disk_model.specs.Left.{Left}
use Rattle.disk_model.specs.Moments.{Always, GoesOn}
use Rattle.disk_model.specs.Torn.{Torn}
use Rattle.checkpoint_model.specs.Pieces.{is_to_close}

-- Two files were worked on, and each image of each moment has P; the other files stay as they were.
pub record WorksOnBoth (t u : Option Story) (f j : ℕ) (P : Image → Type 0) : Type 0 where
  pub on : GoesOn t u
  pub images : Always (count t) u (λ image. P image × ((g : ℕ) → g ≢ f → g ≢ j → Left t g (image g)))
  pub others : (g : ℕ) (c : List ℕ) → g ≢ f → g ≢ j → Left u g c → Left t g c
  pub reads : (g : ℕ) → g ≢ f → g ≢ j → seen u g ≡ seen t g

-- what a crash leaves of a snapshot's file while its gate is closed, where that has to be
abbrev pub IsClosing : (file file' : List ℕ) → Type 0
IsClosing file file' = (file' ≡ file) ⊎ ((is_to_close file ≡ true) × Torn 0 1 file file')
