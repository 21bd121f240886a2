-- What calls on a disk did, at each moment.
use Rattle.std.specs.Prelude.{◌≡◌, ◌≢◌, ℕ, List, length, Option}
use Rattle.disk_model.specs.Story.{Story, count, seen}
use Rattle.disk_model.specs.Left.{Left}
use Rattle.disk_model.specs.Moments.{Always, GoesOn, OthersOf}
use Rattle.disk_model.specs.Torn.{Torn}

-- One file is worked on, and at each moment what a crash leaves of it has Q; the other files stay as they were.
pub record Steps (t u : Option Story) (f : ℕ) (Q : List ℕ → Type 0) : Type 0 where
  pub on : GoesOn t u
  pub images : Always (count t) u (λ image. Q (image f) × OthersOf t f image)
  pub others : (g : ℕ) (c : List ℕ) → g ≢ f → Left u g c → Left t g c
  pub reads : (g : ℕ) → g ≢ f → seen u g ≡ seen t g

-- A piece was put over a durable file, whole or in part: at each moment its range is torn.
abbrev pub Puts : (t u : Option Story) (f at : ℕ) (piece : List ℕ) → Type 0
Puts t u f at piece = Steps t u f (Torn at (length piece) (seen t f))

-- Calls that only look and sync: they read the same, and a crash leaves at each moment what it might have left before.
pub record Quietly (t u : Option Story) : Type 0 where
  pub on : GoesOn t u
  pub reads : (f : ℕ) → seen u f ≡ seen t f
  pub left : (f : ℕ) (c : List ℕ) → Left u f c → Left t f c
  pub images : Always (count t) u (λ image. (f : ℕ) → Left t f (image f))

-- A file was worked on of which nothing is claimed.
abbrev pub WorksOn : (t u : Option Story) (f : ℕ) → Type 0
WorksOn t u f = Steps t u f (λ _. Unit {0})
