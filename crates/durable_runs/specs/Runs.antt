-- What may stand on a disk at any moment of a run: one relation for a commit, a command and all commands, for either side.
use Rattle.std.specs.Prelude.{◌≡◌, ◌<◌, ◌≤◌, ◌^◌, ℕ, List, [], ◌∷◌, ◌++◌, length, take, Option, Some, IfSome}
use Rattle.std.specs.Option.{option_and_then}
use Rattle.disk_model.specs.Story.{Image, Story, count}
use Rattle.disk_model.specs.Moments.{Since, GoesOn}
use Rattle.durable_runs.specs.Marks.{Named, named, AreBehind, Between}

-- a disk has had no more calls than a mark can say
abbrev pub CallsFit : Option Story → Type 0
CallsFit t = IfSome t (λ _. count t < 2 ^ 64)

-- One side of a run: what a step makes of what its store has, None where it cannot be made; how many transactions that has; and which
-- images stand for it.
pub record Side (S X : Type 0) : Type 1 where
  pub step : X → S → Option S
  pub number : S → ℕ
  pub Stands : S → Image → Type 0

module _ {S X : Type 0} (side : Side S X) where
  -- what a store has behind steps, one after the other; None where one cannot be made
  abbrev pub behind_steps : List X → S → Option S
  behind_steps [] s = Some s
  behind_steps (x ∷ xs) s = option_and_then (behind_steps xs) (side.step x s)

  -- The claim on an image, when n calls had returned: it stands for what the store has behind the first of the steps, and what it has is
  -- no less than the marks of up to n calls name.
  pub record Claim (s : S) (xs : List X) (marks : List Named) (n : ℕ) (image : Image) : Type 0 where
    pub first : ℕ
    pub within : first ≤ length xs
    pub now : S
    pub after : behind_steps (take first xs) s ≡ Some now
    pub stands : side.Stands now image
    pub holds : named (side.number s) marks n ≤ side.number now

  -- New marks were pushed since so many calls, and name at most a number that the store has reached behind the steps.
  pub record NamesReached (calls : ℕ) (s : S) (xs : List X) (marks : List Named) : Type 0 where
    pub most : ℕ
    pub risen : side.number s ≤ most
    pub between : Between calls most marks
    pub reached : (now : S) → behind_steps xs s ≡ Some now → most ≤ side.number now

  -- A run of steps, from one story of a disk to a later one: each image since its start, inside a call too, is as the claim says of the
  -- marks that it pushed. An image of the call n + 1 is judged by what the marks of up to n calls name. The moment between two runs
  -- belongs to the later one. A call that failed is a call, so the same is said whether the last step was kept or not. No mark says more
  -- calls than the disk has had by the end: one that did would name less.
  pub record Runs (t u : Option Story) (s : S) (xs : List X) (old new : List Named) : Type 0 where
    pub more : List Named
    pub marks : new ≡ old ++ more
    pub on : GoesOn t u
    pub claim : Since (count t) u (Claim s xs more)
    pub names : IfSome t (λ _. NamesReached (count t) s xs more)
    pub behind : IfSome u (λ _. AreBehind (count u) more)

  -- The run from its very start, with all its marks.
  unfoldable pub Lasts : (t u : Option Story) → S → List X → List Named → Type 0
  Lasts t u s xs marks = Runs t u s xs [] marks
