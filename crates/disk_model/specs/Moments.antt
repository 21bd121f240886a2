-- The moments of a disk, which are counts of its calls, and what a crash leaves at each.
use Rattle.std.specs.Prelude.{◌≡◌, ◌≢◌, ℕ, ◌+◌, ◌-◌, ◌<◌, ◌≤◌, false, List, [], ◌∷◌, ◌++◌, length, drop, Option, Some, None}
use Rattle.disk_model.specs.declared.call.Call.{Call}
use Rattle.disk_model.specs.declared.call.Call.TheVariants.{Look, Write, Cut, Sync}
use Rattle.disk_model.specs.Story.{Image, Story, count, seen}
use Rattle.disk_model.specs.Left.{LeftAfter, Left}

-- the first n calls
abbrev pub calls_until : ℕ → List Call → List Call
calls_until n calls = drop (length calls - n) calls

-- a call as a crash inside it finds it: it has begun, and nothing says that it was done
abbrev pub begun : Call → Call
begun Look = Look
begun (Write g at piece done) = Write g at piece false
begun (Cut g size done) = Cut g size false
begun (Sync g done) = Sync g false

-- the calls as a crash inside the newest finds them
abbrev pub inside : List Call → List Call
inside [] = []
inside (call ∷ past) = begun call ∷ past

-- a crash between the n-th call's return and the next call may leave this
abbrev pub AfterCall : Option Story → ℕ → Image → Type 0
AfterCall None n image = ⊥
AfterCall (Some s) n image = (f : ℕ) → LeftAfter s.first (calls_until n s.calls) f (image f)

-- a crash inside the n-th call may leave this
abbrev pub During : Option Story → ℕ → Image → Type 0
During None n image = ⊥
During (Some s) n image = (f : ℕ) → LeftAfter s.first (inside (calls_until n s.calls)) f (image f)

-- each image that a crash may leave now has P
abbrev pub Each : Option Story → (Image → Type 0) → Type 0
Each t P = (image : Image) → ((f : ℕ) → Left t f (image f)) → P image

-- From the moment after the call `start` on each image has P, which may name how many calls had returned.
pub record Since (start : ℕ) (t : Option Story) (P : ℕ → Image → Type 0) : Type 0 where
  pub after : (n : ℕ) → start ≤ n → n ≤ count t → (image : Image) → AfterCall t n image → P n image
  pub during : (n : ℕ) → start ≤ n → n < count t → (image : Image) → During t (n + 1) image → P n image

-- the same claim at every moment
abbrev pub Always : ℕ → Option Story → (Image → Type 0) → Type 0
Always start t P = Since start t (λ _ image. P image)

-- one story goes on from the other
abbrev pub GoesOn : Option Story → Option Story → Type 0
GoesOn None None = Unit {0}
GoesOn None (Some s) = ⊥
GoesOn (Some s) None = ⊥
GoesOn (Some s) (Some t) = (t.first ≡ s.first) × ((more : List Call) × (t.calls ≡ more ++ s.calls))

-- a crash now leaves this in the file and nothing else
abbrev pub Only : Option Story → ℕ → List ℕ → Type 0
Only t f file = (c : List ℕ) → Left t f c → c ≡ file

-- each file's only image is what a read gives
abbrev pub IsSettled : Option Story → Type 0
IsSettled t = (f : ℕ) → Only t f (seen t f)

-- the other files are as a crash then might have left them
abbrev pub OthersOf : Option Story → ℕ → Image → Type 0
OthersOf t f image = (g : ℕ) → g ≢ f → Left t g (image g)
