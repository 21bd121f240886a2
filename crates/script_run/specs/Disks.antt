-- Both disks of a run: what each tells, what its faults count, and what its store has.
use Rattle.std.specs.Prelude.{◌≡◌, ◌≤◌, ℕ, Option, IfSome, is_some, true}
use Rattle.disk_model.specs.Story.{Story, seen}
use Rattle.disk_model.specs.Moments.{GoesOn}
use Rattle.run_stores.specs.durable_runs.Sources.{Stored, stored_in}
use Rattle.store_model.specs.Held.{Held}

-- The stories of both disks, of which each tells its own or does not.
pub record Disks : Type 0 where
  pub source : Option Story
  pub replica : Option Story

abbrev pub disks : (source replica : Option Story) → Disks
disks source replica = record { source = source; replica = replica }

-- both tell their stories
pub record AreTold (t : Disks) : Type 0 where
  pub source : is_some t.source ≡ true
  pub replica : is_some t.replica ≡ true

-- what is so where both do
abbrev pub IfBoth : Disks → Type 0 → Type 0
IfBoth t P = IfSome t.source (λ _. IfSome t.replica (λ _. P))

-- both stories go on
pub record BothGoOn (t u : Disks) : Type 0 where
  pub source : GoesOn t.source u.source
  pub replica : GoesOn t.replica u.replica

-- How many faults both disks count.
pub record Faults : Type 0 where
  pub source : ℕ
  pub replica : ℕ

abbrev pub faults : (source replica : ℕ) → Faults
faults source replica = record { source = source; replica = replica }

-- neither count falls
pub record NoFewer (before now : Faults) : Type 0 where
  pub source : before.source ≤ now.source
  pub replica : before.replica ≤ now.replica

-- What the stores of both disks have: the source's with its logs.
pub record Stores : Type 0 where
  pub source : Stored
  pub replica : Held

-- as the disks have them that hold this
abbrev pub stores_in : Disks → (held carried : Held) → Stores
stores_in t held carried = record { source = stored_in held (seen t.source); replica = carried }
