-- How the dump of a store ends.
use Rattle.std.specs.Prelude.{◌≡◌, ◌⊎◌, ℕ, List, Option, Some, Ok, Err, IfSome}
use Rattle.fault_counts.specs.Causes.{Rose}
use Rattle.disk_model.specs.Story.{Story, seen}
use Rattle.store_model.specs.declared.record.Kind.{Kind}
use Rattle.store_model.specs.declared.record.Kind.TheVariants.{Source, Replica}
use Rattle.store_model.specs.Held.{Held}
use Rattle.store_model.specs.Stores.{held_by}
use Rattle.answer_text.specs.declared.status.Status.{Status}
use Rattle.answer_text.specs.declared.status.Status.TheVariants.{Done, WriteFault, SourceDisk, ReplicaDisk, SourceDamaged, ReplicaDamaged, NoMemory}
use Rattle.run_streams.specs.Wrote.{Wrote, WroteFront}
use Rattle.dump_store.specs.Lines.{dump_lines}

-- the fault of a node's disk, as a status
abbrev pub disk_fault : Kind → Status
disk_fault Source = SourceDisk
disk_fault Replica = ReplicaDisk

-- damage of its files
abbrev pub damaged_at : Kind → (file at : ℕ) → Status
damaged_at Source file at = SourceDamaged file at
damaged_at Replica file at = ReplicaDamaged file at

-- the lines of what a disk holds were written
pub record Dumped (kind : Kind) (told : Option Story) (before after : Option (List ℕ)) : Type 0 where
  pub held : Held
  pub held_is : IfSome told (λ _. held_by kind (seen told) ≡ Ok held)
  pub wrote : Wrote before after (dump_lines held.base)

-- a front of them was written
pub record DumpedFront (kind : Kind) (told : Option Story) (before after : Option (List ℕ)) : Type 0 where
  pub held : Held
  pub held_is : IfSome told (λ _. held_by kind (seen told) ≡ Ok held)
  pub front : WroteFront before after (dump_lines held.base)

-- a disk is damaged, first at this place, and nothing was written
pub record FoundDamaged (kind : Kind) (told : Option Story) (file at : ℕ) (before after : Option (List ℕ)) : Type 0 where
  pub damage_is : IfSome told (λ _. held_by kind (seen told) ≡ Err (record { file = file; at = at }))
  pub nothing : after ≡ before

-- How it ends, by its status, with whose store it is, what the disk told before, and the output before and after. A status without a
-- case here cannot come.
abbrev pub DumpEnds : Status → Kind → Option Story → Option (List ℕ) → Option (List ℕ) → Type 0
DumpEnds Done kind told before after = Dumped kind told before after
DumpEnds WriteFault kind told before after = DumpedFront kind told before after
DumpEnds SourceDisk kind told before after = (kind ≡ Source) × (after ≡ before)
DumpEnds ReplicaDisk kind told before after = (kind ≡ Replica) × (after ≡ before)
DumpEnds (SourceDamaged file at) kind told before after = (kind ≡ Source) × FoundDamaged kind told file at before after
DumpEnds (ReplicaDamaged file at) kind told before after = (kind ≡ Replica) × FoundDamaged kind told file at before after
DumpEnds NoMemory kind told before after = DumpedFront kind told before after ⊎ (after ≡ before)
DumpEnds _ kind told before after = ⊥

-- ---- where nothing fails

-- a disk tells its story, and holds something
pub record IsHeld (kind : Kind) (told : Option Story) : Type 0 where
  pub story : Story
  pub tells : told ≡ Some story
  pub held : Held
  pub held_is : held_by kind (seen told) ≡ Ok held

-- no fault came, and the count does not stand at its last value
abbrev pub IsFaultless : (before now : ℕ) → Type 0
IsFaultless before now = Rose before now → ⊥

-- all was done, or memory was short
abbrev pub IsDoneOrShort : Status → Type 0
IsDoneOrShort Done = Unit {0}
IsDoneOrShort NoMemory = Unit {0}
IsDoneOrShort _ = ⊥
