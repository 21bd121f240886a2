-- What the calls of a disk answer.
use Rattle.std.specs.Prelude.{◌≡◌, ℕ, ◌+◌, ◌-◌, ◌^◌, ◌≤◌, min, Bool, true, false, nat_lt, if◌then◌else◌, List, length, take, drop, Option, Result, Ok, Err}
use Rattle.fault_counts.specs.Causes.{Rose}
use Rattle.disk_model.specs.declared.call.Call.{Call}
use Rattle.disk_model.specs.declared.call.Call.TheVariants.{Look, Write}
use Rattle.disk_model.specs.declared.refusals.DiskRefusal.{DiskRefusal}
use Rattle.disk_model.specs.declared.refusals.DiskRefusal.TheVariants.{Failed, NoMemory}
use Rattle.disk_model.specs.declared.refusals.NodeFault.{NodeFault}
use Rattle.disk_model.specs.declared.refusals.NodeFault.TheVariants as node
use Rattle.disk_model.specs.declared.refusals.OpenRefusal.{OpenRefusal}
use Rattle.disk_model.specs.declared.refusals.OpenRefusal.TheVariants as opening
use Rattle.disk_model.specs.Story.{Story, then_call}

-- the story after a call: done at Ok, begun at Failed; one that found no memory was no call
abbrev pub Tells : {A : Type 0} → Result A DiskRefusal → (Bool → Call) → Option Story → Option Story → Type 0
Tells (Ok x) call old new = new ≡ then_call (call true) old
Tells (Err Failed) call old new = new ≡ then_call (call false) old
Tells (Err NoMemory) call old new = new ≡ old

-- a write as a story has it, done or not; one that would end above 2^64 - 1 changes nothing, as a call that looks
abbrev pub write_call : ℕ → ℕ → List ℕ → Bool → Call
write_call file at piece done = if nat_lt (at + length piece) (2 ^ 64) then Write file at piece done else Look

-- a count of faults does not fall, and Failed is answered only where it rose
pub record HasDiskCause {A : Type 0} (before now : ℕ) (result : Result A DiskRefusal) : Type 0 where
  pub later : before ≤ now
  pub failed : result ≡ Err Failed → Rose before now

-- the same of a node's calls, which answer a disk's fault as Disk
pub record HasNodeCause {A : Type 0} (before now : ℕ) (result : Result A NodeFault) : Type 0 where
  pub later : before ≤ now
  pub disk : result ≡ Err node.Disk → Rose before now

-- the same of openings
pub record HasOpenCause {A : Type 0} (before now : ℕ) (result : Result A OpenRefusal) : Type 0 where
  pub later : before ≤ now
  pub disk : result ≡ Err opening.Disk → Rose before now

-- as many bytes of the file from the place on as it and the buffer have, at the front of the buffer
pub record Reads (file : List ℕ) (at n : ℕ) (buffer : List ℕ) : Type 0 where
  pub size : n ≡ min (length buffer) (length file - at)
  pub bytes : take n buffer ≡ take n (drop at file)
