-- A journal on a disk.
use Rattle.std.specs.Prelude.{◌≡◌, ◌⊎◌, ℕ, ◌+◌, ◌^◌, ◌<◌, ◌≤◌, List, length, take, drop, slice_index, Option, Result, Ok, Err, IfSome, MatchBool}
use Rattle.disk_model.specs.declared.refusals.OpenRefusal.{OpenRefusal}
use Rattle.disk_model.specs.declared.refusals.OpenRefusal.TheVariants.{Disk, Damaged, NoMemory}
use Rattle.disk_model.specs.Story.{Story, seen}
use Rattle.disk_model.specs.Moments.{Only}
use Rattle.gate_journal.specs.declared.journal.Journal.{Journal}
use Rattle.gate_journal.specs.Records.{records, Opened, with_last, framed}

-- a closed gate stands at this place, behind the open records
pub record IsAtGate (file : List ℕ) (gate : ℕ) : Type 0 where
  pub opened : Opened
  pub is : records file ≡ Ok opened
  pub place : opened.gate ≡ gate
  pub within : gate < length file
  pub closed : slice_index file gate ≡ 0

-- the file is durable, with a closed gate at the journal's place
pub record Rests (t : Option Story) (j : Journal) : Type 0 where
  pub durable : Only t j.file (seen t j.file)
  pub room : j.gate + 1 < 2 ^ 64
  pub gate : IfSome t (λ _. IsAtGate (seen t j.file) j.gate)

-- a body's bytes are made
pub record IsPrepared (j : Journal) (body : List ℕ) : Type 0 where
  pub ready : j.ready ≡ framed body
  pub fits : length body < 2 ^ 32

-- they stand behind the gate, durable
pub record HasStaged (t : Option Story) (j : Journal) (body : List ℕ) : Type 0 where
  pub rests : Rests t j
  pub prepared : IsPrepared j body
  pub room : j.gate + 1 + length j.ready < 2 ^ 64
  pub staged : IfSome t (λ _. take (length j.ready) (drop (j.gate + 1) (seen t j.file)) ≡ j.ready)

-- a journal as a scan finds it: at a gate, or without one in a file of at most one byte
pub record IsFound (t : Option Story) (j : Journal) : Type 0 where
  pub room : j.gate + 1 < 2 ^ 64
  pub gate : IfSome t (λ _. MatchBool j.fresh ((length (seen t j.file) ≤ 1) × (j.gate ≡ 0)) (IsAtGate (seen t j.file) j.gate))

-- a file stands for the records that are read
abbrev pub SameRecords : Option Story → ℕ → List ℕ → Type 0
SameRecords t f file = records file ≡ records (seen t f)

-- or for those and one more
abbrev pub MaybeOneMore : Option Story → ℕ → List ℕ → List ℕ → Type 0
MaybeOneMore t f body file = (records file ≡ records (seen t f)) ⊎ (records file ≡ with_last body (records (seen t f)))

-- damage is told exactly at the first open record that is not whole
abbrev pub TellsDamage : {A : Type 0} → Option Story → ℕ → Result A OpenRefusal → Type 0
TellsDamage t f (Ok x) = Unit {0}
TellsDamage t f (Err Disk) = Unit {0}
TellsDamage t f (Err NoMemory) = Unit {0}
TellsDamage t f (Err (Damaged g at)) = IfSome t (λ _. (g ≡ f) × (records (seen t f) ≡ Err at))
