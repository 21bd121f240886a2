-- Why a run stopped, and the cause of a fault at which it did.
use Rattle.std.specs.Prelude.{ℕ, IfSome, Result, Ok, Err}
use Rattle.fault_counts.specs.Causes.{Rose}
use Rattle.answer_text.specs.declared.status.Status.{Status}
use Rattle.answer_text.specs.declared.status.Status.TheVariants.{Done, BadScript, ReadFault, WriteFault, SourceDisk, ReplicaDisk, SourceDamaged, ReplicaDamaged, NoMemory}
use Rattle.disk_model.specs.declared.refusals.OpenRefusal.{OpenRefusal}
use Rattle.disk_model.specs.declared.refusals.OpenRefusal.TheVariants as opening
use Rattle.disk_model.specs.declared.refusals.NodeFault.{NodeFault}
use Rattle.disk_model.specs.declared.refusals.NodeFault.TheVariants as fault
use Rattle.script_run.specs.declared.stops.Refusal.{Refusal}
use Rattle.script_run.specs.declared.stops.Refusal.TheVariants as refusal
use Rattle.script_run.specs.Beginning.{SourceWasDamaged, ReplicaWasDamaged}
use Rattle.script_run.specs.Disks.{Disks, Faults}

-- why a source that opens gave nothing, or one that is open
abbrev pub by_source : OpenRefusal → Refusal
by_source opening.Disk = refusal.SourceDisk
by_source (opening.Damaged file at) = refusal.SourceDamaged file at
by_source opening.NoMemory = refusal.NoMemory

abbrev pub by_open_source : NodeFault → Refusal
by_open_source fault.Disk = refusal.SourceDisk
by_open_source fault.NoMemory = refusal.NoMemory

-- the same of a replica
abbrev pub by_replica : OpenRefusal → Refusal
by_replica opening.Disk = refusal.ReplicaDisk
by_replica (opening.Damaged file at) = refusal.ReplicaDamaged file at
by_replica opening.NoMemory = refusal.NoMemory

abbrev pub by_open_replica : NodeFault → Refusal
by_open_replica fault.Disk = refusal.ReplicaDisk
by_open_replica fault.NoMemory = refusal.NoMemory

-- why a node gave nothing, as a status
abbrev pub status_by : Refusal → Status
status_by refusal.SourceDisk = SourceDisk
status_by refusal.ReplicaDisk = ReplicaDisk
status_by (refusal.SourceDamaged file at) = SourceDamaged file at
status_by (refusal.ReplicaDamaged file at) = ReplicaDamaged file at
status_by refusal.NoMemory = NoMemory

-- the status of a call of the nodes
abbrev pub ended_by : {A : Type 0} → Result A Refusal → Status
ended_by (Ok done) = Done
ended_by (Err why) = status_by why

-- a stop at a fault has its cause: the count of the stream's faults, or of that disk's, rose, or stands at its last value
abbrev pub HasFault : Status → (read now write then : ℕ) → (disk later : Faults) → Type 0
HasFault (BadScript at) read now write then disk later = Unit {0}
HasFault ReadFault read now write then disk later = Rose read now
HasFault WriteFault read now write then disk later = Rose write then
HasFault SourceDisk read now write then disk later = Rose disk.source later.source
HasFault ReplicaDisk read now write then disk later = Rose disk.replica later.replica
HasFault (SourceDamaged file at) read now write then disk later = Unit {0}
HasFault (ReplicaDamaged file at) read now write then disk later = Unit {0}
HasFault NoMemory read now write then disk later = Unit {0}
HasFault _ read now write then disk later = ⊥

-- Commands stop at a fault of the output or of a disk, for which its count rose, or for want of memory. A disk that tells its story is not
-- damaged behind its opening.
abbrev pub StopsRunning : Status → Disks → (write then : ℕ) → (disk later : Faults) → Type 0
StopsRunning WriteFault t write then disk later = Rose write then
StopsRunning SourceDisk t write then disk later = Rose disk.source later.source
StopsRunning ReplicaDisk t write then disk later = Rose disk.replica later.replica
StopsRunning (SourceDamaged file at) t write then disk later = IfSome t.source (λ _. ⊥)
StopsRunning (ReplicaDamaged file at) t write then disk later = IfSome t.replica (λ _. ⊥)
StopsRunning NoMemory t write then disk later = Unit {0}
StopsRunning _ t write then disk later = ⊥

-- Nodes refuse where the disk of one failed, for which its count rose, or where memory is short. A node whose disk tells its story is not
-- damaged where it opens again.
abbrev pub RefusesNodes : Refusal → Disks → (disk later : Faults) → Type 0
RefusesNodes refusal.SourceDisk t disk later = Rose disk.source later.source
RefusesNodes refusal.ReplicaDisk t disk later = Rose disk.replica later.replica
RefusesNodes (refusal.SourceDamaged file at) t disk later = IfSome t.source (λ _. ⊥)
RefusesNodes (refusal.ReplicaDamaged file at) t disk later = IfSome t.replica (λ _. ⊥)
RefusesNodes refusal.NoMemory t disk later = Unit {0}

-- the same of nodes that open: a node is damaged exactly where its disk's files stood for nothing
abbrev pub RefusesOpening : Refusal → Disks → (disk later : Faults) → Type 0
RefusesOpening refusal.SourceDisk t disk later = Rose disk.source later.source
RefusesOpening refusal.ReplicaDisk t disk later = Rose disk.replica later.replica
RefusesOpening (refusal.SourceDamaged file at) t disk later = SourceWasDamaged t.source (record { file = file; at = at })
RefusesOpening (refusal.ReplicaDamaged file at) t disk later = ReplicaWasDamaged t.replica (record { file = file; at = at })
RefusesOpening refusal.NoMemory t disk later = Unit {0}

-- and of nodes that open and then carry out commands
abbrev pub StopsCommands : Status → (write then : ℕ) → (disk later : Faults) → Type 0
StopsCommands WriteFault write then disk later = Rose write then
StopsCommands SourceDisk write then disk later = Rose disk.source later.source
StopsCommands ReplicaDisk write then disk later = Rose disk.replica later.replica
StopsCommands (SourceDamaged file at) write then disk later = Unit {0}
StopsCommands (ReplicaDamaged file at) write then disk later = Unit {0}
StopsCommands NoMemory write then disk later = Unit {0}
StopsCommands _ write then disk later = ⊥

-- a log is not served where the source's disk failed, or memory was short
abbrev pub StopsServing : Status → (disk later : ℕ) → Type 0
StopsServing SourceDisk disk later = Rose disk later
StopsServing NoMemory disk later = Unit {0}
StopsServing _ disk later = ⊥

-- and of commands that write nothing
abbrev pub StopsLogging : Status → Disks → (disk later : Faults) → Type 0
StopsLogging SourceDisk t disk later = Rose disk.source later.source
StopsLogging ReplicaDisk t disk later = Rose disk.replica later.replica
StopsLogging (SourceDamaged file at) t disk later = IfSome t.source (λ _. ⊥)
StopsLogging (ReplicaDamaged file at) t disk later = IfSome t.replica (λ _. ⊥)
StopsLogging NoMemory t disk later = Unit {0}
StopsLogging _ t disk later = ⊥

-- with the opening before them
abbrev pub StopsOpening : Status → Disks → (disk later : Faults) → Type 0
StopsOpening SourceDisk t disk later = Rose disk.source later.source
StopsOpening ReplicaDisk t disk later = Rose disk.replica later.replica
StopsOpening (SourceDamaged file at) t disk later = SourceWasDamaged t.source (record { file = file; at = at })
StopsOpening (ReplicaDamaged file at) t disk later = ReplicaWasDamaged t.replica (record { file = file; at = at })
StopsOpening NoMemory t disk later = Unit {0}
StopsOpening _ t disk later = ⊥
