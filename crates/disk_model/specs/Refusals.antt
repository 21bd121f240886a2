-- A disk's refusal as those above it give it on.
use Rattle.disk_model.specs.declared.refusals.DiskRefusal.{DiskRefusal}
use Rattle.disk_model.specs.declared.refusals.DiskRefusal.TheVariants as disk
use Rattle.disk_model.specs.declared.refusals.NodeFault.{NodeFault}
use Rattle.disk_model.specs.declared.refusals.NodeFault.TheVariants as node
use Rattle.disk_model.specs.declared.refusals.OpenRefusal.{OpenRefusal}
use Rattle.disk_model.specs.declared.refusals.OpenRefusal.TheVariants as opening

-- as a node gives it
abbrev pub fault_of : DiskRefusal → NodeFault
fault_of disk.Failed = node.Disk
fault_of disk.NoMemory = node.NoMemory

-- as an opening gives it
abbrev pub refusal_of : DiskRefusal → OpenRefusal
refusal_of disk.Failed = opening.Disk
refusal_of disk.NoMemory = opening.NoMemory
