-- What the snapshots of a store begin with.
use Rattle.std.specs.Prelude.{◌≡◌, ℕ, ◌+◌, ◌≤◌, ◌==◌, nat_le, if◌then◌else◌, List, [], length, take, drop, Option, Some, None, Result, Ok, Err, IfSome}
use Rattle.std.specs.Option.{option_map}
use denote.Ref.{Bor}
use Rattle.byte_fields.specs.Field.{number_at}
use Rattle.disk_model.specs.declared.refusals.OpenRefusal.{OpenRefusal}
use Rattle.disk_model.specs.declared.refusals.OpenRefusal.TheVariants.{Disk, Damaged, NoMemory}
use Rattle.disk_model.specs.Story.{Story, seen}
use Rattle.store_model.specs.log_model.Images.{Read, and_then}
use Rattle.store_model.specs.declared.record.Kind.{Kind}
use Rattle.store_model.specs.declared.record.Kind.TheVariants.{Replica}
use Rattle.store_model.specs.Reading.{read_as, number_of}
use Rattle.store_model.specs.Held.{Held, most_logs}
use Rattle.store_model.specs.Snapshots.{base_in, node_of}
use Rattle.store_model.specs.Stores.{begun_in}
use Rattle.prog_work.specs.Contents.{Contents, base_of}
use Rattle.store_load.specs.declared.reached.Reached.{Reached}
use Rattle.store_load.specs.declared.stored.Stored.{Stored}
use Rattle.store_load.specs.Loading.{held_in, held_of}
use Rattle.store_open.specs.declared.bodies.Begun.{Begun}

-- the body of a snapshot, where it stands whole in its file
abbrev pub body_in : List ℕ → Option (List ℕ)
body_in file = if nat_le (9 + number_at 1 8 file) (length file) then Some (take (number_at 1 8 file) (drop 9 file)) else None

-- the generation behind the node of a store, and what is behind it
abbrev pub generation_behind : Kind → List ℕ → Read ℕ
generation_behind kind body = and_then (λ node rest. if node == node_of kind then number_of 8 rest else None) (number_of 1 body)

-- how far a store has come, and then its base
abbrev pub with_base : Reached → List ℕ → Read Held
with_base reached rest = read_as (λ base. held_of base reached) (base_in rest)

-- a replica has no logs of its own, and a source not too many
pub record IsReached (kind : Kind) (reached : Reached) : Type 0 where
  pub own : kind ≡ Replica → reached.ends ≡ []
  pub few : length reached.ends ≤ most_logs

-- it was read, of a store of a kind, and what is behind it; or it could not be
abbrev pub HeldRead : Kind → Option (Begun × Bor (List ℕ)) → Read Held → Type 0
HeldRead kind None made = made ≡ None
HeldRead kind (Some (begun, rest)) made = (made ≡ Some (held_of (base_of begun.work) begun.reached, rest.now)) × (begun.work.changes ≡ []) × IsReached kind begun.reached

-- generation and what is held, of what was read
abbrev pub begun_seen : Option Stored → Option (ℕ × Held)
begun_seen = option_map (λ s. (s.generation, held_in s))

-- what was read is that of a store of a kind, with no change to take back
pub record IsBegun (kind : Kind) (s : Stored) : Type 0 where
  pub node : s.node ≡ kind
  pub none : s.work.changes ≡ []
  pub reached : IsReached kind s.reached

-- an open snapshot that is none is told at its first byte
abbrev pub TellsSnapshot : {A : Type 0} → Option Story → Kind → ℕ → Result A OpenRefusal → Type 0
TellsSnapshot t kind file (Ok x) = Unit {0}
TellsSnapshot t kind file (Err Disk) = Unit {0}
TellsSnapshot t kind file (Err NoMemory) = Unit {0}
TellsSnapshot t kind file (Err (Damaged f at)) = IfSome t (λ _. begun_in kind (seen t) file ≡ Err (record { file = f; at = at }))
