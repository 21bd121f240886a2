-- What a replica has on its disk, and how keeping a record changes it.
use Rattle.std.specs.Prelude.{◌≡◌, ◌⊎◌, ◌<◌, ◌^◌, Bool, if◌then◌else◌, length, Option, Some, Ok, IfSome}
use Rattle.disk_model.specs.Story.{Story, count, seen}
use Rattle.disk_model.specs.Moments.{Always, GoesOn}
use Rattle.store_model.specs.declared.record.Kind.TheVariants.{Replica}
use Rattle.store_model.specs.declared.record.Record.{Record}
use Rattle.store_model.specs.Bodies.{IsRecord, body_of}
use Rattle.store_model.specs.Held.{Held, applied, next_applied}
use Rattle.store_model.specs.Stores.{held_by}
use Rattle.commit_store.specs.declared.prepared.Prepared.{Prepared}
use Rattle.commit_store.specs.declared.store.Store.{Store}
use Rattle.commit_store.specs.Keeping.{Keeps}
use Rattle.commit_store.specs.Next.{prepared_of}
use Rattle.durable_runs.specs.Replicas.{ReplicaStands}

-- A replica's disk has this, durable: its store keeps what is held.
pub record IsOn (t : Option Story) (store : Store) (held : Held) : Type 0 where
  pub node : store.node ≡ Replica
  pub keeps : Keeps t store held
  pub fits : held.number < 2 ^ 64

-- what is read of a disk that tells holds this
abbrev pub OpensOn : Option Story → Held → Type 0
OpensOn t held = IfSome t (λ _. held_by Replica (seen t) ≡ Ok held)

-- A record can be kept: it is one of a replica, has a body that a journal takes, and leads on from what the disk has; and this was prepared
-- of it.
pub record CanKeep (t : Option Story) (store : Store) (p : Prepared) (r : Record) (held now : Held) : Type 0 where
  pub on : IsOn t store held
  pub form : IsRecord Replica r
  pub fits : length (body_of r) < 2 ^ 32
  pub makes : applied r held ≡ Some now
  pub prepared : p ≡ prepared_of r

-- it counts one transaction more, or none
abbrev pub IsCounted : (counts : Bool) → (held now : Held) → Type 0
IsCounted counts held now = now.number ≡ (if counts then next_applied held.number else held.number)

-- ---- moments

-- calls that leave what the replica has: at each moment an image stands for it
pub record StaysOn (t u : Option Story) (held : Held) : Type 0 where
  pub on : GoesOn t u
  pub images : Always (count t) u (ReplicaStands held)

-- calls that lead on: at each moment an image stands for what the replica had, or for what it has behind them
pub record LeadsTo (t u : Option Story) (held now : Held) : Type 0 where
  pub on : GoesOn t u
  pub images : Always (count t) u (λ image. ReplicaStands held image ⊎ ReplicaStands now image)
