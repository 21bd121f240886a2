-- A replica on its disk: what it has there, and what its store comes to hold in an APPLY.
use Rattle.std.specs.Prelude.{◌≡◌, ℕ, length, Option, IfSome}
use Rattle.port_traits.specs.declared.identity.Identity.{Identity}
use Rattle.port_traits.specs.declared.identity.Draw.{Draw}
use Rattle.disk_model.specs.Story.{Story, seen}
use Rattle.replica_node.specs.replica_model.Applying.{go_on, going_from}
use Rattle.replica_node.specs.replica_model.Replica.{Replica}
use Rattle.store_model.specs.Held.{Held}
use Rattle.store_model.specs.Stores.{first_log}
use Rattle.store_checkpoints.specs.store_replica.Writing.{IsOn}
use Rattle.replica_node.specs.Kept.{held_of, replica_of}
use Rattle.durable_replica.specs.declared.replica.DurableReplica.{DurableReplica}

-- Its disk has what it keeps in memory, and its relay's file as many bytes as were fetched since it opened.
pub record IsOnDisk (t : Option Story) (k : DurableReplica) : Type 0 where
  pub on : IsOn t k.store (held_of (replica_of k.node))
  pub relay : IfSome t (λ _. length (seen t first_log) ≡ k.fetched)

-- what its store has to hold behind so many steps of an APPLY
abbrev pub held_behind : (steps wanted : ℕ) → Identity → Draw → Replica → Held
held_behind steps wanted identity draw r = held_of (go_on steps wanted identity draw (going_from r)).replica

-- what its store comes to hold in an APPLY: that behind some of its steps
abbrev pub IsStateOf : (wanted : ℕ) → Identity → Draw → Replica → Held → Type 0
IsStateOf wanted identity draw r held = (steps : ℕ) × (held ≡ held_behind steps wanted identity draw r)
