-- What a replica node is, as its contracts see it.
use Rattle.std.specs.Prelude.{ℕ, []}
use Rattle.port_traits.specs.declared.identity.Identity.{Identity}
use Rattle.commit_store.specs.store_model.Held.{Held}
use Rattle.stmt_apply.specs.prog_run.prog_work.Contents.{Contents, base_of}
use Rattle.relay_log.specs.Reaching.{Fetched}
use Rattle.replica_model.specs.Replica.{Replica}

-- who it is, its rows, how many transactions it has carried out, and what it has fetched from its place on
pub record Kept : Type 0 where
  pub identity : Identity
  pub work : Contents
  pub number : ℕ
  pub relay : Fetched

-- as the definition has it
abbrev pub replica_of : Kept → Replica
replica_of k = record { base = base_of k.work; counters = k.work.counters; number = k.number; place = k.relay.place; relay = k.relay.bytes }

-- what its store has to hold
abbrev pub held_of : Replica → Held
held_of r = record { base = r.base; number = r.number; ends = []; place = r.place }
