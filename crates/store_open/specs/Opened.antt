-- A store that is opened.
use Rattle.std.specs.Prelude.{◌≡◌, ◌⊎◌, ℕ, ◌+◌, ◌<◌, ◌≤◌, length, Option, Ok, IfSome}
use Rattle.disk_model.specs.Story.{Story, seen}
use Rattle.disk_model.specs.Moments.{Only}
use Rattle.prog_work.specs.Contents.{Contents, base_of}
use Rattle.store_model.specs.sql_reach.Defining.{counters_begun}
use Rattle.store_model.specs.declared.record.Kind.{Kind}
use Rattle.store_model.specs.Held.{Held}
use Rattle.store_model.specs.Stores.{begun_from, first_log, journal_of}
use Rattle.commit_store.specs.declared.store.Store.{Store}
use Rattle.store_load.specs.declared.stored.Stored.{Stored}
use Rattle.store_load.specs.Loading.{ends_at}
use Rattle.store_open.specs.declared.opening.Opened.{Opened}

-- what is held, by the base of what is worked on and the readers of a store
abbrev pub held_with : Contents → Store → Held
held_with work store = record {
  base = base_of work;
  number = store.number;
  ends = ends_at store.ends.list;
  place = record { log = store.log; pos = store.pos };
}

-- what was read, as a store that goes on, with its counters started
pub record IsOpened (stored : Stored) (o : Opened) : Type 0 where
  pub work : o.work ≡ record stored.work { counters = counters_begun (base_of stored.work) }
  pub node : o.store.node ≡ stored.node
  pub generation : o.store.generation ≡ stored.generation
  pub number : o.store.number ≡ stored.reached.number
  pub ends : o.store.ends.list ≡ stored.reached.ends
  pub log : o.store.log ≡ stored.reached.log
  pub pos : o.store.pos ≡ stored.reached.pos
  pub journal : o.store.journal ≡ stored.journal

-- what an image begins with, where the disk tells, is of this generation: that of the snapshot that counts, or 0
abbrev pub IsActive : Option Story → Kind → (generation : ℕ) → Type 0
IsActive t kind generation = IfSome t (λ _. (begun : Held) × (begun_from kind (seen t) ≡ Ok (generation, begun)))

-- a file that an opening reads: of the snapshots, of a generation's journal, of a log
abbrev pub IsRead : (generation logs f : ℕ) → Type 0
IsRead generation logs f = (f < 2) ⊎ ((f ≡ journal_of generation) ⊎ ((first_log ≤ f) × (f < first_log + logs)))

-- each of them is durable as it is read
abbrev pub AreSettled : Option Story → Store → Type 0
AreSettled t store = (f : ℕ) → IsRead store.generation (length store.ends.list) f → Only t f (seen t f)
