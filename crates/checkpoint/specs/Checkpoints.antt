-- What a checkpoint asks of a store and of what its node keeps.
use Rattle.std.specs.Prelude.{◌≡◌, ◌<◌, ◌^◌, ℕ, ◌+◌, List, length, Option, IfSome}
use Rattle.disk_model.specs.Story.{Story}
use Rattle.table_rules.specs.Stores.{Store as Rows}
use Rattle.snapshot_bodies.specs.catalog_show_create.catalog_objects.declared.object.Object.{Object}
use Rattle.store_model.specs.declared.record.Kind.{Kind}
use Rattle.store_model.specs.Held.{Held}
use Rattle.store_model.specs.Snapshots.{snapshot_body}
use Rattle.commit_store.specs.declared.store.Store.{Store}
use Rattle.commit_store.specs.Keeping.{Keeps}
use Rattle.checkpoint_pieces.specs.Newest.{IsReadAgain}
use Rattle.snapshot_bodies.specs.Kept.{base_kept}
use Rattle.snapshot_bodies.specs.store_bodies.Ends.{ends_at}

-- what is held, by the readers of a store and by what its node keeps in memory
abbrev pub held_kept : Store → Rows → List Object → Held
held_kept store tables objects = record {
  base = base_kept tables objects;
  number = store.number;
  ends = ends_at store.ends.list;
  place = record { log = store.log; pos = store.pos };
}

-- a snapshot of what is held has sizes that its fields can say
pub record HasSizes (kind : Kind) (generation : ℕ) (held : Held) : Type 0 where
  pub body : length (snapshot_body kind generation held) < 2 ^ 64
  pub objects : length held.base.catalog < 2 ^ 32

-- What a checkpoint asks of what is held: the disk keeps it, the node has its base in memory, and, where the disk tells, it is read again
-- from a snapshot of the next generation that has sizes.
pub record CanCheckpoint (t : Option Story) (store : Store) (tables : Rows) (objects : List Object) (held : Held) : Type 0 where
  pub keeps : Keeps t store held
  pub base : held.base ≡ base_kept tables objects
  pub again : IfSome t (λ _. HasSizes store.node (store.generation + 1) held → IsReadAgain store.node (store.generation + 1) held)
