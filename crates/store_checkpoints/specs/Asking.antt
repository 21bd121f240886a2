-- What a checkpoint asks of a source's disk, and of a replica's.
use Rattle.std.specs.Prelude.{◌≡◌, List, Option}
use Rattle.disk_model.specs.Story.{Story}
use Rattle.table_rules.specs.Stores.{Store as Rows}
use Rattle.snapshot_bodies.specs.catalog_show_create.catalog_objects.declared.object.Object.{Object}
use Rattle.snapshot_bodies.specs.Kept.{base_kept}
use Rattle.snapshot_laws.specs.Laws.{AreTablesOf}
use Rattle.store_model.specs.Held.{Held}
use Rattle.commit_store.specs.declared.store.Store.{Store}
use Rattle.store_source.specs.durable_runs.Sources.{Stored}
use Rattle.store_source.specs.Writing.{IsOn as SourceIsOn}
use Rattle.store_replica.specs.Writing.{IsOn as ReplicaIsOn}

-- A source's disk has this, its base is kept in memory, and its tables are those of its catalog.
pub record SourceCan (t : Option Story) (store : Store) (rows : Rows) (objects : List Object) (s : Stored) : Type 0 where
  pub on : SourceIsOn t store s
  pub base : s.held.base ≡ base_kept rows objects
  pub tables : AreTablesOf s.held.base.catalog s.held.base.tables

-- the same of a replica
pub record ReplicaCan (t : Option Story) (store : Store) (rows : Rows) (objects : List Object) (held : Held) : Type 0 where
  pub on : ReplicaIsOn t store held
  pub base : held.base ≡ base_kept rows objects
  pub tables : AreTablesOf held.base.catalog held.base.tables
