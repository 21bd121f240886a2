-- What a store holds is read again from a snapshot of it.
use Rattle.std.specs.Prelude.{◌≡◌, ◌<◌, ◌^◌, ℕ, true, List, length, Some}
use Rattle.table_rules.specs.Tables.{Table}
use Rattle.table_rules.specs.Changes.{AreKept}
use Rattle.table_rules.specs.Stores.{definitions_of, names_differ}
use Rattle.catalog_laws.specs.catalog_rules.Bases.{definitions_in}
use Rattle.catalog_laws.specs.catalog_rules.Objects.{Object}
use Rattle.catalog_laws.specs.Making.{AreMadeAgain}
use Rattle.store_model.specs.declared.record.Kind.{Kind}
use Rattle.store_model.specs.declared.record.Kind.TheVariants.{Source}
use Rattle.store_model.specs.Held.{Held}
use Rattle.store_model.specs.Snapshots.{snapshot_body, snapshot_of, HasPlaces}
use Rattle.store_model.specs.Stores.{Stands}
use Rattle.disk_model.specs.Story.{Image}

-- tables are those of a catalog, no two have one name, and they hold what tables have to
pub record AreTablesOf (catalog : List Object) (tables : List Table) : Type 0 where
  pub theirs : definitions_of tables ≡ definitions_in catalog
  pub names : names_differ (definitions_of tables) ≡ true
  pub kept : AreKept tables

-- where objects can be made again and the tables are theirs, and numbers and lengths have their bytes, a snapshot's body is read as what is held
abbrev pub HeldIsReadAgain : Type 0
HeldIsReadAgain =
    (kind : Kind) (generation : ℕ) (held : Held) → AreMadeAgain held.base.catalog → AreTablesOf held.base.catalog held.base.tables → HasPlaces kind held
    → generation < 2 ^ 64 → held.number < 2 ^ 64 → length held.base.catalog < 2 ^ 32 → length (snapshot_body kind generation held) < 2 ^ 64
    → snapshot_of kind (snapshot_body kind generation held) ≡ Some (generation, held)

-- what a source's store holds that has a log has numbers and ends within the bounds of a snapshot
abbrev pub SourcesHavePlaces : Type 0
SourcesHavePlaces = (generation : ℕ) (image : Image) (held : Held) → Stands Source generation image held → 0 < length held.ends → HasPlaces Source held
