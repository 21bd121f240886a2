-- Tables as they are kept in memory are those of a catalog.
use Rattle.std.proofs.Common.{◌≡◌, true, List, sym, ◌∙◌, ap, subst}
use Rattle.val_types.specs.declared.definitions.TableDef.{TableDef}
use Rattle.table_rules.specs.Tables.{Table}
use Rattle.table_rules.specs.Stores.{IsWhole, Store as Rows, definitions_of, names_differ}
use Rattle.snapshot_bodies.specs.Kept.{base_kept}
use Rattle.snapshot_bodies.specs.catalog_show_create.catalog_objects.Keys.{objects_of}
use Rattle.snapshot_bodies.specs.catalog_show_create.catalog_objects.declared.object.Object.{Object}
use Rattle.snapshot_bodies.specs.catalog_show_create.catalog_rules.Bases.{Base, definitions_in}
use Rattle.snapshot_bodies.specs.catalog_show_create.catalog_rules.Objects.{Object as Made}
use Rattle.snapshot_laws.specs.Laws.{AreTablesOf}

abbrev based : List Made → List Table → Base
based os ts = record { catalog = os; tables = ts }

module _ (rows : Rows) (objects : List Object) (base : Base) (catalog : objects_of objects ≡ base.catalog) (committed : rows.committed ≡ base.tables) where
  pub base_is_kept : base ≡ base_kept rows objects
  base_is_kept = ap (λ (os : List Made). based os base.tables) (sym catalog) ∙ ap (based (objects_of objects)) (sym committed)

  pub tables_are_theirs : definitions_of rows.tables ≡ definitions_in base.catalog → IsWhole rows → AreTablesOf base.catalog base.tables
  tables_are_theirs theirs whole =
      subst (AreTablesOf base.catalog) committed (record {
        theirs = whole.same ∙ theirs;
        names = subst (λ (ds : List TableDef). names_differ ds ≡ true) (sym whole.same) whole.names;
        kept = whole.committed;
      })
