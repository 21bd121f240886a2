-- What a node keeps in memory of its store.
use Rattle.std.specs.Prelude.{List}
use Rattle.table_rules.specs.Stores.{Store}
use Rattle.catalog_show_create.specs.catalog_rules.Bases.{Base}
use Rattle.catalog_show_create.specs.catalog_objects.declared.object.Object.{Object}
use Rattle.catalog_show_create.specs.catalog_objects.Keys.{objects_of}

-- its base: the objects of the catalog, and the rows of its tables that are there to stay, whatever is shown of them
abbrev pub base_kept : Store → List Object → Base
base_kept tables objects = record { catalog = objects_of objects; tables = tables.committed }
