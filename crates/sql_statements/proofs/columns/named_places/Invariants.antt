use Rattle.std.proofs.Common.{◌≡◌, ◌++◌, drop}
use Rattle.changed_rows.specs.catalog_rules.Defined.{places_of}
use Rattle.changed_rows.specs.catalog_rules.Objects.{columns_of}
use Rattle.sql_statements.proofs.columns.named_places.Given as goal

abbrev pub invariant-loop-name : goal.invariant-loop-name
invariant-loop-name l = l.places ++ places_of (columns_of l.definition) (drop l.name-index l.names) ≡ places_of (columns_of l.definition) l.names
