use Rattle.std.proofs.Common.{◌≡◌, ◌++◌, drop}
use Rattle.catalog_objects.specs.catalog_rules.Defined.{written_columns}
use Rattle.catalog_show_create.proofs.tables.written_columns.Given as goal

abbrev pub invariant-loop-place : goal.invariant-loop-place
invariant-loop-place l = l.all ++ written_columns l.auto' l.place (drop l.place l.columns) ≡ written_columns l.auto' 0 l.columns
