use Rattle.std.proofs.Common.{◌≡◌, drop, not}
use Rattle.std.specs.Prelude.{filter}
use Rattle.std.specs.List.{list_any}
use Rattle.sql_tree.specs.declared.statements.Column.{Column}
use Rattle.catalog_checks.specs.catalog_rules.Creating.{begins_key, keys_of}
use Rattle.catalog_create_table.proofs.columns.has_counted_behind.Given as goal

abbrev pub invariant-loop-column : goal.invariant-loop-column
invariant-loop-column l = list_any (λ c. not (begins_key (keys_of l.t) c)) (filter (λ (c : Column). c.auto_increment) (drop l.column-index l.column-items)) ≡ list_any (λ c. not (begins_key (keys_of l.t) c)) (filter (λ (c : Column). c.auto_increment) l.t.columns)
