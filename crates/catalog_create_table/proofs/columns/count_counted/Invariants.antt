use Rattle.std.proofs.Common.{◌≡◌, ◌≤◌, ◌+◌, drop, length}
use Rattle.std.specs.Prelude.{filter}
use Rattle.sql_tree.specs.declared.statements.Column.{Column}
use Rattle.catalog_create_table.proofs.columns.count_counted.Given as goal

abbrev pub invariant-loop-column : goal.invariant-loop-column
invariant-loop-column l = (l.count ≤ l.column-index) × (l.count + length (filter (λ (c : Column). c.auto_increment) (drop l.column-index l.columns)) ≡ length (filter (λ (c : Column). c.auto_increment) l.columns))
