use Rattle.std.proofs.Common.{◌≡◌, drop}
use Rattle.std.specs.List.{list_any}
use Rattle.sql_tree.specs.declared.statements.Column.{Column}
use Rattle.catalog_checks.specs.catalog_rules.Creating.{is_ill_type}
use Rattle.catalog_create_table.proofs.columns.has_ill_type.Given as goal

abbrev pub invariant-loop-column : goal.invariant-loop-column
invariant-loop-column l = list_any (λ (c : Column). is_ill_type c.kind) (drop l.column-index l.columns) ≡ list_any (λ (c : Column). is_ill_type c.kind) l.columns
