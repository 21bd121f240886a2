use Rattle.std.proofs.Common.{◌≡◌, ◌≤◌, ◌+◌, ◌*◌, map, drop, false}
use Rattle.std.specs.Prelude.{sum}
use Rattle.std.specs.List.{list_any}
use Rattle.sql_tree.specs.declared.statements.Column.{Column}
use Rattle.catalog_checks.specs.catalog_rules.Creating.{is_ill_type, width_of}
use Rattle.catalog_create_table.proofs.columns.values_width.Given as goal

abbrev pub invariant-loop-column : goal.invariant-loop-column
invariant-loop-column l = (l.total ≤ 65537 * l.column-index) × (list_any (λ (c : Column). is_ill_type c.kind) (drop l.column-index l.columns) ≡ false) × (l.total + sum (map (λ (c : Column). width_of c.kind) (drop l.column-index l.columns)) ≡ sum (map (λ (c : Column). width_of c.kind) l.columns))
