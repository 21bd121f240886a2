use Rattle.std.specs.Prelude.{◌||◌}
use Rattle.std.proofs.Common.{◌≡◌, ℕ, List, map, drop}
use Rattle.catalog_checks.specs.catalog_rules.Names.{is_among}
use Rattle.val_types.specs.Changes.{table_of}
use Rattle.binlog_items.proofs.tables.names_in.Given as goal

-- those so far, and those of the changes that are left
abbrev pub invariant-loop-change : goal.invariant-loop-change
invariant-loop-change l = (name : List ℕ) → is_among l.names name || is_among (map table_of (drop l.change-index l.changes)) name ≡ is_among (map table_of l.changes) name
