use Rattle.std.proofs.Common.{◌≡◌, map, take}
use Rattle.sql_tree.specs.declared.statements.Column.{Column}
use Rattle.catalog_checks.specs.catalog_rules.Defined.{defined_key}
use Rattle.catalog_create_table.proofs.defining.keys_of.Given as goal

abbrev pub invariant-loop-key : goal.invariant-loop-key
invariant-loop-key l = l.all ≡ map (defined_key (map (λ (c : Column). c.name) l.columns)) (take l.key-index l.keys)
