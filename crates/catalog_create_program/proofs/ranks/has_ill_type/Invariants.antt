use Rattle.std.proofs.Common.{◌≡◌, map, drop}
use Rattle.std.specs.List.{list_any}
use Rattle.sql_tree.specs.declared.statements.Parameter.{Parameter}
use Rattle.catalog_create_table.specs.catalog_rules.Creating.{is_ill_type}
use Rattle.catalog_create_program.proofs.ranks.has_ill_type.Given as goal

abbrev pub invariant-loop-parameter : goal.invariant-loop-parameter
invariant-loop-parameter l =
    list_any is_ill_type (map (λ (p : Parameter). p.kind) (drop l.parameter-index l.parameter-items)) ≡ list_any is_ill_type (map (λ (p : Parameter). p.kind) l.parameters)
