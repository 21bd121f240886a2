use Rattle.std.proofs.Common.{◌≡◌, map, drop}
use Rattle.sql_tree.specs.declared.statements.Parameter.{Parameter}
use Rattle.catalog_create_table.specs.catalog_rules.Names.{is_among}
use Rattle.catalog_create_program.proofs.scope.is_parameter.Given as goal

abbrev pub invariant-loop-parameter : goal.invariant-loop-parameter
invariant-loop-parameter l =
    is_among (map (λ (p : Parameter). p.name) (drop l.parameter-index l.parameter-items)) l.name ≡ is_among (map (λ (p : Parameter). p.name) l.parameters) l.name
