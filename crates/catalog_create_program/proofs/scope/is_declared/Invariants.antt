use Rattle.std.proofs.Common.{◌≡◌, drop}
use Rattle.sql_tree.specs.StatementView.{view_declarations}
use Rattle.catalog_create_table.specs.catalog_rules.Names.{is_among}
use Rattle.catalog_create_table.specs.catalog_rules.Bodies.{declared_names}
use Rattle.catalog_create_program.proofs.scope.is_declared.Given as goal

abbrev pub invariant-loop-declaration : goal.invariant-loop-declaration
invariant-loop-declaration l =
    is_among (declared_names (view_declarations (drop l.declaration-index l.declaration-items))) l.name ≡ is_among (declared_names (view_declarations l.declarations)) l.name
