use Rattle.std.proofs.Common.{◌≡◌, drop}
use Rattle.std.specs.List.{list_all}
use Rattle.sql_tree.specs.Well.{is_well_declaration}
use Rattle.sql_tree.specs.StatementView.{view_declarations}
use Rattle.sql_tree.proofs.statement_rules.well_declarations.Given as goal

abbrev pub invariant-loop-declaration : goal.invariant-loop-declaration
invariant-loop-declaration l = list_all is_well_declaration (view_declarations (drop l.declaration-index l.declaration-items)) ≡ list_all is_well_declaration (view_declarations l.declarations)
