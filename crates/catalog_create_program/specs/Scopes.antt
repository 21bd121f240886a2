-- The names of the locals in scope.
use Rattle.std.specs.Prelude.{ℕ, List, [], ◌++◌, map}
use Rattle.sql_tree.specs.StatementView.{view_declarations}
use Rattle.sql_tree.specs.declared.statements.Parameter.{Parameter}
use Rattle.catalog_create_table.specs.catalog_rules.Bodies.{declared_names}
use Rattle.catalog_create_program.specs.declared.scope.Names.{Names, fold-Names}
use Rattle.catalog_create_program.specs.declared.scope.Names.TheOpen.{Names-F}

abbrev names_step : Names-F (List (List ℕ)) → List (List ℕ)
names_step Names-F.Nothing = []
names_step (Names-F.Parameters ps) = map (λ (p : Parameter). p.name) ps.now
names_step (Names-F.Declared ds outer) = declared_names (view_declarations ds.now) ++ outer.now

abbrev pub names_of : Names → List (List ℕ)
names_of = fold-Names (List (List ℕ)) names_step
