use Rattle.std.proofs.Common.{ap, ◌∙◌}
use Rattle.std.specs.Prelude.{Option}
use Rattle.std.specs.Option.{option_map}
use Rattle.sql_tree.specs.StatementView.{view_program}
use Rattle.sql_tree.specs.declared.statements.Routine.{Routine}
use Rattle.catalog_objects.specs.Lookups.{routine_if}
use Rattle.catalog_objects.proofs.Found.{function_found as found}
use Rattle.catalog_objects.proofs.objects.Objects.function.Goals as goal

pub returns : goal.returns
returns c = ap (λ (r : Option Routine). option_map view_program r) (c.routine_if.ensures ∙ ap routine_if c.find.ensures) ∙ found c.args.self.now c.args.name.now
