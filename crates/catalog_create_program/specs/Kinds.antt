-- The kind of stored program that a kind of the code stands for.
use Rattle.catalog_create_table.specs.catalog_rules.Bodies.{Kind, of_function, of_procedure, of_trigger}
use Rattle.catalog_create_program.specs.declared.kinds.Kind.{Kind as Given}
use Rattle.catalog_create_program.specs.declared.kinds.Kind.TheVariants as kinds

abbrev pub kind_of : Given → Kind
kind_of kinds.Function = of_function
kind_of kinds.Procedure = of_procedure
kind_of (kinds.Trigger writes_new) = of_trigger writes_new
