use Rattle.std.proofs.Common.{drop}
use Rattle.sql_statements.specs.sql_meaning.Scenes.{carried_on}
use Rattle.sql_statements.specs.sql_meaning.Running.{declare_name}
use Rattle.stored_programs.specs.Bodies.{body_of}
use Rattle.stored_programs.proofs.Acting.{Same}
use Rattle.stored_programs.proofs.Declared.{names_left}
use Rattle.stored_programs.proofs.declaring.declare_names.Given as goal

abbrev pub invariant-loop-name : goal.invariant-loop-name
invariant-loop-name l =
    Same (names_left l.kind l.value (body_of l.body) (drop l.name-index l.name-items)) (carried_on (declare_name l.kind l.value) (body_of l.fn.body) l.names)
