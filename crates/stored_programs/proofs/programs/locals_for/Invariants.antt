use Rattle.std.proofs.Common.{drop}
use Rattle.stored_programs.specs.Steps.{locals_for}
use Rattle.stored_programs.proofs.Acting.{Same}
use Rattle.stored_programs.proofs.Calling.{locals_left}
use Rattle.stored_programs.proofs.programs.locals_for.Given as goal

abbrev pub invariant-loop-parameter : goal.invariant-loop-parameter
invariant-loop-parameter l = Same (locals_left l.locals (drop l.parameter-index l.parameter-items) l.arguments) (locals_for l.parameters l.fn.arguments)
