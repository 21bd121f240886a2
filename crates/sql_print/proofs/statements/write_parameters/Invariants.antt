use Rattle.std.proofs.Common.{◌≡◌, ◌++◌, drop, cond, map}
use Rattle.sql_print.specs.Names.{commas, more_of}
use Rattle.sql_print.specs.StatementSpelling.{parameter_text}
use Rattle.sql_print.proofs.statements.write_parameters.Given as goal

abbrev pub invariant-loop-parameter : goal.invariant-loop-parameter
invariant-loop-parameter l =
    let rest = map parameter_text (drop l.parameter-index l.parameter-items) in
    l.out ++ cond l.first (commas rest) (more_of rest) ≡ l.fn.out ++ commas (map parameter_text l.parameters)
