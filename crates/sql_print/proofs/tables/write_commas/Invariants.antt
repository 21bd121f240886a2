use Rattle.std.proofs.Common.{◌≡◌, ◌++◌, drop, cond}
use Rattle.sql_print.specs.Names.{commas, more_of}
use Rattle.sql_print.proofs.tables.write_commas.Given as goal

abbrev pub invariant-loop-part : goal.invariant-loop-part
invariant-loop-part l =
    let rest = drop l.part-index l.part-items in
    l.out ++ cond l.first (commas rest) (more_of rest) ≡ l.fn.out ++ commas l.parts
