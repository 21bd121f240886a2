use Rattle.std.proofs.Common.{◌≡◌, drop, cond, map}
use Rattle.sql_print.specs.Names.{quoted_name, commas, more_of, names_of}
use Rattle.name_const_length.specs.Growing.{grown}
use Rattle.name_const_length.proofs.lengths.add_names.Given as goal

abbrev pub invariant-loop-name : goal.invariant-loop-name
invariant-loop-name l =
    let rest = map quoted_name (drop l.name-index l.name-items) in
    grown l.total (cond l.first (commas rest) (more_of rest)) ≡ grown l.fn.total (names_of l.names)
