use Rattle.std.proofs.Common.{◌≡◌, ◌++◌, drop, cond, map}
use Rattle.sql_tree.specs.StatementView.{view_sets}
use Rattle.sql_print.specs.Names.{commas, more_of}
use Rattle.sql_print.specs.StatementSpelling.{set_text, sets_text}
use Rattle.sql_print.proofs.statements.write_sets.Given as goal

abbrev pub invariant-loop-set : goal.invariant-loop-set
invariant-loop-set l =
    let rest = map set_text (view_sets (drop l.set-index l.set-items)) in
    l.out ++ cond l.first (commas rest) (more_of rest) ≡ l.fn.out ++ sets_text (view_sets l.sets)
