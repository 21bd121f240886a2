use Rattle.std.proofs.Common.{◌≡◌, drop, cond, map}
use Rattle.sql_tree.specs.StatementView.{view_sets}
use Rattle.sql_print.specs.Names.{commas, more_of}
use Rattle.sql_print.specs.StatementSpelling.{set_text}
use Rattle.name_const_length.specs.Closed.{closed_sets}
use Rattle.name_const_length.specs.Growing.{grown}
use Rattle.name_const_length.proofs.statements.add_sets.Given as goal

abbrev pub invariant-loop-set : goal.invariant-loop-set
invariant-loop-set l =
    let rest = map set_text (closed_sets l.locals (view_sets (drop l.set-index l.set-items))) in
    grown l.total (cond l.first (commas rest) (more_of rest)) ≡ grown l.fn.total (commas (map set_text (closed_sets l.locals (view_sets l.sets))))
