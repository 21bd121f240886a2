use Rattle.std.proofs.Common.{◌≡◌, ◌++◌, drop, cond, map}
use Rattle.sql_tree.specs.StatementView.{view_assignments}
use Rattle.sql_print.specs.Names.{commas, more_of}
use Rattle.sql_print.specs.StatementSpelling.{assignment_text, assignments_text}
use Rattle.sql_print.proofs.statements.write_assignments.Given as goal

abbrev pub invariant-loop-assignment : goal.invariant-loop-assignment
invariant-loop-assignment l =
    let rest = map assignment_text (view_assignments (drop l.assignment-index l.assignment-items)) in
    l.out ++ cond l.first (commas rest) (more_of rest) ≡ l.fn.out ++ assignments_text (view_assignments l.assignments)
