use Rattle.std.proofs.Common.{drop}
use Rattle.sql_tree.specs.StatementView.{view_assignments}
use Rattle.stored_programs.specs.Bodies.{body_of}
use Rattle.stored_programs.specs.Steps.{all_assigned}
use Rattle.stored_programs.proofs.Acting.{Same}
use Rattle.stored_programs.proofs.Assigned.{assigned_left}
use Rattle.stored_programs.proofs.assigning.assign_all.Given as goal

abbrev pub invariant-loop-assignment : goal.invariant-loop-assignment
invariant-loop-assignment l =
    Same (assigned_left (body_of l.body) (drop l.assignment-index l.assignment-items) l.values) (all_assigned (body_of l.fn.body) (view_assignments l.assignments) l.fn.values)
