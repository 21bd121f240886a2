use Rattle.std.proofs.Common.{drop}
use Rattle.sql_tree.specs.StatementView.{view_assignments}
use Rattle.name_const.specs.proc_model.Procedures.{assign_one, assignments_of, carried_on}
use Rattle.proc_parts.specs.Calls.{Moves}
use Rattle.proc_parts.proofs.Assigned.{OntoAlways}
use Rattle.proc_parts.proofs.assigning.assign_all.Given as goal

abbrev pub invariant-loop-assignment : goal.invariant-loop-assignment
invariant-loop-assignment g l = record {
  gives : OntoAlways g.R.Ruled.rules g.R.Runner.faults (λ held. carried_on assign_one l.locals (assignments_of (view_assignments (drop l.assignment-index l.assignment-items)) l.values) held) l.r (λ held. carried_on assign_one l.fn.locals (assignments_of (view_assignments l.assignments) l.fn.values) held) l.fn.r;
  moves : Moves (g.R.Runner.faults l.fn.r) (g.R.Runner.faults l.r) 0 0;
}
