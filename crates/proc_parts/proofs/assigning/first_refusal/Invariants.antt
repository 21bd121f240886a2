use Rattle.std.proofs.Common.{◌≡◌, drop}
use Rattle.sql_tree.specs.StatementView.{view_assignments}
use Rattle.name_const.specs.catalog_rules.Names.{first_made}
use Rattle.name_const.specs.proc_model.Procedures.{assignment_refusal, assignments_of}
use Rattle.proc_parts.proofs.assigning.first_refusal.Given as goal

abbrev pub invariant-loop-assignment : goal.invariant-loop-assignment
invariant-loop-assignment l = record {
  same : l.place ≡ l.assignment-index;
  gives :
      first_made (assignment_refusal l.locals) (assignments_of (view_assignments (drop l.assignment-index l.assignments)) (drop l.assignment-index l.values))
      ≡ first_made (assignment_refusal l.locals) (assignments_of (view_assignments l.assignments) l.values);
}
