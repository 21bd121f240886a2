use Rattle.std.proofs.Common.{◌≡◌, drop}
use Rattle.sql_tree.specs.StatementView.{view_assignments}
use Rattle.name_const.specs.sql_meaning.Within.{values_assigned}
use Rattle.proc_parts.proofs.Asked.{trees_before}
use Rattle.proc_parts.proofs.doing.do_assigned.Given as goal

abbrev pub invariant-loop-assignment : goal.invariant-loop-assignment
invariant-loop-assignment l = trees_before l.list (values_assigned (view_assignments (drop l.assignment-index l.assignment-items))) ≡ values_assigned (view_assignments l.assignments)
