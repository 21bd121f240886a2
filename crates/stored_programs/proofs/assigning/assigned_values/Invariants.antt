use Rattle.std.proofs.Common.{◌≡◌, drop}
use Rattle.sql_tree.specs.StatementView.{view_assignments}
use Rattle.exec_state.specs.Stage.{LeadsOn, scene_of}
use Rattle.stored_programs.specs.Bodies.{body_of, world_with}
use Rattle.stored_programs.specs.Steps.{assigned_values}
use Rattle.stored_programs.proofs.Assigned.{values_left}
use Rattle.stored_programs.proofs.assigning.assigned_values.Given as goal

abbrev pub invariant-loop-assignment : goal.invariant-loop-assignment
invariant-loop-assignment g l = record {
  gives : values_left (world_with l.around l.running) (body_of l.body) (drop l.assignment-index l.assignment-items) l.values (scene_of l.stage) ≡ assigned_values (world_with l.around l.running) (body_of l.body) (view_assignments l.assignments) (scene_of l.fn.stage);
  leads : LeadsOn l.fn.stage l.stage;
}
