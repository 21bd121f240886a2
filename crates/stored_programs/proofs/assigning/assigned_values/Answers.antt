use Rattle.std.proofs.Common.{arith}
use Rattle.std.proofs.lemmas.Result.{err_from_is_err_and}
use Rattle.sql_tree.specs.StatementView.{view_assignments}
use Rattle.exec_state.specs.Stage.{scene_of}
use Rattle.exec_state.proofs.Leading.{stage_on}
use Rattle.stored_programs.specs.Bodies.{body_of, world_with}
use Rattle.stored_programs.specs.Steps.{assigned_values}
use Rattle.stored_programs.proofs.Assigned.{values_fail, values_more}
use Rattle.stored_programs.proofs.assigning.assigned_values.Goals as goal

pub returns-in_err-value-clause-gives : goal.returns-in_err-value-clause-gives
returns-in_err-value-clause-gives g c =
    let p = err_from_is_err_and c.from_residual-in_err-value.result c.from_residual-in_err-value.ensures.1 in
    rw (p.1, p.2) (values_fail (world_with c.args.around.now c.args.running.now) (body_of c.args.body.now) c.as_slice-assignment-items.result.now c.loop-assignment.assignment-index c.assignment-item.result c.loop-assignment.values c.in_err-value.field-0.0
    (scene_of c.loop-assignment.stage) (scene_of c.value_here.new.stage) (assigned_values (world_with c.args.around.now c.args.running.now) (body_of c.args.body.now) (view_assignments c.args.assignments.now) (scene_of c.args.stage.now)) (omega arith) c.assignment-item.is c.in_err-value.ensures.gives c.loop-assignment.invariant.gives)

pub loop-assignment-preserved : goal.loop-assignment-preserved
loop-assignment-preserved g c = record {
  gives = rw (c.in_ok-push.ensures.ok) (values_more (world_with c.args.around.now c.args.running.now) (body_of c.args.body.now) c.as_slice-assignment-items.result.now c.loop-assignment.assignment-index c.assignment-item.result c.loop-assignment.values c.in_ok-value.value
      (scene_of c.loop-assignment.stage) (scene_of c.value_here.new.stage) _ (omega arith) c.assignment-item.is c.in_ok-value.ensures.gives c.loop-assignment.invariant.gives);
  leads = stage_on _ _ _ c.loop-assignment.invariant.leads c.value_here.ensures.leads;
}
