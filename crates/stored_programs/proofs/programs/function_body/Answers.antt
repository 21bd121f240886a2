use Rattle.exec_state.specs.Stage.{scene_of}
use Rattle.stored_programs.specs.Bodies.{body_of}
use Rattle.stored_programs.proofs.Calling.{function_returns}
use Rattle.stored_programs.proofs.programs.function_body.Goals as goal

pub returns-in-Some-clause-gives : goal.returns-in-Some-clause-gives
returns-in-Some-clause-gives g c =
    function_returns c.args.around.now c.args.routine.now c.args.arguments c.in_ok-locals_for.field-0 (body_of c.step.new.body) c.in-Some.value c.fit_result.result (scene_of c.args.stage.now) (scene_of c.step.new.stage)
    c.in_ok-locals_for.ensures (rw (c.in-Some.is) at c.in_ok-value.ensures.gives) c.fit_result.ensures
