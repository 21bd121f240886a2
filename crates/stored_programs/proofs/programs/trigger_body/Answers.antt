use Rattle.stored_programs.proofs.NewRows.{leaves_as_given}
use Rattle.stored_programs.proofs.programs.trigger_body.Goals as goal

pub left-requires : goal.left-requires
left-requires g c =
    leaves_as_given c.args.around.now c.args.definition.now c.args.new _ c.step.new.body _ _ _ _ c.in_ok-step.ensures.gives c.in_ok-given_row.ensures
