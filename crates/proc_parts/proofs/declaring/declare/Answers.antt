use Rattle.std.proofs.lemmas.Result.{err_from_is_err_and}
use Rattle.sql_tree.specs.StatementView.{view_declaration}
use Rattle.proc_parts.specs.Calls.{always, held_of, plainly}
use Rattle.proc_parts.proofs.Declared.{declare_done, declare_unfit, declare_unset}
use Rattle.proc_parts.proofs.declaring.declare.Goals as goal

pub returns-in_err-value-clause-gives : goal.returns-in_err-value-clause-gives
returns-in_err-value-clause-gives g c =
    let p = err_from_is_err_and c.from_residual.result c.from_residual.ensures.1 in
    rw (p.1, p.2) (declare_unset g.R.Ruled.rules g.R.Runner.faults c.args.world.now plainly (always c.args.locals.now) c.args.locals.now (view_declaration c.args.declaration.now) c.in_err-value.field-0.0 (held_of c.args.held.now) (held_of c.preset_value.new.held) c.args.r.now c.preset_value.new.r c.in_err-value.ensures.gives)

pub returns-in_err-add_locals-clause-gives : goal.returns-in_err-add_locals-clause-gives
returns-in_err-add_locals-clause-gives g c =
    let p = err_from_is_err_and c.from_residual-in_err-add_locals.result c.from_residual-in_err-add_locals.ensures.1 in
    rw (p.1, p.2) (declare_unfit g.R.Ruled.rules g.R.Runner.faults c.args.world.now (always c.add_locals.new.locals) c.args.locals.now c.add_locals.new.locals (view_declaration c.args.declaration.now) c.in_ok-value.value c.in_err-add_locals.field-0.0 (held_of c.args.held.now) (held_of c.preset_value.new.held) c.args.r.now c.preset_value.new.r
    c.in_ok-value.ensures.gives c.in_err-add_locals.ensures c.preset_value.ensures.moves.faults)

pub returns-clause-gives : goal.returns-clause-gives
returns-clause-gives g c =
    declare_done g.R.Ruled.rules g.R.Runner.faults c.args.world.now c.args.locals.now c.add_locals.new.locals (view_declaration c.args.declaration.now) c.in_ok-value.value tt (held_of c.args.held.now) (held_of c.preset_value.new.held) c.args.r.now c.preset_value.new.r
    c.in_ok-value.ensures.gives c.in_ok-add_locals.ensures c.preset_value.ensures.moves.faults
