use Rattle.std.proofs.Common.{◌≡◌, Option, ◌-◌, refl, ap, ◌∙◌, arith}
use Rattle.std.proofs.lemmas.Result.{err_from_is_err_and}
use Rattle.val_types.specs.declared.list.List.{List as Items}
use Rattle.sql_tree.specs.Statement.{if_steps}
use Rattle.sql_tree.specs.declared.statements.Branch.{Branch}
use Rattle.sql_tree.specs.declared.statements.Stmt.{Stmt, If}
use Rattle.sql_tree.specs.StatementView.{view, view_branches, view_declarations, view_otherwise, view_statements}
use Rattle.sql_tree.specs.View.{view_tree}
use Rattle.proc_parts.specs.sql_meaning.Within.{do_one}
use Rattle.proc_parts.specs.Calls.{always, held_of}
use Rattle.proc_parts.proofs.Behind.{moves_nowhere, moves_on}
use Rattle.proc_run.proofs.Stepping.{block_done, block_fails, block_undeclared, branches_end, branches_fail, branches_here, branches_skip, else_absent, if_start, if_view, steps_end, steps_fail, steps_more, turns_fail, turns_more, turns_past, turns_start, turns_unspent, turns_untested}
use Rattle.proc_run.proofs.steps.+step.Goals as goal

pub steps-returns-in_err-step-clause-gives : goal.steps-returns-in_err-step-clause-gives
steps-returns-in_err-step-clause-gives g t c =
    let p = err_from_is_err_and c.from_residual.result c.from_residual.ensures.1 in
    rw (p.1, p.2) (steps_fail g.R.Ruled.rules g.R.Runner.faults c.args.world.now c.loop-s.locals c.step.new.locals (always c.step.new.locals) c.as_slice-s-items.result.now c.loop-s.s-index c.s-item.result c.in_err-step.field-0.0 (held_of c.loop-s.held) (held_of c.step.new.held) c.args.r.now c.loop-s.r c.step.new.r _
    (omega arith) c.s-item.is c.in_err-step.ensures.gives c.loop-s.invariant.gives)

pub steps-loop-s-preserved : goal.steps-loop-s-preserved
steps-loop-s-preserved g t c =
    record {
      gives =
          steps_more g.R.Ruled.rules g.R.Runner.faults c.args.world.now c.loop-s.locals c.step.new.locals c.as_slice-s-items.result.now c.loop-s.s-index c.s-item.result tt (held_of c.loop-s.held) (held_of c.step.new.held) c.args.r.now c.loop-s.r c.step.new.r _
          (omega arith) c.s-item.is c.in_ok-step.ensures.gives c.step.ensures.moves.faults c.loop-s.invariant.gives;
      moves = moves_on _ _ _ _ _ _ c.loop-s.invariant.moves c.step.ensures.moves;
    }

pub steps-returns-clause-gives : goal.steps-returns-clause-gives
steps-returns-clause-gives g t c =
    steps_end g.R.Ruled.rules g.R.Runner.faults c.args.world.now c.loop-s.locals c.as_slice-s-items.result.now c.loop-s.s-index tt (held_of c.loop-s.held) c.args.r.now c.loop-s.r _ (omega arith) c.loop-s.invariant.gives

pub block_step-returns-in_err-declare_all-clause-gives : goal.block_step-returns-in_err-declare_all-clause-gives
block_step-returns-in_err-declare_all-clause-gives g t c =
    let p = err_from_is_err_and c.from_residual.result c.from_residual.ensures.1 in
    rw (p.1, p.2) (block_undeclared g.R.Ruled.rules g.R.Runner.faults c.args.world.now (always c.declare_all.new.locals) c.args.locals.now c.declare_all.new.locals (view_declarations c.args.declarations.now) (view_statements c.args.list.now) c.in_err-declare_all.field-0.0 (held_of c.args.held.now) (held_of c.declare_all.new.held) c.args.r.now c.declare_all.new.r
    c.in_err-declare_all.ensures.gives)

pub block_step-returns-in_err-steps-clause-gives : goal.block_step-returns-in_err-steps-clause-gives
block_step-returns-in_err-steps-clause-gives g t c =
    let p = err_from_is_err_and c.from_residual-in_err-steps.result c.from_residual-in_err-steps.ensures.1 in
    rw (p.1, p.2) (block_fails g.R.Ruled.rules g.R.Runner.faults c.args.world.now (always c.steps.new.locals) c.args.locals.now c.declare_all.new.locals c.steps.new.locals (view_declarations c.args.declarations.now) (view_statements c.args.list.now) tt c.in_err-steps.field-0.0 (held_of c.args.held.now) (held_of c.declare_all.new.held) (held_of c.steps.new.held) c.args.r.now c.declare_all.new.r c.steps.new.r
    c.in_ok-declare_all.ensures.gives c.declare_all.ensures.moves.faults c.in_err-steps.ensures.gives)

pub block_step-returns-clause-gives : goal.block_step-returns-clause-gives
block_step-returns-clause-gives g t c =
    block_done g.R.Ruled.rules g.R.Runner.faults c.args.world.now c.args.locals.now c.declare_all.new.locals c.steps.new.locals c.cut.new.self (view_declarations c.args.declarations.now) (view_statements c.args.list.now) tt tt tt c.count-outer.result (held_of c.args.held.now) (held_of c.declare_all.new.held) (held_of c.steps.new.held) c.args.r.now c.declare_all.new.r c.steps.new.r
    c.in_ok-declare_all.ensures.gives c.declare_all.ensures.moves.faults c.in_ok-steps.ensures.gives c.steps.ensures.moves.faults c.count-outer.ensures c.cut.ensures

pub else_step-returns-in-None-clause-gives : goal.else_step-returns-in-None-clause-gives
else_step-returns-in-None-clause-gives g t c =
    rw (c.in-None.is) (else_absent g.R.Ruled.rules g.R.Runner.faults c.args.world.now c.args.locals.now tt (held_of c.args.held.now) c.args.r.now)

-- an IF is seen as one
if_seen : (s : Stmt) (arms : Items Branch) (otherwise : Option (Items Stmt)) → s ≡ If arms otherwise → view s ≡ if_steps (view_branches arms) (view_otherwise otherwise)
if_seen s arms otherwise is = ap view is ∙ if_view arms otherwise

pub if_step-loop-arm-init : goal.if_step-loop-arm-init
if_step-loop-arm-init g t c =
    record {
      gives = rw (if_seen c.args.s.now c.in-If.arms c.in-If.otherwise c.in-If.is, c.as_slice-arm-items.ensures) (if_start g.R.Ruled.rules g.R.Runner.faults c.args.world.now c.args.locals.now (view_branches c.in-If.arms) (view_otherwise c.in-If.otherwise) (held_of c.args.held.now) c.args.r.now);
      moves = moves_nowhere _ _;
    }

pub if_step-returns-in_err-condition_holds-clause-gives : goal.if_step-returns-in_err-condition_holds-clause-gives
if_step-returns-in_err-condition_holds-clause-gives g t c =
    let p = err_from_is_err_and c.from_residual.result c.from_residual.ensures.1 in
    rw (p.1, p.2) (branches_fail g.R.Ruled.rules g.R.Runner.faults c.args.world.now (always c.loop-arm.locals) c.loop-arm.locals c.as_slice-arm-items.result.now (view_otherwise c.in-If.otherwise) c.loop-arm.arm-index c.arm-item.result (do_one (view_tree c.arm-item.result.condition)) c.in_err-condition_holds.field-0.0 (held_of c.loop-arm.held) (held_of c.condition_holds.new.held) c.args.r.now c.loop-arm.r c.condition_holds.new.r _
    (omega arith) c.arm-item.is refl c.in_err-condition_holds.ensures.gives c.loop-arm.invariant.gives)

pub if_step-returns-then-branch-clause-gives : goal.if_step-returns-then-branch-clause-gives
if_step-returns-then-branch-clause-gives g t c =
    branches_here g.R.Ruled.rules g.R.Runner.faults c.args.world.now c.loop-arm.locals c.steps.new.locals c.as_slice-arm-items.result.now (view_otherwise c.in-If.otherwise) c.loop-arm.arm-index c.arm-item.result (do_one (view_tree c.arm-item.result.condition)) c.steps.result (held_of c.loop-arm.held) (held_of c.condition_holds.new.held) (held_of c.steps.new.held) c.args.r.now c.loop-arm.r c.condition_holds.new.r c.steps.new.r _
    (omega arith) c.arm-item.is refl (rw (c.if-branch.true) at c.in_ok-condition_holds.ensures.gives) c.condition_holds.ensures.moves.faults c.steps.ensures.gives c.loop-arm.invariant.gives

pub if_step-loop-arm-preserved : goal.if_step-loop-arm-preserved
if_step-loop-arm-preserved g t c =
    record {
      gives =
          branches_skip g.R.Ruled.rules g.R.Runner.faults c.args.world.now c.loop-arm.locals c.as_slice-arm-items.result.now (view_otherwise c.in-If.otherwise) c.loop-arm.arm-index c.arm-item.result (do_one (view_tree c.arm-item.result.condition)) (held_of c.loop-arm.held) (held_of c.condition_holds.new.held) c.args.r.now c.loop-arm.r c.condition_holds.new.r _
          (omega arith) c.arm-item.is refl (rw (c.if-branch.false) at c.in_ok-condition_holds.ensures.gives) c.condition_holds.ensures.moves.faults c.loop-arm.invariant.gives;
      moves = moves_on _ _ _ _ _ _ c.loop-arm.invariant.moves c.condition_holds.ensures.moves;
    }

pub if_step-returns-clause-gives : goal.if_step-returns-clause-gives
if_step-returns-clause-gives g t c =
    branches_end g.R.Ruled.rules g.R.Runner.faults c.args.world.now c.loop-arm.locals c.else_step.new.locals c.as_slice-arm-items.result.now (view_otherwise c.in-If.otherwise) c.loop-arm.arm-index c.else_step.result (held_of c.loop-arm.held) (held_of c.else_step.new.held) c.args.r.now c.loop-arm.r c.else_step.new.r _
    (omega arith) c.loop-arm.invariant.gives c.else_step.ensures.gives

pub while_step-loop-held-init : goal.while_step-loop-held-init
while_step-loop-held-init g t c =
    record {
      gives = turns_start g.R.Ruled.rules g.R.Runner.faults c.args.world.now (view_tree c.args.condition.now) (do_one (view_tree c.args.condition.now)) (view_statements c.args.list.now) c.args.locals.now (held_of c.args.held.now) c.args.r.now refl;
      moves = moves_nowhere _ _;
    }

pub while_step-returns-in_err-condition_holds-clause-gives : goal.while_step-returns-in_err-condition_holds-clause-gives
while_step-returns-in_err-condition_holds-clause-gives g t c =
    let p = err_from_is_err_and c.from_residual.result c.from_residual.ensures.1 in
    rw (p.1, p.2) (turns_untested g.R.Ruled.rules g.R.Runner.faults c.args.world.now (always c.loop-held.locals) (do_one (view_tree c.args.condition.now)) (view_statements c.args.list.now) c.loop-held.locals c.in_err-condition_holds.field-0.0 (held_of c.loop-held.held) (held_of c.condition_holds.new.held) c.loop-held.r c.condition_holds.new.r c.args.r.now _
    c.loop-held.invariant.gives c.in_err-condition_holds.ensures.gives)

pub while_step-returns-in_err-condition_holds-clause-moves : goal.while_step-returns-in_err-condition_holds-clause-moves
while_step-returns-in_err-condition_holds-clause-moves g t c =
    moves_on _ _ _ _ _ _ c.loop-held.invariant.moves c.condition_holds.ensures.moves

pub while_step-returns-then-held-eq0-clause-gives : goal.while_step-returns-then-held-eq0-clause-gives
while_step-returns-then-held-eq0-clause-gives g t c =
    turns_unspent g.R.Ruled.rules g.R.Runner.faults c.args.world.now (always c.loop-held.locals) (do_one (view_tree c.args.condition.now)) (view_statements c.args.list.now) c.loop-held.locals (held_of c.loop-held.held) (held_of c.condition_holds.new.held) c.loop-held.r c.condition_holds.new.r c.args.r.now _
    c.loop-held.invariant.gives (rw (c.if-branch.true) at c.in_ok-condition_holds.ensures.gives) c.condition_holds.ensures.moves.faults (omega arith)

pub while_step-returns-then-held-eq0-clause-moves : goal.while_step-returns-then-held-eq0-clause-moves
while_step-returns-then-held-eq0-clause-moves g t c =
    moves_on _ _ _ _ _ _ c.loop-held.invariant.moves c.condition_holds.ensures.moves

pub while_step-returns-in_err-steps-clause-gives : goal.while_step-returns-in_err-steps-clause-gives
while_step-returns-in_err-steps-clause-gives g t c =
    let p = err_from_is_err_and c.from_residual-in_err-steps.result c.from_residual-in_err-steps.ensures.1 in
    rw (p.1, p.2) (turns_fail g.R.Ruled.rules g.R.Runner.faults c.args.world.now (always c.steps.new.locals) (do_one (view_tree c.args.condition.now)) (view_statements c.args.list.now) c.loop-held.locals c.steps.new.locals (c.condition_holds.new.held.turns - 1) c.in_err-steps.field-0.0 (held_of c.loop-held.held) (held_of c.condition_holds.new.held) (held_of c.steps.new.held) c.loop-held.r c.condition_holds.new.r c.steps.new.r c.args.r.now _
    c.loop-held.invariant.gives c.condition_holds.ensures.moves.turns (rw (c.if-branch.true) at c.in_ok-condition_holds.ensures.gives) c.condition_holds.ensures.moves.faults (omega arith) refl c.in_err-steps.ensures.gives)

pub while_step-returns-in_err-steps-clause-moves : goal.while_step-returns-in_err-steps-clause-moves
while_step-returns-in_err-steps-clause-moves g t c =
    record { faults = omega arith; turns = omega arith }

pub while_step-loop-held-preserved : goal.while_step-loop-held-preserved
while_step-loop-held-preserved g t c =
    record {
      gives =
          turns_more g.R.Ruled.rules g.R.Runner.faults c.args.world.now (do_one (view_tree c.args.condition.now)) (view_statements c.args.list.now) c.loop-held.locals c.steps.new.locals (c.condition_holds.new.held.turns - 1) tt (held_of c.loop-held.held) (held_of c.condition_holds.new.held) (held_of c.steps.new.held) c.loop-held.r c.condition_holds.new.r c.steps.new.r c.args.r.now _
          c.loop-held.invariant.gives c.condition_holds.ensures.moves.turns (rw (c.if-branch.true) at c.in_ok-condition_holds.ensures.gives) c.condition_holds.ensures.moves.faults (omega arith) refl c.in_ok-steps.ensures.gives c.steps.ensures.moves.faults c.steps.ensures.moves.turns;
      moves = record { faults = omega arith; turns = omega arith };
    }

pub while_step-returns-clause-gives : goal.while_step-returns-clause-gives
while_step-returns-clause-gives g t c =
    turns_past g.R.Ruled.rules g.R.Runner.faults c.args.world.now (do_one (view_tree c.args.condition.now)) (view_statements c.args.list.now) c.loop-held.locals tt (held_of c.loop-held.held) (held_of c.condition_holds.new.held) c.loop-held.r c.condition_holds.new.r c.args.r.now _
    c.loop-held.invariant.gives (rw (c.if-branch.false) at c.in_ok-condition_holds.ensures.gives) c.condition_holds.ensures.moves.faults

pub while_step-returns-clause-moves : goal.while_step-returns-clause-moves
while_step-returns-clause-moves g t c =
    moves_on _ _ _ _ _ _ c.loop-held.invariant.moves c.condition_holds.ensures.moves
