use Rattle.std.proofs.Common.{◌≡◌, Option, ap, ◌∙◌}
use Rattle.std.proofs.lemmas.Result.{err_from_is_err_and}
use Rattle.val_types.specs.declared.list.List.{List as Items}
use Rattle.sql_tree.specs.Statement.{if_steps}
use Rattle.sql_tree.specs.StatementView.{view, view_branches, view_declarations, view_otherwise, view_statements}
use Rattle.sql_tree.specs.declared.statements.Branch.{Branch}
use Rattle.sql_tree.specs.declared.statements.Stmt.{Stmt, If}
use Rattle.sql_tree.specs.View.{view_tree}
use Rattle.exec_state.specs.Stage.{scene_of}
use Rattle.exec_state.proofs.Leading.{stage_on}
use Rattle.stored_programs.specs.Bodies.{body_of, ended_at}
use Rattle.stored_programs.specs.Steps.{taken_at}
use Rattle.stored_programs.proofs.Stepping.{block_done, failed_ends, if_else, if_fails, if_taken, if_view, turns_past, turns_returned, unspent_ends, untested_ends}
use Rattle.stored_programs.proofs.steps.+step.Goals as goal

pub block_step-returns-clause-gives : goal.block_step-returns-clause-gives
block_step-returns-clause-gives g t c =
    block_done c.args.around.now (body_of c.args.body.now) (body_of c.declare_all.new.body) c.steps.new.body (record { locals = c.cut.new.self; new_row = c.steps.new.body.new_row; old_row = c.steps.new.body.old_row })
    (view_declarations c.args.declarations.now) (view_statements c.args.list.now) c.in_ok-returned.returned c.count-outer.result (scene_of c.args.stage.now) (scene_of c.declare_all.new.stage) (scene_of c.steps.new.stage)
    c.in_ok-declare_all.ensures.gives c.in_ok-returned.ensures.gives c.count-outer.ensures c.cut.ensures (λ i. c.steps.new.body.new_row) (λ i. c.steps.new.body.old_row)

-- an IF is seen as one
abbrev if_seen : (s : Stmt) (arms : Items Branch) (otherwise : Option (Items Stmt)) → s ≡ If arms otherwise → view s ≡ if_steps (view_branches arms) (view_otherwise otherwise)
if_seen s arms otherwise is = ap view is ∙ if_view arms otherwise

pub step-returns-in_err-returned-in-If-clause-gives : goal.step-returns-in_err-returned-in-If-clause-gives
step-returns-in_err-returned-in-If-clause-gives g t c =
    let p = err_from_is_err_and c.from_residual.result c.from_residual.ensures.1 in
    rw (p.1, p.2, if_seen c.args.s.now c.in-If.arms c.in-If.otherwise c.in-If.is)
    (if_fails c.args.around.now (body_of c.args.body.now) (ended_at (body_of c.taken_branch.new.body)) (taken_at (body_of c.taken_branch.new.body)) (view_branches c.in-If.arms) (view_otherwise c.in-If.otherwise) c.in_err-returned-in-If.field-0.0 (scene_of c.args.stage.now) (scene_of c.taken_branch.new.stage)
    c.in_err-returned-in-If.ensures.gives)

pub step-returns-in-Some-clause-gives : goal.step-returns-in-Some-clause-gives
step-returns-in-Some-clause-gives g t c =
    rw (if_seen c.args.s.now c.in-If.arms c.in-If.otherwise c.in-If.is)
    (if_taken c.args.around.now (body_of c.args.body.now) (body_of c.taken_branch.new.body) (view_branches c.in-If.arms) (view_otherwise c.in-If.otherwise) c.in-Some.returned (scene_of c.args.stage.now) (scene_of c.taken_branch.new.stage)
    (rw (c.in-Some.is) at c.in_ok-returned-in-If.ensures.gives))

pub step-returns-in-None-clause-gives : goal.step-returns-in-None-clause-gives
step-returns-in-None-clause-gives g t c =
    rw (if_seen c.args.s.now c.in-If.arms c.in-If.otherwise c.in-If.is)
    (if_else c.args.around.now (body_of c.args.body.now) (body_of c.taken_branch.new.body) (view_branches c.in-If.arms) (view_otherwise c.in-If.otherwise) (ended_at (body_of c.otherwise_step.new.body)) c.otherwise_step.result
    (scene_of c.args.stage.now) (scene_of c.taken_branch.new.stage) (scene_of c.otherwise_step.new.stage) (rw (c.in-None.is) at c.in_ok-returned-in-If.ensures.gives) c.otherwise_step.ensures.gives)

pub step-returns-in-None-clause-leads : goal.step-returns-in-None-clause-leads
step-returns-in-None-clause-leads g t c = stage_on _ _ _ c.taken_branch.ensures.leads c.otherwise_step.ensures.leads

pub while_step-returns-in_err-condition_holds-clause-gives : goal.while_step-returns-in_err-condition_holds-clause-gives
while_step-returns-in_err-condition_holds-clause-gives g t c =
    let p = err_from_is_err_and c.from_residual.result c.from_residual.ensures.1 in
    rw (p.1, p.2) (untested_ends c.args.around.now (view_tree c.args.condition.now) (view_statements c.args.list.now) (body_of c.loop-stage.body) (ended_at (body_of c.loop-stage.body)) c.in_err-condition_holds.field-0.0
    c.loop-stage.stage c.condition_holds.new.stage _ c.loop-stage.invariant.turns c.in_err-condition_holds.ensures.gives)

pub while_step-returns-in_err-spend_turn-clause-gives : goal.while_step-returns-in_err-spend_turn-clause-gives
while_step-returns-in_err-spend_turn-clause-gives g t c =
    let p = err_from_is_err_and c.from_residual-in_err-spend_turn.result c.from_residual-in_err-spend_turn.ensures.1 in
    rw (p.1, p.2) (unspent_ends c.args.around.now (view_tree c.args.condition.now) (view_statements c.args.list.now) (body_of c.loop-stage.body) (ended_at (body_of c.loop-stage.body)) c.in_err-spend_turn.field-0.0
    c.loop-stage.stage c.condition_holds.new.stage c.spend_turn.new.stage _ c.loop-stage.invariant.turns c.condition_holds.ensures.leads
    (rw (c.if-branch.true) at c.in_ok-condition_holds.ensures.gives) c.in_err-spend_turn.ensures.gives)

pub while_step-returns-in_err-value-clause-gives : goal.while_step-returns-in_err-value-clause-gives
while_step-returns-in_err-value-clause-gives g t c =
    let p = err_from_is_err_and c.from_residual-in_err-value.result c.from_residual-in_err-value.ensures.1 in
    rw (p.1, p.2) (failed_ends c.args.around.now (view_tree c.args.condition.now) (view_statements c.args.list.now) (body_of c.loop-stage.body) (ended_at (body_of c.steps.new.body)) (ended_at (body_of c.steps.new.body)) c.in_ok-spend_turn.field-0 c.in_err-value.field-0.0
    c.loop-stage.stage c.condition_holds.new.stage c.spend_turn.new.stage c.steps.new.stage _ c.loop-stage.invariant.turns c.condition_holds.ensures.leads
    (rw (c.if-branch.true) at c.in_ok-condition_holds.ensures.gives) c.in_ok-spend_turn.ensures.gives c.in_ok-spend_turn.ensures.falls c.in_err-value.ensures.gives)

pub while_step-returns-in-Some-clause-gives : goal.while_step-returns-in-Some-clause-gives
while_step-returns-in-Some-clause-gives g t c =
    turns_returned c.args.around.now (view_tree c.args.condition.now) (view_statements c.args.list.now) (body_of c.loop-stage.body) (body_of c.steps.new.body) c.in_ok-spend_turn.field-0 c.in-Some.value
    c.loop-stage.stage c.condition_holds.new.stage c.spend_turn.new.stage c.steps.new.stage _ c.loop-stage.invariant.turns c.condition_holds.ensures.leads
    (rw (c.if-branch.true) at c.in_ok-condition_holds.ensures.gives) c.in_ok-spend_turn.ensures.gives c.in_ok-spend_turn.ensures.falls (rw (c.in-Some.is) at c.in_ok-value.ensures.gives)

pub while_step-returns-clause-gives : goal.while_step-returns-clause-gives
while_step-returns-clause-gives g t c =
    turns_past c.args.around.now (view_tree c.args.condition.now) (view_statements c.args.list.now) (body_of c.loop-stage.body) c.loop-stage.stage c.condition_holds.new.stage _ c.loop-stage.invariant.turns
    (rw (c.if-branch.false) at c.in_ok-condition_holds.ensures.gives)
