use Rattle.std.proofs.Common.{ap, ◌∙◌, Bool}
use Rattle.std.proofs.lemmas.Result.{err_from_is_err_and}
use Rattle.sql_tree.specs.View.{view_tree}
use Rattle.key_order.specs.where_candidates.session_ctx.sql_meaning.Scenes.{done}
use Rattle.exec_state.specs.Stage.{scene_of}
use Rattle.sql_evaluation.proofs.Branching.{if_then_ends, if_else_ends, if_fails_at}
use Rattle.sql_evaluation.proofs.choices.if_value.Goals as goal

pub returns-then-branch-clause-gives : goal.returns-then-branch-clause-gives
returns-then-branch-clause-gives g c =
    if_then_ends c.args.around.now c.args.views.now (view_tree c.args.condition.now) (view_tree c.args.a.now) (view_tree c.args.b.now) c.evaluate.result (scene_of c.args.stage.now) (scene_of c.holds.new.stage) (scene_of c.evaluate.new.arg2)
    (c.in_ok-holds.ensures.gives ∙ ap (λ (b : Bool). done b (scene_of c.holds.new.stage)) c.if-branch.true) (c.requires.gives _ _ _ _ _ c.evaluate.ensures)

pub returns-else-branch-clause-gives : goal.returns-else-branch-clause-gives
returns-else-branch-clause-gives g c =
    if_else_ends c.args.around.now c.args.views.now (view_tree c.args.condition.now) (view_tree c.args.a.now) (view_tree c.args.b.now) c.evaluate-else-branch.result (scene_of c.args.stage.now) (scene_of c.holds.new.stage) (scene_of c.evaluate-else-branch.new.arg2)
    (c.in_ok-holds.ensures.gives ∙ ap (λ (b : Bool). done b (scene_of c.holds.new.stage)) c.if-branch.false) (c.requires.gives _ _ _ _ _ c.evaluate-else-branch.ensures)

pub returns-in_err-holds-clause-gives : goal.returns-in_err-holds-clause-gives
returns-in_err-holds-clause-gives g c =
    let p = err_from_is_err_and c.from_residual.result c.from_residual.ensures.1 in
    rw (p.1, p.2) (if_fails_at c.args.around.now c.args.views.now (view_tree c.args.condition.now) (view_tree c.args.a.now) (view_tree c.args.b.now) _ (scene_of c.args.stage.now) (scene_of c.holds.new.stage) c.in_err-holds.ensures.gives)
