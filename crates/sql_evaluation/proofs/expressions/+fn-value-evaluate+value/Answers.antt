use Rattle.std.proofs.Common.{◌≡◌, refl, ap, ◌∙◌}
use Rattle.sql_tree.specs.BuiltIns.{on_one, on_two, on_three}
use Rattle.sql_tree.specs.View.{view_tree}
use Rattle.exec_state.specs.Stage.{scene_of}
use Rattle.sql_evaluation.proofs.Steps.{value_as}
use Rattle.sql_evaluation.proofs.Viewed.{view_one, view_two, view_three}
use Rattle.sql_evaluation.proofs.expressions.+fn-value-evaluate+value.Goals as goal

pub returns-in-Func1-clause-gives : goal.returns-in-Func1-clause-gives
returns-in-Func1-clause-gives g t c =
    let same : view_tree c.args.e.now ≡ on_one c.in-Func1.f (view_tree c.get-in-Func1.result.now) =
    ap view_tree c.in-Func1.is ∙ view_one c.in-Func1.f c.in-Func1.a ∙ rw c.get-in-Func1.ensures refl in
    value_as c.of_one.result (scene_of c.of_one.new.stage) c.args.around.now c.args.views.now _ _ (scene_of c.args.stage.now) same c.of_one.ensures.gives

pub returns-in-Func2-clause-gives : goal.returns-in-Func2-clause-gives
returns-in-Func2-clause-gives g t c =
    let same : view_tree c.args.e.now ≡ on_two c.in-Func2.f (view_tree c.get-in-Func2.result.now) (view_tree c.get-in-Func2-2.result.now) =
    ap view_tree c.in-Func2.is ∙ view_two c.in-Func2.f c.in-Func2.a c.in-Func2.b ∙ rw (c.get-in-Func2.ensures, c.get-in-Func2-2.ensures) refl in
    value_as c.of_two.result (scene_of c.of_two.new.stage) c.args.around.now c.args.views.now _ _ (scene_of c.args.stage.now) same c.of_two.ensures.gives

pub returns-in-Func3-clause-gives : goal.returns-in-Func3-clause-gives
returns-in-Func3-clause-gives g t c =
    let same : view_tree c.args.e.now ≡ on_three c.in-Func3.f (view_tree c.get-in-Func3.result.now) (view_tree c.get-in-Func3-2.result.now) (view_tree c.get-in-Func3-3.result.now) =
    ap view_tree c.in-Func3.is ∙ view_three c.in-Func3.f c.in-Func3.a c.in-Func3.b c.in-Func3.c ∙ rw (c.get-in-Func3.ensures, c.get-in-Func3-2.ensures, c.get-in-Func3-3.ensures) refl in
    value_as c.of_three.result (scene_of c.of_three.new.stage) c.args.around.now c.args.views.now _ _ (scene_of c.args.stage.now) same c.of_three.ensures.gives
