-- Steps of evaluating, as the code takes them.
use Rattle.std.proofs.Common.{◌≡◌, List, refl, sym, subst, Result}
use Rattle.val_types.specs.declared.value.Value.{Value}
use Rattle.val_types.specs.declared.refusal.SqlRefusal.{SqlRefusal}
use Rattle.sql_tree.specs.Tree.{Tree}
use Rattle.key_order.specs.where_candidates.session_ctx.sql_meaning.Scenes.{Scene, Action, done}
use Rattle.exec_state.specs.declared.stage.Stage.{Stage}
use Rattle.exec_state.specs.Stage.{EndsAs, LeadsOn}
use Rattle.exec_state.proofs.Leading.{stage_stays, stage_on}
use Rattle.sql_evaluation.specs.declared.world.View.{View as Shown}
use Rattle.sql_evaluation.specs.declared.world.Around.{Around}
use Rattle.key_order.specs.where_candidates.where_keys.declared.outside.Outside.{Outside}
use Rattle.key_order.specs.where_candidates.where_keys.Sides.{row_if}
use Rattle.sql_evaluation.specs.Seen.{value_in, Stands, Anywhere, IsOutside, view_if, world_of, frame_of, running_of}

pub stands_at : (a : Around) (vs : List Shown) (t : Tree) (v : Value) (scene : Scene) → Stands a vs t v → value_in a vs t scene ≡ done v scene
stands_at a vs t v scene h = h.stands scene

pub anywhere_here : {A : Type 0} (r : Result A SqlRefusal) (m : Action A) (scene : Scene) → Anywhere r m → EndsAs r scene (m scene)
anywhere_here r m scene h = h.ends scene

-- three steps
pub stage_on_twice : (a b c d : Stage) → LeadsOn a b → LeadsOn b c → LeadsOn c d → LeadsOn a d
stage_on_twice a b c d p q r = stage_on a c d (stage_on a b c p q) r

-- four steps
pub stage_on_thrice : (a b c d e : Stage) → LeadsOn a b → LeadsOn b c → LeadsOn c d → LeadsOn d e → LeadsOn a e
stage_on_thrice a b c d e p q r s = stage_on a d e (stage_on a c d (stage_on a b c p q) r) s

pub ruleset steps = (stage_stays, stage_on, stands_at)

-- what is running round an expression
pub under_way : (a : Around) → (world_of a).running ≡ running_of a.running.now
unfolding world_of
under_way a = refl

-- the value of an expression is that of the same tree
pub value_as : (r : Result Value SqlRefusal) (after : Scene) (a : Around) (vs : List Shown) (t u : Tree) (scene : Scene) → t ≡ u
    → EndsAs r after (value_in a vs u scene) → EndsAs r after (value_in a vs t scene)
value_as r after a vs t u scene same h = subst (λ (v : Tree). EndsAs r after (value_in a vs v scene)) (sym same) h

-- what a WHERE has outside of its table
pub outside_so : (a : Around) (o : Outside) → o.locals.now ≡ a.locals.now → o.context.now ≡ a.context.now → row_if o.new_row ≡ view_if a.new_row → row_if o.old_row ≡ view_if a.old_row
    → IsOutside a o
unfolding world_of frame_of
outside_so a o locals context new_row old_row = record {
  round = λ vs. record { context = sym context; locals = sym locals; new_row = sym new_row; old_row = sym old_row };
}
