-- Statements leave the catalog.
use Rattle.std.proofs.Common.{◌≡◌, ℕ, Bool, true, false, List, [], ◌∷◌, Option, Some, None, ℤ, refl, cond}
use Rattle.val_types.specs.declared.change.Change.{Change}
use Rattle.val_types.specs.declared.value.Value.{Value}
use Rattle.sql_tree.specs.Tree.{Trees, no_tree, tree}
use Rattle.sql_tree.specs.Statement.{Statement, evaluate}
use Rattle.name_const_laws.specs.sql_meaning.Scenes.{Scene, Ending, done, failed}
use Rattle.name_const_laws.specs.sql_meaning.Frames.{Context}
use Rattle.name_const_laws.specs.sql_meaning.Running.{context_after}
use Rattle.session_model.specs.proc_model.Talk.{Left}
use Rattle.session_model.specs.Sessions.{Open, Session, Shared}
use Rattle.session_model.specs.Running.{Call, Turn, Given, full, is_other, keep, kept_shared, takes_too_much, made_behind, with_counters, with_context, undone, settle, ended, given_by, is_warned, item_of, scene_for}
use Rattle.session_model.specs.Calling.{arguments_run}
use Rattle.session_model.specs.Machine.{Whole}

kept_catalog : (call : Call Whole) (context : Context) (item : Whole) (t : Option (Open Whole)) (scene : Scene) (shared : Shared) → (kept_shared call context item t scene shared).base.catalog ≡ shared.base.catalog
kept_catalog call context item None scene shared = refl
kept_catalog call context item (Some open') scene shared = refl

settle_catalog : {A : Type 0} (call : Call Whole) (item : List Change → Whole) (made : List Change) (scene : Scene) (shared : Shared) (session : Session Whole) (given : Given A) (refusal : Turn Whole (Given A))
    → refusal.shared.base.catalog ≡ shared.base.catalog → (settle call item made scene shared session given refusal).shared.base.catalog ≡ shared.base.catalog
settle_catalog call item [] scene shared session given refusal r = refl
settle_catalog {A = A} call item (c ∷ cs) scene shared session given refusal r = by (takes_too_much call session.transaction (item (c ∷ cs)))
  where
    turn : Bool → Turn Whole (Given A)
    turn b = cond b refusal (keep call (item (c ∷ cs)) scene shared session given)

    by : (b : Bool) → (turn b).shared.base.catalog ≡ shared.base.catalog
    by true = r
    by false = kept_catalog call session.vars.context (item (c ∷ cs)) session.transaction scene shared

ended_catalog : {A : Type 0} (call : Call Whole) (left : Left) (text : List ℕ) (item : Statement) (shared : Shared) (session : Session Whole) (first last_id : A → Option ℤ) (before : Scene) (e : Ending A)
    → (ended call left text item shared session first last_id before e).shared.base.catalog ≡ shared.base.catalog
ended_catalog call left text item shared session first last_id before (done a scene) =
    let made = made_behind (is_other call.number shared.writer) before scene in
    settle_catalog call (item_of call session.format left text item session.vars.context shared (first a)) made scene (with_counters scene shared)
    (with_context (context_after session.vars.context item scene.seeds (last_id a)) session) (given_by a scene (is_warned session.format shared.base.catalog item made)) (undone 1197 item shared session scene) refl
ended_catalog call left text item shared session first last_id before (failed code scene) = refl

-- so do the arguments of a CALL
pub arguments_catalog : (call : Call Whole) (text : List ℕ) (ts : Trees) (shared : Shared) (session : Session Whole) → (arguments_run call text ts shared session).shared.base.catalog ≡ shared.base.catalog
arguments_catalog call text no_tree shared session = refl
arguments_catalog call text (tree t ts) shared session =
    ended_catalog {A = List Value} call full text (evaluate (tree t ts)) shared session (λ vs. None) (λ vs. None) (scene_for call.number full session.vars.context shared) _
