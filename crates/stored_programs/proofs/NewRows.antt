-- A body that has a row to be stored has one behind each step, and one that has none gets none.
use Rattle.std.proofs.Common.{◌≡◌, ℕ, zero, suc, Bool, true, false, List, [], ◌∷◌, map, zip, Option, Some, None, refl, sym, ap, ◌∙◌, subst}
use Rattle.std.specs.Prelude.{is_some, if◌then◌else◌}
use Rattle.std.specs.Option.{option_copied}
use Rattle.std.specs.Borrow.{Bor}
use Rattle.val_types.specs.declared.value.Value.{Value}
use Rattle.val_types.specs.declared.definitions.TableDef.{TableDef}
use Rattle.sql_tree.specs.Tree.{Tree}
use Rattle.sql_tree.specs.Statement.{Declared, Statement, Statements, no_statement, statement, Branches, no_branch, branch, Otherwise, no_else, else_steps, create_table, create_function, create_procedure, create_trigger, drop_table, drop_function, drop_procedure, drop_trigger, truncate, insert_into, replace_into, update_rows, delete_rows, select, evaluate, set_all, call_procedure, begin, commit, rollback, savepoint, rollback_to, release_savepoint, block, if_steps, while_steps, return_value}
use Rattle.sql_tree.specs.declared.statements.Target.{Target}
use Rattle.sql_locals.specs.Locals.{find_local}
use Rattle.sql_locals.specs.Types.{column_type}
use Rattle.sql_statements.specs.catalog_rules.Names.{place_among}
use Rattle.sql_statements.specs.catalog_rules.Nodes.{nodes_of}
use Rattle.sql_statements.specs.catalog_rules.Objects.{columns_of}
use Rattle.sql_statements.specs.sql_meaning.Scenes.{Scene, Ending, Action, done, failed, then_do, pure, fail, needed, each, spend_turn, carried_on, ◌>>=◌}
use Rattle.sql_statements.specs.sql_meaning.Frames.{World, View}
use Rattle.sql_statements.specs.sql_meaning.Values.{holds, value}
use Rattle.sql_statements.specs.sql_meaning.Changing.{fitted, put_at}
use Rattle.sql_statements.specs.sql_meaning.Running.{Body, Ended, also_running, assign_local, assign_one, body_checked, body_perform, body_set, body_value, declare, declare_name, frame_of, perform, preset_value, seen_as, step, step_of_branches, steps, steps_otherwise, turns, turns_left, unless_returned, with_new_row}
use Rattle.sql_evaluation.specs.declared.world.Around.{Around}
use Rattle.sql_evaluation.specs.declared.world.View.{View as Shown}
use Rattle.sql_evaluation.specs.Seen.{world_of}
use Rattle.stored_programs.specs.declared.body.Body.{Body as Stands}
use Rattle.stored_programs.specs.Bodies.{body_of, ended_at, view_in}
use Rattle.stored_programs.specs.Steps.{step_in}

-- ---- what holds of all that an action gives

-- it is so of what was given, if something was
abbrev Holds : {A : Type 0} → (A → Bool) → Bool → Ending A → Type 0
Holds has b (done a scene) = has a ≡ b
Holds has b (failed code scene) = Unit {0}

record Leaves {A : Type 0} (has : A → Bool) (b : Bool) (m : Action A) : Type 0 where
  leaves : (scene : Scene) → Holds has b (m scene)

then_holds : {A B : Type 0} (has : A → Bool) (has' : B → Bool) (b : Bool) (e : Ending A) (next : A → Action B) → Holds has b e → ((a : A) → has a ≡ b → Leaves has' b (next a)) → Holds has' b (then_do e next)
then_holds has has' b (done a scene) next h on = (on a h).leaves scene
then_holds has has' b (failed code scene) next h on = tt

bind_leaves : {A B : Type 0} (has : A → Bool) (has' : B → Bool) (b : Bool) (m : Action A) (next : A → Action B) → Leaves has b m → ((a : A) → has a ≡ b → Leaves has' b (next a)) → Leaves has' b (m >>= next)
bind_leaves has has' b m next h on = record { leaves = λ scene. then_holds has has' b (m scene) next (h.leaves scene) on }

any_holds : {A B : Type 0} (has' : B → Bool) (b : Bool) (e : Ending A) (next : A → Action B) → ((a : A) → Leaves has' b (next a)) → Holds has' b (then_do e next)
any_holds has' b (done a scene) next on = (on a).leaves scene
any_holds has' b (failed code scene) next on = tt

-- whatever an action before gives
behind_any : {A B : Type 0} (has' : B → Bool) (b : Bool) (m : Action A) (next : A → Action B) → ((a : A) → Leaves has' b (next a)) → Leaves has' b (m >>= next)
behind_any has' b m next on = record { leaves = λ scene. any_holds has' b (m scene) next on }

pure_leaves : {A : Type 0} (has : A → Bool) (b : Bool) (a : A) → has a ≡ b → Leaves has b (pure a)
pure_leaves has b a h = record { leaves = λ scene. h }

fail_leaves : {A : Type 0} (has : A → Bool) (b : Bool) (code : ℕ) → Leaves has b (fail code)
fail_leaves has b code = record { leaves = λ scene. tt }

if_leaves : {A : Type 0} (has : A → Bool) (b goes : Bool) (m m' : Action A) → Leaves has b m → Leaves has b m' → Leaves has b (if goes then m else m')
if_leaves has b true m m' h h' = h
if_leaves has b false m m' h h' = h'

carried_leaves : {S A : Type 0} (has : S → Bool) (b : Bool) (do_one : S → A → Action S) → ((s : S) (a : A) → has s ≡ b → Leaves has b (do_one s a)) → (s : S) (as' : List A) → has s ≡ b → Leaves has b (carried_on do_one s as')
carried_leaves has b do_one one s [] h = pure_leaves has b s h
carried_leaves has b do_one one s (a ∷ as') h =
    bind_leaves has has b (do_one s a) (λ next. carried_on do_one next as') (one s a h) (λ next k. carried_leaves has b do_one one next as' k)

-- ---- steps

-- whether there is a row to be stored
abbrev has_new : Body → Bool
has_new body = is_some body.new_row

abbrev ends_new : Ended → Bool
ends_new ended = is_some ended.body.new_row

module _ (b : Bool) where
  assign_local_leaves : (body : Body) (n : List ℕ) (v : Value) → has_new body ≡ b → Leaves has_new b (assign_local body n v)
  assign_local_leaves body n v h = behind_any has_new b (needed 1193 (find_local body.locals n)) _ (λ l. behind_any has_new b (fitted l.kind v) _ (λ fit. pure_leaves has_new b _ h))

  put_leaves : (body : Body) (c : List ℕ) (v : Value) (o : Option View) → is_some o ≡ b
      → Leaves has_new b (needed 1193 o >>= λ view. needed 1054 (place_among (columns_of view.definition) c) >>= λ place. put_at view.definition view.row (place, v) >>= λ row. pure (with_new_row body view row))
  put_leaves body c v None h = record { leaves = λ scene. tt }
  put_leaves body c v (Some view) h =
      behind_any has_new b (needed 1193 (Some view)) _ (λ seen. behind_any has_new b (needed 1054 (place_among (columns_of seen.definition) c)) _ (λ place.
      behind_any has_new b (put_at seen.definition seen.row (place, v)) _ (λ row. pure_leaves has_new b (with_new_row body seen row) h)))

  assign_one_leaves : (body : Body) (a : Target × Value) → has_new body ≡ b → Leaves has_new b (assign_one body a)
  assign_one_leaves body (Target.Plain n, v) h = assign_local_leaves body n v h
  assign_one_leaves body (Target.New c, v) h = put_leaves body c v body.new_row h
  assign_one_leaves body (Target.User n, v) h = fail_leaves has_new b 30005
  assign_one_leaves body (Target.System n, v) h = fail_leaves has_new b 30005

  -- on from where a step ended, unless it was a RETURN
  returned_leaves : (ended : Ended) (next : Body → Action Ended) → ends_new ended ≡ b → ((body : Body) → has_new body ≡ b → Leaves ends_new b (next body)) → (returned : Option Value)
      → Leaves ends_new b (elim returned as (λ _. Action Ended) [ None ↦ next ended.body | Some v ↦ pure ended ])
  returned_leaves ended next h on None = on ended.body h
  returned_leaves ended next h on (Some v) = pure_leaves ends_new b ended h

  unless_leaves : (ended : Ended) (next : Body → Action Ended) → ends_new ended ≡ b → ((body : Body) → has_new body ≡ b → Leaves ends_new b (next body)) → Leaves ends_new b (unless_returned ended next)
  unless_leaves ended next h on = returned_leaves ended next h on ended.returned

  turns_leave : (n : ℕ) (test : Body → Action Bool) (do_steps : Body → Action Ended) → ((body : Body) → has_new body ≡ b → Leaves ends_new b (do_steps body)) → (body : Body) → has_new body ≡ b
      → Leaves ends_new b (turns n test do_steps body)
  turns_leave zero test do_steps stepped body h = behind_any ends_new b (test body) _ (λ goes. if_leaves ends_new b goes _ _ (fail_leaves ends_new b 30004) (pure_leaves ends_new b _ h))
  turns_leave (suc n) test do_steps stepped body h =
      behind_any ends_new b (test body) _ (λ goes. if_leaves ends_new b goes _ _
      (behind_any ends_new b spend_turn _ (λ _. bind_leaves ends_new ends_new b (do_steps body) _ (stepped body h) (λ ended k. unless_leaves ended _ k (turns_leave n test do_steps stepped))))
      (pure_leaves ends_new b _ h))

  module _ (w : World) where
    declare_leaves : (body : Body) (d : Declared) → has_new body ≡ b → Leaves has_new b (declare w body d)
    declare_leaves body d h =
        behind_any has_new b (preset_value w body d.preset) _ (λ v.
        carried_leaves has_new b (declare_name d.kind v) (λ now n k. behind_any has_new b (fitted (column_type d.kind) v) _ (λ fit. pure_leaves has_new b _ k)) body d.names h)

    set_leaves : (body : Body) (as' : List (Target × Tree)) → has_new body ≡ b → Leaves ends_new b (body_set w body as')
    set_leaves body as' h =
        behind_any ends_new b (body_checked w body (set_all as')) _ (λ _.
        behind_any ends_new b (each (λ (a : Target × Tree). value (also_running (nodes_of (set_all as')) w) (frame_of body) a.1) as') _ (λ vs.
        bind_leaves has_new ends_new b (carried_on assign_one body (zip (map (λ (a : Target × Tree). a.0) as') vs)) _
        (carried_leaves has_new b assign_one assign_one_leaves body (zip (map (λ (a : Target × Tree). a.0) as') vs) h) (λ after k. pure_leaves ends_new b _ k)))

    other_leaves : (body : Body) (s : Statement) → has_new body ≡ b → Leaves ends_new b (body_perform w body s)
    other_leaves body s h =
        behind_any ends_new b (body_checked w body s) _ (λ _. behind_any ends_new b (perform (also_running (nodes_of s) w) (frame_of body) None s) _ (λ did. pure_leaves ends_new b _ h))

    mutual
      step_leaves : (body : Body) (s : Statement) → has_new body ≡ b → Leaves ends_new b (step w body s)
      step_leaves body (block ds ss) h =
          bind_leaves has_new ends_new b (carried_on (declare w) body ds) _ (carried_leaves has_new b (declare w) declare_leaves body ds h) (λ inner k.
          bind_leaves ends_new ends_new b (steps w inner ss) _ (steps_leave inner ss k) (λ ended j. pure_leaves ends_new b _ j))
      step_leaves body (if_steps bs o) h = branches_leave body bs (steps_otherwise w body o) h (otherwise_leaves body o h)
      step_leaves body (while_steps c ss) h = record { leaves = λ scene. (turns_leave scene.turns _ (λ now. steps w now ss) (λ now k. steps_leave now ss k) body h).leaves scene }
      step_leaves body (return_value e) h = behind_any ends_new b (body_value w body e) _ (λ v. pure_leaves ends_new b _ h)
      step_leaves body (set_all as') h = set_leaves body as' h
      step_leaves body (insert_into ignore t names supply sets) h = other_leaves body (insert_into ignore t names supply sets) h
      step_leaves body (replace_into t names supply) h = other_leaves body (replace_into t names supply) h
      step_leaves body (update_rows t sets condition os limit) h = other_leaves body (update_rows t sets condition os limit) h
      step_leaves body (delete_rows t condition os limit) h = other_leaves body (delete_rows t condition os limit) h
      step_leaves body (select q) h = other_leaves body (select q) h
      step_leaves body (evaluate ts) h = other_leaves body (evaluate ts) h
      step_leaves body (create_table t) h = other_leaves body (create_table t) h
      step_leaves body (create_function p) h = other_leaves body (create_function p) h
      step_leaves body (create_procedure p) h = other_leaves body (create_procedure p) h
      step_leaves body (create_trigger t) h = other_leaves body (create_trigger t) h
      step_leaves body (drop_table n) h = other_leaves body (drop_table n) h
      step_leaves body (drop_function n) h = other_leaves body (drop_function n) h
      step_leaves body (drop_procedure n) h = other_leaves body (drop_procedure n) h
      step_leaves body (drop_trigger n) h = other_leaves body (drop_trigger n) h
      step_leaves body (truncate n) h = other_leaves body (truncate n) h
      step_leaves body (call_procedure n ts) h = other_leaves body (call_procedure n ts) h
      step_leaves body begin h = other_leaves body begin h
      step_leaves body commit h = other_leaves body commit h
      step_leaves body rollback h = other_leaves body rollback h
      step_leaves body (savepoint n) h = other_leaves body (savepoint n) h
      step_leaves body (rollback_to n) h = other_leaves body (rollback_to n) h
      step_leaves body (release_savepoint n) h = other_leaves body (release_savepoint n) h

      steps_leave : (body : Body) (ss : Statements) → has_new body ≡ b → Leaves ends_new b (steps w body ss)
      steps_leave body no_statement h = pure_leaves ends_new b _ h
      steps_leave body (statement s ss) h = bind_leaves ends_new ends_new b (step w body s) _ (step_leaves body s h) (λ ended k. unless_leaves ended _ k (λ now j. steps_leave now ss j))

      branches_leave : (body : Body) (bs : Branches) (otherwise : Action Ended) → has_new body ≡ b → Leaves ends_new b otherwise → Leaves ends_new b (step_of_branches w body bs otherwise)
      branches_leave body no_branch otherwise h left = left
      branches_leave body (branch c ss bs) otherwise h left =
          behind_any ends_new b (body_value w body c >>= holds) _ (λ is_true. if_leaves ends_new b is_true _ _ (steps_leave body ss h) (branches_leave body bs otherwise h left))

      otherwise_leaves : (body : Body) (o : Otherwise) → has_new body ≡ b → Leaves ends_new b (steps_otherwise w body o)
      otherwise_leaves body no_else h = pure_leaves ends_new b _ h
      otherwise_leaves body (else_steps ss) h = steps_leave body ss h

-- ---- the code's bodies

new_row_stays : (a : Around) (body : Body) (s : Statement) (ended : Ended) (scene next : Scene) → step_in a body s scene ≡ done ended next → is_some ended.body.new_row ≡ is_some body.new_row
unfolding step_in
new_row_stays a body s ended scene next h =
    subst (λ (e : Ending Ended). Holds ends_new (is_some body.new_row) e) h ((step_leaves (is_some body.new_row) (world_of a) body s refl).leaves scene)

viewed : (o : Option Shown) → is_some (view_in o) ≡ is_some o
viewed None = refl
viewed (Some view) = refl

seen : (d : TableDef) (o : Option (Bor (List Value))) → is_some (seen_as d (option_copied o)) ≡ is_some o
seen d None = refl
seen d (Some row) = refl

-- a body that was given a row leaves one, and none where it was given none
pub leaves_as_given : (a : Around) (d : TableDef) (given : Option (Bor (List Value))) (before : Body) (after : Stands) (s : Statement) (returned : Option Value) (scene next : Scene)
    → step_in a before s scene ≡ done (ended_at (body_of after) returned) next → before.new_row ≡ seen_as d (option_copied given) → is_some after.new_row ≡ is_some given
leaves_as_given a d given before after s returned scene next h is =
    sym (viewed after.new_row) ∙ new_row_stays a before s (ended_at (body_of after) returned) scene next h ∙ ap (λ (o : Option View). is_some o) is ∙ seen d given
