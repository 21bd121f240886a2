-- The steps of a body, one at a time.
use Rattle.std.proofs.Common.{◌≡◌, ℕ, zero, suc, ◌+◌, ◌<◌, ◌≤◌, Bool, true, false, cond, List, length, get_or, drop, take, Option, Some, None, refl, sym, ap, ◌∙◌, Result, Err, arith, rules}
use Rattle.std.proofs.lemmas.List.{drop_all}
use Rattle.val_types.specs.declared.value.Value.{Value}
use Rattle.val_types.specs.declared.refusal.SqlRefusal.{SqlRefusal}
use Rattle.val_types.specs.declared.refusal.SqlRefusal.TheVariants.{Sql, NoMemory}
use Rattle.sql_tree.specs.Tree.{Tree}
use Rattle.sql_tree.specs.View.{view_tree}
use Rattle.sql_tree.specs.Statement.{Declared, Statement, Statements, Branches, Otherwise, Program, Trigger, no_branch, branch, else_steps, no_else}
use Rattle.sql_tree.specs.Statement.{create_table, create_function, create_procedure, create_trigger, drop_table, drop_function, drop_procedure, drop_trigger, truncate, insert_into, replace_into, update_rows, delete_rows, select, evaluate, set_all, call_procedure, begin, commit, rollback, savepoint, rollback_to, release_savepoint, block, if_steps, while_steps, return_value}
use Rattle.sql_tree.specs.StatementView.{view, view_branch, view_branches, view_otherwise, view_statements, statement_step, branch_step, program_step, trigger_step}
use Rattle.sql_tree.specs.declared.statements.Branch.{Branch, out-Branch}
use Rattle.val_types.specs.declared.list.List.{List as Items}
use Rattle.sql_tree.specs.declared.statements.Stmt.{Stmt, If, the_lemmas}
use Rattle.sql_tree.specs.declared.statements.Stmt.TheFolds.{fold_out-Branch}
use Rattle.sql_statements.specs.sql_meaning.Scenes.{Scene, Ending, Action, done, failed, then_do, pure, fail, spend_turn, turn_spent, ◌>>=◌}
use Rattle.sql_statements.specs.sql_meaning.Values.{holds}
use Rattle.sql_statements.specs.sql_meaning.Running.{Body, Ended, body_perform, body_value, goes_on, leaves_block, steps, turns, unless_returned}
use Rattle.exec_state.specs.Stage.{EndsAs, EndsAsBy, LeadsOn, scene_of}
use Rattle.exec_state.specs.declared.stage.Stage.{Stage}
use Rattle.exec_state.proofs.Leading.{turns_led}
use Rattle.sql_evaluation.specs.declared.world.Around.{Around}
use Rattle.sql_evaluation.specs.Seen.{world_of}
use Rattle.sql_evaluation.proofs.Branching.{rest_is}
use Rattle.stored_programs.specs.declared.body.Body.{Body as Stands}
use Rattle.stored_programs.specs.Bodies.{body_of, ended_at, view_in}
use Rattle.stored_programs.specs.Steps.{Taken, all_declared_in, branches_in, holds_in_body, is_other, otherwise_in, step_in, steps_in, taken_at, taken_by, taken_in, value_in_body}
use Rattle.stored_programs.proofs.Acting.{ends_so_by}

-- ---- RETURN

return_is : (a : Around) (b : Body) (t : Tree) (scene : Scene) → step_in a b (return_value t) scene ≡ then_do (value_in_body a b t scene) (λ v. pure (ended_at b (Some v)))
unfolding step_in value_in_body
return_is a b t scene = refl

pub return_done : (a : Around) (b : Body) (t : Tree) (v : Value) (scene next : Scene) → value_in_body a b t scene ≡ done v next → step_in a b (return_value t) scene ≡ done (ended_at b (Some v)) next
return_done a b t v scene next h = return_is a b t scene ∙ ap (λ (x : Ending Value). then_do x (λ v. pure (ended_at b (Some v)))) h

pub return_fails : (a : Around) (b : Body) (t : Tree) (code : ℕ) (scene next : Scene) → value_in_body a b t scene ≡ failed code next → step_in a b (return_value t) scene ≡ failed code next
return_fails a b t code scene next h = return_is a b t scene ∙ ap (λ (x : Ending Value). then_do x (λ v. pure (ended_at b (Some v)))) h

pub ruleset returning = (return_done, return_fails)

-- ---- steps, one after the other

unfoldable pub steps_left : Around → Body → List Stmt → Scene → Ending Ended
steps_left a b ss scene = steps_in a b (view_statements ss) scene

pub steps_start : (a : Around) (b : Body) (ss : List Stmt) (scene : Scene) → steps_left a b ss scene ≡ steps_in a b (view_statements ss) scene
unfolding steps_left
steps_start a b ss scene = refl

steps_next : (a : Around) (b : Body) (ss : List Stmt) (i : ℕ) (s : Stmt) (scene : Scene) → i < length ss → s ≡ get_or ss i s
    → steps_left a b (drop i ss) scene ≡ then_do (step_in a b (view s) scene) (λ ended. unless_returned ended (λ now. steps_left a now (drop (i + 1) ss)))
unfolding steps_left steps_in step_in
steps_next a b ss i s scene within is = ap (λ (ts : List Stmt). steps (world_of a) b (view_statements ts) scene) (rest_is ss i s within is)

pub steps_more : (a : Around) (b b' : Body) (ss : List Stmt) (i : ℕ) (s : Stmt) (scene next : Scene) (o : Ending Ended)
    → i < length ss → s ≡ get_or ss i s → step_in a b (view s) scene ≡ done (ended_at b' None) next
    → steps_left a b (drop i ss) scene ≡ o → steps_left a b' (drop (i + 1) ss) next ≡ o
steps_more a b b' ss i s scene next o within is h before =
    sym (steps_next a b ss i s scene within is ∙ ap (λ (x : Ending Ended). then_do x (λ ended. unless_returned ended (λ now. steps_left a now (drop (i + 1) ss)))) h) ∙ before

pub steps_return : (a : Around) (b b' : Body) (ss : List Stmt) (i : ℕ) (s : Stmt) (v : Value) (scene next : Scene) (o : Ending Ended)
    → i < length ss → s ≡ get_or ss i s → step_in a b (view s) scene ≡ done (ended_at b' (Some v)) next
    → steps_left a b (drop i ss) scene ≡ o → o ≡ done (ended_at b' (Some v)) next
steps_return a b b' ss i s v scene next o within is h before =
    sym before ∙ steps_next a b ss i s scene within is ∙ ap (λ (x : Ending Ended). then_do x (λ ended. unless_returned ended (λ now. steps_left a now (drop (i + 1) ss)))) h

pub steps_fail : (a : Around) (b : Body) (ss : List Stmt) (i : ℕ) (s : Stmt) (code : ℕ) (scene next : Scene) (o : Ending Ended)
    → i < length ss → s ≡ get_or ss i s → step_in a b (view s) scene ≡ failed code next
    → steps_left a b (drop i ss) scene ≡ o → o ≡ failed code next
steps_fail a b ss i s code scene next o within is h before =
    sym before ∙ steps_next a b ss i s scene within is ∙ ap (λ (x : Ending Ended). then_do x (λ ended. unless_returned ended (λ now. steps_left a now (drop (i + 1) ss)))) h

pub steps_end : (a : Around) (b : Body) (ss : List Stmt) (i : ℕ) (scene : Scene) (o : Ending Ended) → length ss ≤ i
    → steps_left a b (drop i ss) scene ≡ o → o ≡ done (ended_at b None) scene
unfolding steps_left steps_in
steps_end a b ss i scene o past before = sym before ∙ ap (λ (ts : List Stmt). steps (world_of a) b (view_statements ts) scene) (drop_all i ss past)

pub ruleset stepping = (steps_start, steps_more, steps_return, steps_fail, steps_end)

-- ---- a block

block_is : (a : Around) (b : Body) (ds : List Declared) (ss : Statements) (scene : Scene)
    → step_in a b (block ds ss) scene ≡ then_do (all_declared_in a b ds scene) (λ inner. steps_in a inner ss >>= λ ended. pure (leaves_block (length b.locals) ended))
unfolding step_in all_declared_in steps_in
block_is a b ds ss scene = refl

pub block_not_declared : (a : Around) (b : Body) (ds : List Declared) (ss : Statements) (code : ℕ) (scene next : Scene) → all_declared_in a b ds scene ≡ failed code next → step_in a b (block ds ss) scene ≡ failed code next
block_not_declared a b ds ss code scene next h =
    block_is a b ds ss scene ∙ ap (λ (x : Ending Body). then_do x (λ inner. steps_in a inner ss >>= λ ended. pure (leaves_block (length b.locals) ended))) h

block_from : (a : Around) (b inner : Body) (ds : List Declared) (ss : Statements) (scene next : Scene) → all_declared_in a b ds scene ≡ done inner next
    → step_in a b (block ds ss) scene ≡ then_do (steps_in a inner ss next) (λ ended. pure (leaves_block (length b.locals) ended))
block_from a b inner ds ss scene next h =
    block_is a b ds ss scene ∙ ap (λ (x : Ending Body). then_do x (λ inner. steps_in a inner ss >>= λ ended. pure (leaves_block (length b.locals) ended))) h

pub block_fails : (a : Around) (b inner : Body) (ds : List Declared) (ss : Statements) (code : ℕ) (scene next last : Scene) → all_declared_in a b ds scene ≡ done inner next
    → steps_in a inner ss next ≡ failed code last → step_in a b (block ds ss) scene ≡ failed code last
block_fails a b inner ds ss code scene next last h e =
    block_from a b inner ds ss scene next h ∙ ap (λ (x : Ending Ended). then_do x (λ ended. pure (leaves_block (length b.locals) ended))) e

pub block_done : (a : Around) (b inner : Body) (b' b'' : Stands) (ds : List Declared) (ss : Statements) (returned : Option Value) (n : ℕ) (scene next last : Scene) → all_declared_in a b ds scene ≡ done inner next
    → steps_in a inner ss next ≡ done (ended_at (body_of b') returned) last → n ≡ length b.locals
    → b''.locals ≡ take n b'.locals → b''.new_row ≡ b'.new_row → b''.old_row ≡ b'.old_row
    → step_in a b (block ds ss) scene ≡ done (ended_at (body_of b'') returned) last
block_done a b inner b' b'' ds ss returned n scene next last h e count locals new old =
    block_from a b inner ds ss scene next h ∙ ap (λ (x : Ending Ended). then_do x (λ ended. pure (leaves_block (length b.locals) ended))) e
    ∙ ap (λ (m : ℕ). done (ended_at (record (body_of b') { locals = take m b'.locals }) returned) last) (sym count)
    ∙ ap (λ (c : Body). done (ended_at c returned) last) (λ i. record (body_of b') { locals = (sym locals) i; new_row = view_in ((sym new) i); old_row = view_in ((sym old) i) })

pub ruleset blocks = (block_not_declared, block_fails, block_done)

-- ---- IF

branch_of_out : (x : Branch) → view_branch x ≡ (view_tree (out-Branch x).condition, view_statements (out-Branch x).steps)
branch_of_out x = fold_out-Branch Statement (Tree × Statements) Program Trigger statement_step branch_step program_step trigger_step x

branches_first : (a : Around) (b : Body) (c : Tree) (ss : Statements) (bs : Branches) (o : Otherwise) (scene : Scene)
    → branches_in a b (branch c ss bs) o scene ≡ then_do (holds_in_body a b c scene) (λ is_true. cond is_true (steps_in a b ss) (branches_in a b bs o))
unfolding branches_in holds_in_body steps_in
branches_first a b c ss bs o scene = refl

branches_none : (a : Around) (b : Body) (o : Otherwise) (scene : Scene) → branches_in a b no_branch o scene ≡ otherwise_in a b o scene
unfolding branches_in otherwise_in
branches_none a b o scene = refl

-- the branch whose condition held first, where the code looks for one
taken_first : (a : Around) (b : Body) (c : Tree) (ss : Statements) (bs : Branches) (scene : Scene)
    → taken_in a b (branch c ss bs) scene ≡ then_do (holds_in_body a b c scene) (λ is_true. cond is_true (steps_in a b ss >>= λ ended. pure (taken_by ended)) (taken_in a b bs))
unfolding taken_in
taken_first a b c ss bs scene = refl

none_taken : (a : Around) (b : Body) (scene : Scene) → taken_in a b no_branch scene ≡ done (taken_at b None) scene
unfolding taken_in
none_taken a b scene = refl

unfoldable pub taken_left : Around → Body → List Branch → Scene → Ending Taken
taken_left a b bs scene = taken_in a b (view_branches bs) scene

pub taken_start : (a : Around) (b : Body) (bs : List Branch) (scene : Scene) → taken_left a b bs scene ≡ taken_in a b (view_branches bs) scene
unfolding taken_left
taken_start a b bs scene = refl

-- what stands behind a condition
abbrev chosen : Around → Body → List Branch → ℕ → Branch → Bool → Action Taken
chosen a b xs i x is_true = cond is_true (steps_in a b (view_statements (out-Branch x).steps) >>= λ ended. pure (taken_by ended)) (taken_left a b (drop (i + 1) xs))

taken_next : (a : Around) (b : Body) (xs : List Branch) (i : ℕ) (x : Branch) (scene : Scene) → i < length xs → x ≡ get_or xs i x
    → taken_left a b (drop i xs) scene ≡ then_do (holds_in_body a b (view_tree (out-Branch x).condition) scene) (chosen a b xs i x)
unfolding taken_left
taken_next a b xs i x scene within is =
    ap (λ (ys : List Branch). taken_in a b (view_branches ys) scene) (rest_is xs i x within is)
    ∙ ap (λ (y : Tree × Statements). taken_in a b (branch y.0 y.1 (view_branches (drop (i + 1) xs))) scene) (branch_of_out x)
    ∙ taken_first a b (view_tree (out-Branch x).condition) (view_statements (out-Branch x).steps) (view_branches (drop (i + 1) xs)) scene

pub taken_skip : (a : Around) (b : Body) (xs : List Branch) (i : ℕ) (x : Branch) (scene next : Scene) (o : Ending Taken)
    → i < length xs → x ≡ get_or xs i x → holds_in_body a b (view_tree (out-Branch x).condition) scene ≡ done false next
    → taken_left a b (drop i xs) scene ≡ o → taken_left a b (drop (i + 1) xs) next ≡ o
taken_skip a b xs i x scene next o within is h before =
    sym (taken_next a b xs i x scene within is ∙ ap (λ (y : Ending Bool). then_do y (chosen a b xs i x)) h) ∙ before

pub taken_here : (a : Around) (b b' : Body) (xs : List Branch) (i : ℕ) (x : Branch) (returned : Option Value) (scene next last : Scene) (o : Ending Taken)
    → i < length xs → x ≡ get_or xs i x → holds_in_body a b (view_tree (out-Branch x).condition) scene ≡ done true next
    → steps_in a b (view_statements (out-Branch x).steps) next ≡ done (ended_at b' returned) last
    → taken_left a b (drop i xs) scene ≡ o → o ≡ done (taken_at b' (Some returned)) last
taken_here a b b' xs i x returned scene next last o within is h f before =
    sym before ∙ taken_next a b xs i x scene within is ∙ ap (λ (y : Ending Bool). then_do y (chosen a b xs i x)) h
    ∙ ap (λ (y : Ending Ended). then_do y (λ ended. pure (taken_by ended))) f

pub taken_fails : (a : Around) (b : Body) (xs : List Branch) (i : ℕ) (x : Branch) (code : ℕ) (scene next last : Scene) (o : Ending Taken)
    → i < length xs → x ≡ get_or xs i x → holds_in_body a b (view_tree (out-Branch x).condition) scene ≡ done true next
    → steps_in a b (view_statements (out-Branch x).steps) next ≡ failed code last
    → taken_left a b (drop i xs) scene ≡ o → o ≡ failed code last
taken_fails a b xs i x code scene next last o within is h f before =
    sym before ∙ taken_next a b xs i x scene within is ∙ ap (λ (y : Ending Bool). then_do y (chosen a b xs i x)) h
    ∙ ap (λ (y : Ending Ended). then_do y (λ ended. pure (taken_by ended))) f

pub taken_untested : (a : Around) (b : Body) (xs : List Branch) (i : ℕ) (x : Branch) (code : ℕ) (scene next : Scene) (o : Ending Taken)
    → i < length xs → x ≡ get_or xs i x → holds_in_body a b (view_tree (out-Branch x).condition) scene ≡ failed code next
    → taken_left a b (drop i xs) scene ≡ o → o ≡ failed code next
taken_untested a b xs i x code scene next o within is h before =
    sym before ∙ taken_next a b xs i x scene within is ∙ ap (λ (y : Ending Bool). then_do y (chosen a b xs i x)) h

pub taken_end : (a : Around) (b : Body) (xs : List Branch) (i : ℕ) (scene : Scene) (o : Ending Taken) → length xs ≤ i → taken_left a b (drop i xs) scene ≡ o → o ≡ done (taken_at b None) scene
unfolding taken_left
taken_end a b xs i scene o past before = sym before ∙ ap (λ (ys : List Branch). taken_in a b (view_branches ys) scene) (drop_all i xs past) ∙ none_taken a b scene

pub ruleset branching = (taken_start, taken_skip, taken_here, taken_fails, taken_untested, taken_end)

-- the steps of that branch, or those behind ELSE
abbrev or_else : Around → Otherwise → Taken → Action Ended
or_else a o t = elim (t.returned) as (λ _. Action Ended) [ None ↦ otherwise_in a t.body o | Some returned ↦ pure (ended_at t.body returned) ]

else_behind : (a : Around) (o : Otherwise) (x : Ending Ended) → x ≡ then_do (then_do x (λ ended. pure (taken_by ended))) (or_else a o)
else_behind a o (done ended scene) = refl
else_behind a o (failed code scene) = refl

branch_else : (a : Around) (b : Body) (c : Tree) (ss : Statements) (bs : Branches) (o : Otherwise) (x : Ending Bool)
    → ((scene : Scene) → branches_in a b bs o scene ≡ then_do (taken_in a b bs scene) (or_else a o))
    → then_do x (λ is_true. cond is_true (steps_in a b ss) (branches_in a b bs o))
    ≡ then_do (then_do x (λ is_true. cond is_true (steps_in a b ss >>= λ ended. pure (taken_by ended)) (taken_in a b bs))) (or_else a o)
branch_else a b c ss bs o (done true scene) rest = else_behind a o (steps_in a b ss scene)
branch_else a b c ss bs o (done false scene) rest = rest scene
branch_else a b c ss bs o (failed code scene) rest = refl

branches_else : (a : Around) (b : Body) (bs : Branches) (o : Otherwise) (scene : Scene) → branches_in a b bs o scene ≡ then_do (taken_in a b bs scene) (or_else a o)
branches_else a b no_branch o scene = branches_none a b o scene ∙ ap (λ (x : Ending Taken). then_do x (or_else a o)) (sym (none_taken a b scene))
branches_else a b (branch c ss bs) o scene =
    branches_first a b c ss bs o scene ∙ branch_else a b c ss bs o (holds_in_body a b c scene) (branches_else a b bs o)
    ∙ ap (λ (x : Ending Taken). then_do x (or_else a o)) (sym (taken_first a b c ss bs scene))

is_branches : (a : Around) (b : Body) (bs : Branches) (o : Otherwise) (scene : Scene) → step_in a b (if_steps bs o) scene ≡ branches_in a b bs o scene
unfolding step_in branches_in
is_branches a b bs o scene = refl

if_is : (a : Around) (b : Body) (bs : Branches) (o : Otherwise) (scene : Scene) → step_in a b (if_steps bs o) scene ≡ then_do (taken_in a b bs scene) (or_else a o)
if_is a b bs o scene = is_branches a b bs o scene ∙ branches_else a b bs o scene

pub if_fails : (a : Around) (b : Body) (view : Option Value → Ended) (other : Option (Option Value) → Taken) (bs : Branches) (o : Otherwise) (e : SqlRefusal) (scene next : Scene)
    → EndsAsBy other (Err e) next (taken_in a b bs scene) → EndsAsBy view (Err e) next (step_in a b (if_steps bs o) scene)
if_fails a b view other bs o NoMemory scene next h = tt
if_fails a b view other bs o (Sql code) scene next h = if_is a b bs o scene ∙ ap (λ (x : Ending Taken). then_do x (or_else a o)) h

pub if_taken : (a : Around) (b b' : Body) (bs : Branches) (o : Otherwise) (returned : Option Value) (scene next : Scene)
    → taken_in a b bs scene ≡ done (taken_at b' (Some returned)) next → step_in a b (if_steps bs o) scene ≡ done (ended_at b' returned) next
if_taken a b b' bs o returned scene next h = if_is a b bs o scene ∙ ap (λ (x : Ending Taken). then_do x (or_else a o)) h

pub if_else : (a : Around) (b b' : Body) (bs : Branches) (o : Otherwise) (view : Option Value → Ended) (r : Result (Option Value) SqlRefusal) (scene next last : Scene)
    → taken_in a b bs scene ≡ done (taken_at b' None) next → EndsAsBy view r last (otherwise_in a b' o next) → EndsAsBy view r last (step_in a b (if_steps bs o) scene)
if_else a b b' bs o view r scene next last h f =
    ends_so_by view r last _ _ (if_is a b bs o scene ∙ ap (λ (x : Ending Taken). then_do x (or_else a o)) h) f

pub else_none : (a : Around) (b : Body) (scene : Scene) → otherwise_in a b no_else scene ≡ done (ended_at b None) scene
unfolding otherwise_in
else_none a b scene = refl

pub else_some : (a : Around) (b : Body) (ss : Statements) (view : Option Value → Ended) (r : Result (Option Value) SqlRefusal) (scene last : Scene)
    → EndsAsBy view r last (steps_in a b ss scene) → EndsAsBy view r last (otherwise_in a b (else_steps ss) scene)
unfolding otherwise_in steps_in
else_some a b ss view r scene last h = h

pub ruleset elses = (else_none, else_some)

-- ---- the turns of a WHILE

abbrev tested : Around → Tree → Body → Action Bool
tested a c now = body_value (world_of a) now c >>= holds

abbrev stepped : Around → Statements → Body → Action Ended
stepped a ss now = steps (world_of a) now ss

-- as many turns as a bound allows
unfoldable pub turns_in : ℕ → Around → Tree → Statements → Body → Scene → Ending Ended
turns_in n a c ss b scene = turns n (tested a c) (stepped a ss) b scene

-- What the turns to come do from here: some bound on them, by which the loop does from here what it does from the start.
pub record TurnsTo (a : Around) (c : Tree) (ss : Statements) (b : Body) (p : Stage) (o : Ending Ended) : Type 0 where
  pub bound : ℕ
  pub enough : p.turns ≤ bound
  pub gives : turns_in bound a c ss b (scene_of p) ≡ o

as_low : (n : ℕ) → n ≤ n
as_low n = omega arith

turns_of_scene : (p : Stage) → (scene_of p).turns ≡ p.turns
unfolding scene_of
turns_of_scene p = refl

while_is : (a : Around) (b : Body) (c : Tree) (ss : Statements) (scene : Scene) → turns_in scene.turns a c ss b scene ≡ step_in a b (while_steps c ss) scene
unfolding turns_in step_in
while_is a b c ss scene = refl

pub turns_start : (a : Around) (b : Body) (c : Tree) (ss : Statements) (p : Stage) → TurnsTo a c ss b p (step_in a b (while_steps c ss) (scene_of p))
turns_start a b c ss p = record {
  bound = p.turns;
  enough = as_low p.turns;
  gives = ap (λ (n : ℕ). turns_in n a c ss b (scene_of p)) (sym (turns_of_scene p)) ∙ while_is a b c ss (scene_of p);
}

-- ---- a turn, where the bound is none and where it is one more

abbrev behind_steps : ℕ → Around → Tree → Statements → Ended → Action Ended
behind_steps n a c ss ended = unless_returned ended (turns_in n a c ss)

abbrev behind_spent : ℕ → Around → Tree → Statements → Body → Unit {0} → Action Ended
behind_spent n a c ss b spent = steps_in a b ss >>= behind_steps n a c ss

abbrev behind_test : ℕ → Around → Tree → Statements → Body → Bool → Action Ended
behind_test n a c ss b goes = cond goes (spend_turn >>= behind_spent n a c ss b) (pure (goes_on b))

abbrev behind_last : Body → Bool → Action Ended
behind_last b goes = cond goes (fail 30004) (pure (goes_on b))

one_more : (n : ℕ) (a : Around) (c : Tree) (ss : Statements) (b : Body) (scene : Scene) → turns_in (suc n) a c ss b scene ≡ then_do (holds_in_body a b c scene) (behind_test n a c ss b)
unfolding turns_in holds_in_body steps_in
one_more n a c ss b scene = refl

none_more : (a : Around) (c : Tree) (ss : Statements) (b : Body) (scene : Scene) → turns_in zero a c ss b scene ≡ then_do (holds_in_body a b c scene) (behind_last b)
unfolding turns_in holds_in_body
none_more a c ss b scene = refl

-- the loop is past
past_by : (n : ℕ) (a : Around) (c : Tree) (ss : Statements) (b : Body) (scene next : Scene) → holds_in_body a b c scene ≡ done false next → turns_in n a c ss b scene ≡ done (ended_at b None) next
past_by zero a c ss b scene next h = none_more a c ss b scene ∙ ap (λ (x : Ending Bool). then_do x (behind_last b)) h
past_by (suc n) a c ss b scene next h = one_more n a c ss b scene ∙ ap (λ (x : Ending Bool). then_do x (behind_test n a c ss b)) h

pub turns_past : (a : Around) (c : Tree) (ss : Statements) (b : Body) (p q : Stage) (o : Ending Ended) → TurnsTo a c ss b p o
    → holds_in_body a b c (scene_of p) ≡ done false (scene_of q) → o ≡ done (ended_at b None) (scene_of q)
turns_past a c ss b p q o before h = sym (before.gives) ∙ past_by before.bound a c ss b (scene_of p) (scene_of q) h

untested_by : (n : ℕ) (a : Around) (c : Tree) (ss : Statements) (b : Body) (code : ℕ) (scene next : Scene) → holds_in_body a b c scene ≡ failed code next → turns_in n a c ss b scene ≡ failed code next
untested_by zero a c ss b code scene next h = none_more a c ss b scene ∙ ap (λ (x : Ending Bool). then_do x (behind_last b)) h
untested_by (suc n) a c ss b code scene next h = one_more n a c ss b scene ∙ ap (λ (x : Ending Bool). then_do x (behind_test n a c ss b)) h

pub turns_untested : (a : Around) (c : Tree) (ss : Statements) (b : Body) (code : ℕ) (p q : Stage) (o : Ending Ended) → TurnsTo a c ss b p o
    → holds_in_body a b c (scene_of p) ≡ failed code (scene_of q) → o ≡ failed code (scene_of q)
turns_untested a c ss b code p q o before h = sym (before.gives) ∙ untested_by before.bound a c ss b code (scene_of p) (scene_of q) h

-- no turn is left
spent_none : (scene : Scene) (n : ℕ) → n ≤ 0 → scene.turns ≡ n → spend_turn scene ≡ failed 30004 scene
spent_none scene n low is = let none : scene.turns ≡ 0 = omega (arith, is) in ap (λ (m : ℕ). turn_spent m scene) none

unspent_by : (n : ℕ) (a : Around) (c : Tree) (ss : Statements) (b : Body) (code : ℕ) (scene : Scene) (q r : Stage) → q.turns ≤ n → holds_in_body a b c scene ≡ done true (scene_of q)
    → spend_turn (scene_of q) ≡ failed code (scene_of r) → turns_in n a c ss b scene ≡ failed code (scene_of r)
unspent_by zero a c ss b code scene q r low h e =
    none_more a c ss b scene ∙ ap (λ (x : Ending Bool). then_do x (behind_last b)) h
    ∙ ap (λ (x : Ending (Unit {0})). then_do x (λ _. pure (goes_on b))) (sym (spent_none (scene_of q) q.turns low (turns_of_scene q)) ∙ e)
unspent_by (suc n) a c ss b code scene q r low h e =
    one_more n a c ss b scene ∙ ap (λ (x : Ending Bool). then_do x (behind_test n a c ss b)) h ∙ ap (λ (x : Ending (Unit {0})). then_do x (behind_spent n a c ss b)) e

pub turns_unspent : (a : Around) (c : Tree) (ss : Statements) (b : Body) (code : ℕ) (p q r : Stage) (o : Ending Ended) → TurnsTo a c ss b p o → LeadsOn p q
    → holds_in_body a b c (scene_of p) ≡ done true (scene_of q) → spend_turn (scene_of q) ≡ failed code (scene_of r) → o ≡ failed code (scene_of r)
turns_unspent a c ss b code p q r o before led h e =
    let fewer : q.turns ≤ p.turns = turns_led p q led in
    sym (before.gives) ∙ unspent_by before.bound a c ss b code (scene_of p) q r (omega (arith, fewer, before.enough)) h e

-- a turn is spent
spent_at : (n : ℕ) (a : Around) (c : Tree) (ss : Statements) (b : Body) (u : Unit {0}) (scene s1 s2 : Scene) → holds_in_body a b c scene ≡ done true s1 → spend_turn s1 ≡ done u s2
    → turns_in (suc n) a c ss b scene ≡ then_do (steps_in a b ss s2) (behind_steps n a c ss)
spent_at n a c ss b u scene s1 s2 h e =
    one_more n a c ss b scene ∙ ap (λ (x : Ending Bool). then_do x (behind_test n a c ss b)) h ∙ ap (λ (x : Ending (Unit {0})). then_do x (behind_spent n a c ss b)) e

-- so a bound was one more than another
pub record OneMore (n : ℕ) : Type 0 where
  pub less : ℕ
  pub is : n ≡ suc less

one_less : (n q r : ℕ) → r < q → q ≤ n → OneMore n
one_less zero q r fewer low = absurd (omega arith)
one_less (suc n) q r fewer low = record { less = n; is = refl }

abbrev bound_of : (n q r : ℕ) → r < q → q ≤ n → ℕ
bound_of n q r fewer low = (one_less n q r fewer low).less

spent_by : (n : ℕ) (more : OneMore n) (a : Around) (c : Tree) (ss : Statements) (b : Body) (u : Unit {0}) (scene s1 s2 : Scene) → holds_in_body a b c scene ≡ done true s1 → spend_turn s1 ≡ done u s2
    → turns_in n a c ss b scene ≡ then_do (steps_in a b ss s2) (behind_steps more.less a c ss)
spent_by n more a c ss b u scene s1 s2 h e = ap (λ (m : ℕ). turns_in m a c ss b scene) more.is ∙ spent_at more.less a c ss b u scene s1 s2 h e

pub turns_failed : (a : Around) (c : Tree) (ss : Statements) (b : Body) (u : Unit {0}) (code : ℕ) (p q r s : Stage) (o : Ending Ended) → TurnsTo a c ss b p o → LeadsOn p q
    → holds_in_body a b c (scene_of p) ≡ done true (scene_of q) → spend_turn (scene_of q) ≡ done u (scene_of r) → r.turns < q.turns
    → steps_in a b ss (scene_of r) ≡ failed code (scene_of s) → o ≡ failed code (scene_of s)
turns_failed a c ss b u code p q r s o before led h e fewer f =
    let low : q.turns ≤ p.turns = turns_led p q led in
    let within : q.turns ≤ before.bound = omega (arith, low, before.enough) in
    let more : OneMore before.bound = one_less before.bound q.turns r.turns fewer within in
    sym (before.gives) ∙ spent_by before.bound more a c ss b u (scene_of p) (scene_of q) (scene_of r) h e
    ∙ ap (λ (x : Ending Ended). then_do x (behind_steps more.less a c ss)) f

pub turns_returned : (a : Around) (c : Tree) (ss : Statements) (b b' : Body) (u : Unit {0}) (v : Value) (p q r s : Stage) (o : Ending Ended) → TurnsTo a c ss b p o → LeadsOn p q
    → holds_in_body a b c (scene_of p) ≡ done true (scene_of q) → spend_turn (scene_of q) ≡ done u (scene_of r) → r.turns < q.turns
    → steps_in a b ss (scene_of r) ≡ done (ended_at b' (Some v)) (scene_of s) → o ≡ done (ended_at b' (Some v)) (scene_of s)
turns_returned a c ss b b' u v p q r s o before led h e fewer f =
    let low : q.turns ≤ p.turns = turns_led p q led in
    let within : q.turns ≤ before.bound = omega (arith, low, before.enough) in
    let more : OneMore before.bound = one_less before.bound q.turns r.turns fewer within in
    sym (before.gives) ∙ spent_by before.bound more a c ss b u (scene_of p) (scene_of q) (scene_of r) h e
    ∙ ap (λ (x : Ending Ended). then_do x (behind_steps more.less a c ss)) f

pub turns_more : (a : Around) (c : Tree) (ss : Statements) (b b' : Body) (u : Unit {0}) (p q r s : Stage) (o : Ending Ended) → TurnsTo a c ss b p o → LeadsOn p q
    → holds_in_body a b c (scene_of p) ≡ done true (scene_of q) → spend_turn (scene_of q) ≡ done u (scene_of r) → r.turns < q.turns → LeadsOn r s
    → steps_in a b ss (scene_of r) ≡ done (ended_at b' None) (scene_of s) → TurnsTo a c ss b' s o
turns_more a c ss b b' u p q r s o before led h e fewer led_then f =
    let low : q.turns ≤ p.turns = turns_led p q led in
    let within : q.turns ≤ before.bound = omega (arith, low, before.enough) in
    let more : OneMore before.bound = one_less before.bound q.turns r.turns fewer within in
    let lower : s.turns ≤ r.turns = turns_led r s led_then in
    let one : before.bound ≡ suc more.less = more.is in
    record {
      bound = more.less;
      enough = omega (arith, lower, fewer, within, one);
      gives =
          sym (spent_by before.bound more a c ss b u (scene_of p) (scene_of q) (scene_of r) h e ∙ ap (λ (x : Ending Ended). then_do x (behind_steps more.less a c ss)) f)
          ∙ before.gives;
    }

-- the same, by how the code answers
pub untested_ends : (a : Around) (c : Tree) (ss : Statements) (b : Body) (view : Option Value → Ended) (e : SqlRefusal) (p q : Stage) (o : Ending Ended) → TurnsTo a c ss b p o
    → EndsAs {A = Bool} (Err e) (scene_of q) (holds_in_body a b c (scene_of p)) → EndsAsBy view (Err e) (scene_of q) o
untested_ends a c ss b view NoMemory p q o before h = tt
untested_ends a c ss b view (Sql code) p q o before h = turns_untested a c ss b code p q o before h

pub unspent_ends : (a : Around) (c : Tree) (ss : Statements) (b : Body) (view : Option Value → Ended) (e : SqlRefusal) (p q r : Stage) (o : Ending Ended) → TurnsTo a c ss b p o → LeadsOn p q
    → holds_in_body a b c (scene_of p) ≡ done true (scene_of q) → EndsAs {A = Unit {0}} (Err e) (scene_of r) (spend_turn (scene_of q)) → EndsAsBy view (Err e) (scene_of r) o
unspent_ends a c ss b view NoMemory p q r o before led h f = tt
unspent_ends a c ss b view (Sql code) p q r o before led h f = turns_unspent a c ss b code p q r o before led h f

pub failed_ends : (a : Around) (c : Tree) (ss : Statements) (b : Body) (view other : Option Value → Ended) (u : Unit {0}) (e : SqlRefusal) (p q r s : Stage) (o : Ending Ended) → TurnsTo a c ss b p o → LeadsOn p q
    → holds_in_body a b c (scene_of p) ≡ done true (scene_of q) → spend_turn (scene_of q) ≡ done u (scene_of r) → r.turns < q.turns
    → EndsAsBy other (Err e) (scene_of s) (steps_in a b ss (scene_of r)) → EndsAsBy view (Err e) (scene_of s) o
failed_ends a c ss b view other u NoMemory p q r s o before led h f fewer g = tt
failed_ends a c ss b view other u (Sql code) p q r s o before led h f fewer g = turns_failed a c ss b u code p q r s o before led h f fewer g

pub ruleset looping = (turns_start, turns_more, turns_led)

-- ---- an IF of the code

pub if_view : (arms : Items Branch) (otherwise : Option (Items Stmt)) → view (If arms otherwise) ≡ if_steps (view_branches arms) (view_otherwise otherwise)
if_view arms otherwise = search (rules, the_lemmas)

-- ---- other steps

other_is : (a : Around) (b : Body) (s : Statement) (scene : Scene) → is_other s ≡ true → step_in a b s scene ≡ body_perform (world_of a) b s scene
unfolding step_in
other_is a b (create_table t) scene is = refl
other_is a b (create_function p) scene is = refl
other_is a b (create_procedure p) scene is = refl
other_is a b (create_trigger t) scene is = refl
other_is a b (drop_table n) scene is = refl
other_is a b (drop_function n) scene is = refl
other_is a b (drop_procedure n) scene is = refl
other_is a b (drop_trigger n) scene is = refl
other_is a b (truncate n) scene is = refl
other_is a b (insert_into ignore t cs from us) scene is = refl
other_is a b (replace_into t cs from) scene is = refl
other_is a b (update_rows t ss w os l) scene is = refl
other_is a b (delete_rows t w os l) scene is = refl
other_is a b (select q) scene is = refl
other_is a b (evaluate ts) scene is = refl
other_is a b (set_all as') scene is = cc
other_is a b (call_procedure n ts) scene is = refl
other_is a b begin scene is = refl
other_is a b commit scene is = refl
other_is a b rollback scene is = refl
other_is a b (savepoint n) scene is = refl
other_is a b (rollback_to n) scene is = refl
other_is a b (release_savepoint n) scene is = refl
other_is a b (block ds ss) scene is = cc
other_is a b (if_steps bs o) scene is = cc
other_is a b (while_steps c ss) scene is = cc
other_is a b (return_value e) scene is = cc

pub other_step : (a : Around) (b : Body) (s : Statement) (view : Option Value → Ended) (r : Result (Option Value) SqlRefusal) (scene last : Scene) → is_other s ≡ true
    → EndsAsBy view r last (body_perform (world_of a) b s scene) → EndsAsBy view r last (step_in a b s scene)
other_step a b s view r scene last is h = ends_so_by view r last _ _ (other_is a b s scene is) h

pub ruleset others = (other_step)
