-- An UPDATE of a row, one step at a time.
use Rattle.std.proofs.Common.{◌≡◌, ℕ, ◌+◌, ◌<◌, ◌≤◌, List, [], Option, Some, None, length, get_or, drop, refl, sym, ap, ◌∙◌, subst, Result, Ok, Err, unwrap_or}
use Rattle.std.proofs.lemmas.List.{drop_all}
use Rattle.val_types.specs.declared.value.Value.{Value}
use Rattle.val_types.specs.declared.refusal.SqlRefusal.{SqlRefusal}
use Rattle.val_types.specs.declared.refusal.SqlRefusal.TheVariants.{Sql, NoMemory}
use Rattle.val_types.specs.declared.definitions.TableDef.{TableDef}
use Rattle.sql_tree.specs.Tree.{Tree}
use Rattle.sql_tree.specs.View.{view_tree}
use Rattle.sql_tree.specs.StatementView.{view_set, view_sets}
use Rattle.sql_tree.specs.declared.statements.ColumnSet.{ColumnSet}
use Rattle.sql_tree.specs.declared.statements.Cause.TheVariants as causes
use Rattle.sql_evaluation.specs.catalog_rules.Names.{place_among}
use Rattle.sql_evaluation.specs.catalog_rules.Objects.{columns_of}
use Rattle.sql_evaluation.specs.sql_meaning.Scenes.{Scene, Ending, Action, done, failed, then_do, pure, needed, ◌>>=◌}
use Rattle.sql_evaluation.specs.sql_meaning.Frames.{sees}
use Rattle.sql_evaluation.specs.sql_meaning.Values.{value}
use Rattle.sql_evaluation.specs.sql_meaning.Changing.{assign_column, put_at, before_row, after_row, none_missing, store_update}
use Rattle.sql_evaluation.specs.exec_state.Stage.{EndsAs}
use Rattle.sql_evaluation.specs.declared.world.View.{View as Shown}
use Rattle.sql_evaluation.specs.declared.world.Around.{Around}
use Rattle.sql_evaluation.specs.Seen.{value_in, seen, with_row, Inside, Anywhere, world_of, frame_of}
use Rattle.sql_evaluation.proofs.Branching.{rest_is}
use Rattle.sql_evaluation.proofs.Scanning.{inside_next}
use Rattle.changed_rows.specs.Changed.{put_named, left_in, assigned_in, stored_in, updated_in}

-- ---- one assignment

sees_is : (a : Around) (d : TableDef) (row : List Value) (vs : List Shown) → frame_of a (seen d row vs) ≡ sees d row (frame_of a vs)
unfolding frame_of
sees_is a d row vs = refl

-- a value put into the column of a name
pub named_nowhere : (d : TableDef) (row : List Value) (name : List ℕ) (v : Value) → None ≡ place_among (columns_of d) name → Anywhere (Err (Sql 1054)) (put_named d row name v)
named_nowhere d row name v none = record { ends = λ scene. rw (← none) refl }

pub named_ends : (d : TableDef) (row : List Value) (name : List ℕ) (v : Value) (place : ℕ) (r : Result (List Value) SqlRefusal) → Some place ≡ place_among (columns_of d) name → Anywhere r (put_at d row (place, v))
    → Anywhere r (put_named d row name v)
named_ends d row name v place r there h = record {
  ends = λ scene.
      subst (λ (o : Option ℕ). EndsAs r scene (then_do (needed 1054 o scene) (λ place. put_at d row (place, v)))) there (h.ends scene);
}

pub ruleset naming = (named_nowhere, named_ends)

-- its value, in the rows in view that see the row
assigns : (a : Around) (d : TableDef) (row : List Value) (vs : List Shown) (s : ColumnSet) (scene : Scene) → vs ≡ seen d row []
    → assign_column (world_of a) (frame_of a []) d row (view_set s) scene ≡ then_do (value_in a vs (view_tree s.value) scene) (put_named d row s.column)
assigns a d row vs s scene shown =
    ap (λ frame. then_do (value (world_of a) frame (view_tree s.value) scene) (put_named d row s.column)) (sym (sees_is a d row []) ∙ ap (frame_of a) (sym shown))

assign_fails : (e : SqlRefusal) (next : Scene) (x : Ending Value) (then : Value → Action (List Value)) → EndsAs (Err e) next x → EndsAs (Err e) next (then_do x then)
assign_fails (Sql code) next x then h = rw h refl
assign_fails NoMemory next x then h = tt

pub assign_no_value : (a : Around) (d : TableDef) (row : List Value) (vs : List Shown) (s : ColumnSet) (e : SqlRefusal) (scene next : Scene) → vs ≡ seen d row []
    → EndsAs (Err e) next (value_in a vs (view_tree s.value) scene) → EndsAs (Err e) next (assign_column (world_of a) (frame_of a []) d row (view_set s) scene)
assign_no_value a d row vs s e scene next shown h =
    subst (λ (x : Ending (List Value)). EndsAs (Err e) next x) (sym (assigns a d row vs s scene shown)) (assign_fails e next (value_in a vs (view_tree s.value) scene) (put_named d row s.column) h)

pub assign_ends : (a : Around) (d : TableDef) (row : List Value) (vs : List Shown) (s : ColumnSet) (v : Value) (r : Result (List Value) SqlRefusal) (scene next : Scene) → vs ≡ seen d row []
    → value_in a vs (view_tree s.value) scene ≡ done v next → Anywhere r (put_named d row s.column v)
    → EndsAs r next (assign_column (world_of a) (frame_of a []) d row (view_set s) scene)
assign_ends a d row vs s v r scene next shown h put =
    subst (λ (x : Ending (List Value)). EndsAs r next x)
    (sym (assigns a d row vs s scene shown ∙ ap (λ (x : Ending Value). then_do x (put_named d row s.column)) h)) (put.ends next)

-- ---- the assignments

-- what is left of them, from the row as it is
unfoldable pub assigned_left : Around → TableDef → List (List ℕ × Tree) → List Value → Scene → Ending (List Value)
assigned_left a d sets row scene = assigned_in a d sets row scene

pub assigned_start : (a : Around) (d : TableDef) (sets : List (List ℕ × Tree)) (row : List Value) (scene : Scene) → assigned_left a d sets row scene ≡ assigned_in a d sets row scene
unfolding assigned_left
assigned_start a d sets row scene = refl

assigned_next : (a : Around) (d : TableDef) (sets : List ColumnSet) (i : ℕ) (s : ColumnSet) (row : List Value) (scene : Scene) → i < length sets → s ≡ get_or sets i s
    → assigned_left a d (view_sets (drop i sets)) row scene
    ≡ then_do (assign_column (world_of a) (frame_of a []) d row (view_set s) scene) (λ left. assigned_in a d (view_sets (drop (i + 1) sets)) left)
unfolding assigned_left
assigned_next a d sets i s row scene within is = ap (λ (ss : List ColumnSet). assigned_in a d (view_sets ss) row scene) (rest_is sets i s within is)

pub assigned_more : (a : Around) (d : TableDef) (sets : List ColumnSet) (i : ℕ) (s : ColumnSet) (row left : List Value) (scene next : Scene) (o : Ending (List Value)) → i < length sets → s ≡ get_or sets i s
    → assign_column (world_of a) (frame_of a []) d row (view_set s) scene ≡ done left next
    → assigned_left a d (view_sets (drop i sets)) row scene ≡ o → assigned_left a d (view_sets (drop (i + 1) sets)) left next ≡ o
unfolding assigned_left
assigned_more a d sets i s row left scene next o within is h before = sym (assigned_next a d sets i s row scene within is ∙ (rw h refl)) ∙ before

pub assigned_fail : (a : Around) (d : TableDef) (sets : List ColumnSet) (i : ℕ) (s : ColumnSet) (row : List Value) (code : ℕ) (scene next : Scene) (o : Ending (List Value)) → i < length sets → s ≡ get_or sets i s
    → assign_column (world_of a) (frame_of a []) d row (view_set s) scene ≡ failed code next
    → assigned_left a d (view_sets (drop i sets)) row scene ≡ o → o ≡ failed code next
assigned_fail a d sets i s row code scene next o within is h before = sym before ∙ assigned_next a d sets i s row scene within is ∙ (rw h refl)

pub assigned_end : (a : Around) (d : TableDef) (sets : List ColumnSet) (i : ℕ) (row : List Value) (scene : Scene) (o : Ending (List Value)) → length sets ≤ i
    → assigned_left a d (view_sets (drop i sets)) row scene ≡ o → o ≡ done row scene
unfolding assigned_left
assigned_end a d sets i row scene o past before = sym before ∙ ap (λ (ss : List ColumnSet). assigned_in a d (view_sets ss) row scene) (drop_all i sets past)

-- the rows in view see the row
pub shown_there : (d : TableDef) (inner : List Shown) (row : List Value) → Inside d [] inner → with_row inner row ≡ seen d row []
shown_there d inner row h = h.next row

pub ruleset assignments = (inside_next, shown_there, assigned_start, assigned_more, assigned_fail, assigned_end)

-- ---- the row that is left, stored

pub stored_missing : (a : Around) (d : TableDef) (old left : List Value) (code : ℕ) (scene : Scene) → Anywhere {A = Unit {0}} (Err (Sql code)) (none_missing d left None)
    → stored_in a d old left scene ≡ failed code scene
stored_missing a d old left code scene h =
    ap (λ (e : Ending (Unit {0})). then_do e (λ _. store_update d old left >>= λ count. after_row (world_of a) causes.Update d (Some left) (Some old) >>= λ _. pure count)) (h.ends scene)

stored_known : (a : Around) (d : TableDef) (old left : List Value) (known : Unit {0}) (scene : Scene) → Anywhere (Ok known) (none_missing d left None)
    → stored_in a d old left scene ≡ then_do (store_update d old left scene) (λ count. after_row (world_of a) causes.Update d (Some left) (Some old) >>= λ _. pure count)
stored_known a d old left known scene h =
    ap (λ (e : Ending (Unit {0})). then_do e (λ _. store_update d old left >>= λ count. after_row (world_of a) causes.Update d (Some left) (Some old) >>= λ _. pure count)) (h.ends scene)

pub stored_not : (a : Around) (d : TableDef) (old left : List Value) (known : Unit {0}) (code : ℕ) (scene next : Scene) → Anywhere (Ok known) (none_missing d left None)
    → store_update d old left scene ≡ failed code next → stored_in a d old left scene ≡ failed code next
stored_not a d old left known code scene next h e =
    stored_known a d old left known scene h ∙ ap (λ (x : Ending ℕ). then_do x (λ count. after_row (world_of a) causes.Update d (Some left) (Some old) >>= λ _. pure count)) e

stored_so : (a : Around) (d : TableDef) (old left : List Value) (known : Unit {0}) (count : ℕ) (scene next : Scene) → Anywhere (Ok known) (none_missing d left None)
    → store_update d old left scene ≡ done count next
    → stored_in a d old left scene ≡ then_do (after_row (world_of a) causes.Update d (Some left) (Some old) next) (λ _. pure count)
stored_so a d old left known count scene next h e =
    stored_known a d old left known scene h ∙ ap (λ (x : Ending ℕ). then_do x (λ count. after_row (world_of a) causes.Update d (Some left) (Some old) >>= λ _. pure count)) e

pub stored_then : (a : Around) (d : TableDef) (old left : List Value) (known u : Unit {0}) (count : ℕ) (scene next last : Scene) → Anywhere (Ok known) (none_missing d left None)
    → store_update d old left scene ≡ done count next → after_row (world_of a) causes.Update d (Some left) (Some old) next ≡ done u last
    → stored_in a d old left scene ≡ done count last
stored_then a d old left known u count scene next last h e f =
    stored_so a d old left known count scene next h e ∙ ap (λ (x : Ending (Unit {0})). then_do x (λ _. pure count)) f

pub stored_then_not : (a : Around) (d : TableDef) (old left : List Value) (known : Unit {0}) (count code : ℕ) (scene next last : Scene) → Anywhere (Ok known) (none_missing d left None)
    → store_update d old left scene ≡ done count next → after_row (world_of a) causes.Update d (Some left) (Some old) next ≡ failed code last
    → stored_in a d old left scene ≡ failed code last
stored_then_not a d old left known count code scene next last h e f =
    stored_so a d old left known count scene next h e ∙ ap (λ (x : Ending (Unit {0})). then_do x (λ _. pure count)) f

pub ruleset storing = (stored_missing, stored_not, stored_then, stored_then_not)

-- ---- the whole

-- what is done with the row that a trigger leaves
through_left : {B : Type 0} (e : Ending (Option (List Value))) (row : List Value) (next : List Value → Action B)
    → then_do e (λ left. next (unwrap_or left row)) ≡ then_do (then_do e (λ left. pure (unwrap_or left row))) next
through_left (done left scene) row next = refl
through_left (failed code scene) row next = refl

update_by : (a : Around) (d : TableDef) (sets : List (List ℕ × Tree)) (old assigned : List Value) (scene next : Scene) → assigned_in a d sets old scene ≡ done assigned next
    → updated_in a d sets old scene ≡ then_do (left_in a causes.Update d assigned (Some old) next) (λ left. stored_in a d old left)
update_by a d sets old assigned scene next h =
    (rw h refl) ∙ through_left (before_row (world_of a) causes.Update d (Some assigned) (Some old) next) assigned (λ left. stored_in a d old left)

pub update_ends : (a : Around) (d : TableDef) (sets : List (List ℕ × Tree)) (old assigned left : List Value) (r : Result ℕ SqlRefusal) (scene next later last : Scene)
    → assigned_in a d sets old scene ≡ done assigned next → left_in a causes.Update d assigned (Some old) next ≡ done left later
    → EndsAs r last (stored_in a d old left later) → EndsAs r last (updated_in a d sets old scene)
update_ends a d sets old assigned left r scene next later last h e f =
    subst (λ (x : Ending ℕ). EndsAs r last x)
    (sym (update_by a d sets old assigned scene next h ∙ ap (λ (x : Ending (List Value)). then_do x (λ left. stored_in a d old left)) e)) f

pub update_not_assigned : (a : Around) (d : TableDef) (sets : List (List ℕ × Tree)) (old : List Value) (code : ℕ) (scene next : Scene)
    → assigned_in a d sets old scene ≡ failed code next → updated_in a d sets old scene ≡ failed code next
update_not_assigned a d sets old code scene next h = rw h refl

pub update_not_left : (a : Around) (d : TableDef) (sets : List (List ℕ × Tree)) (old assigned : List Value) (code : ℕ) (scene next later : Scene)
    → assigned_in a d sets old scene ≡ done assigned next → left_in a causes.Update d assigned (Some old) next ≡ failed code later
    → updated_in a d sets old scene ≡ failed code later
update_not_left a d sets old assigned code scene next later h e =
    update_by a d sets old assigned scene next h ∙ ap (λ (x : Ending (List Value)). then_do x (λ left. stored_in a d old left)) e

pub ruleset updates = (update_ends, update_not_assigned, update_not_left)
