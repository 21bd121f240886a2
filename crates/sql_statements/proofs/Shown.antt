-- SELECT and DO, and each kind of statement as its part.
use Rattle.std.proofs.Common.{◌≡◌, ℕ, ℤ, List, [], ◌∷◌, Bool, true, false, Option, IsTrue, ◌↔◌, refl, subst, Result}
use Rattle.val_types.specs.declared.value.Value.{Value}
use Rattle.val_types.specs.declared.refusal.SqlRefusal.{SqlRefusal}
use Rattle.sql_tree.specs.Tree.{Trees, Query}
use Rattle.sql_tree.specs.Statement.{select, evaluate}
use Rattle.sql_tree.specs.StatementView.{view_insert, view_replace, view_update, view_delete, view_supply, view_sets}
use Rattle.sql_tree.specs.declared.statements.ColumnSet.{ColumnSet}
use Rattle.sql_tree.specs.declared.statements.InsertStmt.{InsertStmt}
use Rattle.sql_tree.specs.declared.statements.ReplaceStmt.{ReplaceStmt}
use Rattle.sql_tree.specs.declared.statements.UpdateStmt.{UpdateStmt}
use Rattle.sql_tree.specs.declared.statements.DeleteStmt.{DeleteStmt}
use Rattle.changed_rows.specs.sql_meaning.Scenes.{Scene, done, failed}
use Rattle.changed_rows.specs.sql_meaning.Changing.{Did, Manner, replacing, updating, affected_rows}
use Rattle.changed_rows.specs.sql_meaning.Running.{manner_of, perform, rows_shown}
use Rattle.exec_state.specs.Stage.{EndsAsBy}
use Rattle.changed_rows.specs.sql_evaluation.declared.world.Around.{Around}
use Rattle.changed_rows.specs.sql_evaluation.declared.world.View.{View as Seen}
use Rattle.changed_rows.specs.sql_evaluation.Seen.{values_in, frame_of, world_of}
use Rattle.changed_rows.specs.sql_evaluation.Seen.{rows_in as query_in}
use Rattle.sql_statements.specs.declared.did.Did.{Did as Done}
use Rattle.sql_statements.specs.Did.{did_of}
use Rattle.sql_statements.specs.Changed.{insert_in, update_in, delete_in, select_in, do_in}

-- ---- SELECT and DO

pub select_done : (a : Around) (vs : List Seen) (q : Query) (shown : List (List Value)) (did : Did) (scene next : Scene)
    → query_in a vs q scene ≡ done shown next → did ≡ rows_shown shown → select_in a vs q scene ≡ done did next
unfolding select_in
select_done a vs q shown did scene next h is = rw (h, is) refl

pub select_stops : (a : Around) (vs : List Seen) (q : Query) (code : ℕ) (scene next : Scene) → query_in a vs q scene ≡ failed code next → select_in a vs q scene ≡ failed code next
unfolding select_in
select_stops a vs q code scene next h = rw h refl

pub ruleset selecting = (select_done, select_stops)

pub do_done : (a : Around) (vs : List Seen) (ts : Trees) (dropped : List Value) (did : Did) (scene next : Scene)
    → values_in a vs ts scene ≡ done dropped next → did ≡ affected_rows 0 → do_in a vs ts scene ≡ done did next
unfolding do_in
do_done a vs ts dropped did scene next h is = rw (h, is) refl

pub do_stops : (a : Around) (vs : List Seen) (ts : Trees) (code : ℕ) (scene next : Scene) → values_in a vs ts scene ≡ failed code next → do_in a vs ts scene ≡ failed code next
unfolding do_in
do_stops a vs ts code scene next h = rw h refl

pub ruleset doing = (do_done, do_stops)

-- ---- each kind of statement

pub inserts : (a : Around) (forced : Option ℤ) (s : InsertStmt) (manner : Manner) (r : Result Done SqlRefusal) (scene last : Scene)
    → manner ≡ manner_of s.ignore (view_sets s.update)
    → EndsAsBy did_of r last (insert_in a forced s.table s.columns (view_supply s.source) manner scene)
    → EndsAsBy did_of r last (perform (world_of a) (frame_of a []) forced (view_insert s) scene)
unfolding insert_in
inserts a forced s manner r scene last is h =
    subst (λ (m : Manner). EndsAsBy did_of r last (Rattle.changed_rows.specs.sql_meaning.Changing.insert_into_table (world_of a) (frame_of a []) forced s.table s.columns (view_supply s.source) m scene)) is h

pub replaces : (a : Around) (forced : Option ℤ) (s : ReplaceStmt) (r : Result Done SqlRefusal) (scene last : Scene)
    → EndsAsBy did_of r last (insert_in a forced s.table s.columns (view_supply s.source) replacing scene)
    → EndsAsBy did_of r last (perform (world_of a) (frame_of a []) forced (view_replace s) scene)
unfolding insert_in
replaces a forced s r scene last h = h

pub updates : (a : Around) (forced : Option ℤ) (s : UpdateStmt) (r : Result Done SqlRefusal) (scene last : Scene)
    → EndsAsBy did_of r last (update_in a s scene) → EndsAsBy did_of r last (perform (world_of a) (frame_of a []) forced (view_update s) scene)
unfolding update_in
updates a forced s r scene last h = h

pub deletes : (a : Around) (forced : Option ℤ) (s : DeleteStmt) (r : Result Done SqlRefusal) (scene last : Scene)
    → EndsAsBy did_of r last (delete_in a s scene) → EndsAsBy did_of r last (perform (world_of a) (frame_of a []) forced (view_delete s) scene)
unfolding delete_in
deletes a forced s r scene last h = h

pub selects : (a : Around) (vs : List Seen) (forced : Option ℤ) (q : Query) (r : Result Done SqlRefusal) (scene last : Scene)
    → vs ≡ [] → EndsAsBy did_of r last (select_in a vs q scene) → EndsAsBy did_of r last (perform (world_of a) (frame_of a []) forced (select q) scene)
unfolding select_in
selects a vs forced q r scene last none h = subst (λ (ws : List Seen). EndsAsBy did_of r last (select_in a ws q scene)) none h

pub does : (a : Around) (vs : List Seen) (forced : Option ℤ) (ts : Trees) (r : Result Done SqlRefusal) (scene last : Scene)
    → vs ≡ [] → EndsAsBy did_of r last (do_in a vs ts scene) → EndsAsBy did_of r last (perform (world_of a) (frame_of a []) forced (evaluate ts) scene)
unfolding do_in
does a vs forced ts r scene last none h = subst (λ (ws : List Seen). EndsAsBy did_of r last (do_in a ws ts scene)) none h

-- what INSERT does where items stand behind ON DUPLICATE KEY UPDATE
pub some_sets : (ignore : Bool) (sets : List ColumnSet) (b : Bool) → (IsTrue b ↔ (sets ≡ [])) → b ≡ false → updating (view_sets sets) ≡ manner_of ignore (view_sets sets)
some_sets ignore [] b h none = let e : b ≡ true = h.1 refl in cc
some_sets ignore (s ∷ ss) b h none = refl
