-- The rows that a change picks, one step at a time.
use Rattle.std.proofs.Common.{◌≡◌, ℕ, List, [], ◌∷◌, Option, Some, true, refl, sym, ap, ◌∙◌, Result, Ok, Err}
use Rattle.std.specs.Prelude.{IfOk, slice_get}
use Rattle.val_types.specs.declared.value.Value.{Value}
use Rattle.val_types.specs.declared.refusal.SqlRefusal.{SqlRefusal}
use Rattle.val_types.specs.declared.refusal.SqlRefusal.TheVariants.{Sql, NoMemory}
use Rattle.val_types.specs.declared.definitions.TableDef.{TableDef}
use Rattle.sql_tree.specs.Tree.{Part, no_part, part, Orders}
use Rattle.sql_tree.specs.declared.expressions.Count.{Count}
use Rattle.changed_rows.specs.sql_meaning.Scenes.{Scene, Ending, Action, done, failed, then_do, pure, needed, kept_by, ◌>>=◌}
use Rattle.changed_rows.specs.sql_meaning.Frames.{sees, limited_to}
use Rattle.changed_rows.specs.sql_meaning.Values.{is_kept, sorted, directions}
use Rattle.table_rules.specs.Tables.{Table}
use Rattle.table_rules.specs.Stores.{place_of, definitions_of}
use Rattle.exec_state.specs.declared.stage.Stage.{Stage}
use Rattle.exec_state.specs.Stage.{EndsAs, scene_of}
use Rattle.changed_rows.specs.sql_evaluation.where_candidates.Candidates.{AreCandidates}
use Rattle.changed_rows.specs.sql_evaluation.where_candidates.where_keys.declared.outside.Outside.{Outside}
use Rattle.changed_rows.specs.sql_evaluation.declared.world.View.{View as Shown}
use Rattle.changed_rows.specs.sql_evaluation.declared.world.Around.{Around}
use Rattle.changed_rows.specs.sql_evaluation.Seen.{where_in, keyed_in, ordered_in, world_of, frame_of, IsOutside}
use Rattle.changed_rows.specs.Changed.{StandsAt}
use Rattle.sql_statements.specs.declared.target.Target.{Target}
use Rattle.sql_statements.specs.Changed.{ArePicked, IsTarget, chosen_in}

kept_all : (rows : List (List Value)) (scene : Scene) → kept_by (λ row. pure true) rows scene ≡ done rows scene
kept_all [] scene = refl
kept_all (row ∷ rows) scene = ap (λ (e : Ending (List (List Value))). then_do e (λ rest. pure (row ∷ rest))) (kept_all rows scene)

where_is : (a : Around) (vs : List Shown) (d : TableDef) (p : Part) (rows : List (List Value)) (scene : Scene)
    → kept_by (λ row. is_kept (world_of a) (sees d row (frame_of a vs)) p) rows scene ≡ where_in a vs d p rows scene
unfolding frame_of
where_is a vs d no_part rows scene = kept_all rows scene
where_is a vs d (part t) rows scene = refl

mapped_done : {A B C : Type 0} (e : Ending A) (f : A → B) (g : B → Action C) (b : B) (next : Scene) → then_do e (λ x. pure (f x)) ≡ done b next → then_do e (λ x. g (f x)) ≡ g b next
mapped_done (done x scene) f g b next h = let same : f x ≡ b = cc in let here : scene ≡ next = cc in rw (same, here) refl
mapped_done (failed code scene) f g b next h = cc

mapped_failed : {A B C : Type 0} (e : Ending A) (f : A → B) (g : B → Action C) (code : _) (next : Scene) → then_do e (λ x. pure (f x)) ≡ failed code next → then_do e (λ x. g (f x)) ≡ failed code next
mapped_failed (done x scene) f g code next h = cc
mapped_failed (failed c scene) f g code next h = let same : c ≡ code = cc in let here : scene ≡ next = cc in rw (same, here) refl

-- WHERE, then ORDER BY, then LIMIT
chosen_is : (a : Around) (vs : List Shown) (d : TableDef) (p : Part) (os : Orders) (limit : Option Count) (rows : List (List Value)) (scene : Scene)
    → chosen_in a vs d p os limit rows scene
    ≡ then_do (where_in a vs d p rows scene) (λ kept. keyed_in a vs d os kept >>= λ keyed. pure (limited_to a.locals.now limit (sorted (directions os) keyed)))
unfolding chosen_in frame_of
chosen_is a vs d p os limit rows scene =
    ap (λ (e : Ending (List (List Value))). then_do e (λ kept. keyed_in a vs d os kept >>= λ keyed. pure (limited_to a.locals.now limit (sorted (directions os) keyed))))
    (where_is a vs d p rows scene)

-- a change picks the same of the rows that a WHERE has to look at as of all
pub picked_same : (a : Around) (o : Outside) (name : List ℕ) (d : TableDef) (p : Part) (stage : Stage) (rows : List (List Value)) → IsOutside a o
    → AreCandidates o name d p stage.tables.tables rows → ArePicked a name d p stage rows
unfolding scene_of
picked_same a o name d p stage rows outside seen = record {
  all = seen.all;
  there = ap (λ (t : Option Table). needed 1146 t (scene_of stage)) seen.there;
  same = λ vs scene. sym (where_is a vs d p seen.all scene) ∙ seen.enough (world_of a) (frame_of a vs) (outside.round vs) scene ∙ where_is a vs d p rows scene;
}

pub chosen_same : (a : Around) (vs : List Shown) (name : List ℕ) (d : TableDef) (p : Part) (os : Orders) (limit : Option Count) (stage : Stage) (rows : List (List Value)) (scene : Scene)
    → (picked : ArePicked a name d p stage rows) → chosen_in a vs d p os limit picked.all scene ≡ chosen_in a vs d p os limit rows scene
chosen_same a vs name d p os limit stage rows scene picked =
    chosen_is a vs d p os limit picked.all scene
    ∙ ap (λ (e : Ending (List (List Value))). then_do e (λ kept. keyed_in a vs d os kept >>= λ keyed. pure (limited_to a.locals.now limit (sorted (directions os) keyed)))) (picked.same vs scene)
    ∙ sym (chosen_is a vs d p os limit rows scene)

pub chosen_done : (a : Around) (vs : List Shown) (d : TableDef) (p : Part) (os : Orders) (limit : Option Count) (rows kept ordered chosen : List (List Value)) (scene s1 s2 : Scene)
    → where_in a vs d p rows scene ≡ done kept s1 → ordered_in a vs d os kept s1 ≡ done ordered s2 → chosen ≡ limited_to a.locals.now limit ordered
    → chosen_in a vs d p os limit rows scene ≡ done chosen s2
chosen_done a vs d p os limit rows kept ordered chosen scene s1 s2 kept_so sorted_so is =
    chosen_is a vs d p os limit rows scene
    ∙ (rw (kept_so, is) (mapped_done (keyed_in a vs d os kept s1) (sorted (directions os)) (λ xs. pure (limited_to a.locals.now limit xs)) ordered s2 sorted_so))

pub chosen_not_kept : (a : Around) (vs : List Shown) (d : TableDef) (p : Part) (os : Orders) (limit : Option Count) (rows : List (List Value)) (e : SqlRefusal) (scene last : Scene)
    → EndsAs {A = List (List Value)} (Err e) last (where_in a vs d p rows scene) → EndsAs {A = List (List Value)} (Err e) last (chosen_in a vs d p os limit rows scene)
chosen_not_kept a vs d p os limit rows NoMemory scene last h = tt
chosen_not_kept a vs d p os limit rows (Sql code) scene last h = chosen_is a vs d p os limit rows scene ∙ (rw h refl)

pub chosen_not_ordered : (a : Around) (vs : List Shown) (d : TableDef) (p : Part) (os : Orders) (limit : Option Count) (rows kept : List (List Value)) (e : SqlRefusal) (scene s1 last : Scene)
    → where_in a vs d p rows scene ≡ done kept s1
    → EndsAs {A = List (List Value)} (Err e) last (ordered_in a vs d os kept s1) → EndsAs {A = List (List Value)} (Err e) last (chosen_in a vs d p os limit rows scene)
chosen_not_ordered a vs d p os limit rows kept NoMemory scene s1 last kept_so h = tt
chosen_not_ordered a vs d p os limit rows kept (Sql code) scene s1 last kept_so h =
    chosen_is a vs d p os limit rows scene
    ∙ (rw kept_so (mapped_failed (keyed_in a vs d os kept s1) (sorted (directions os)) (λ xs. pure (limited_to a.locals.now limit xs)) code last h))

pub ruleset choosing = (chosen_done, chosen_not_kept, chosen_not_ordered)

-- ---- the rows that a WHERE has to look at

pub rows_picked : {E : Type 0} (a : Around) (o : Outside) (target : Target) (name : List ℕ) (p : Part) (stage : Stage) (r : Result (List (List Value)) E) → IsOutside a o → IsTarget target name stage
    → ((name : List ℕ) → place_of name stage.tables.tables ≡ Some target.at → slice_get (definitions_of stage.tables.tables) target.at ≡ Some target.definition
    → IfOk r (λ rows. AreCandidates o name target.definition p stage.tables.tables rows))
    → IfOk r (λ rows. ArePicked a name target.definition p stage rows)
unfolding StandsAt
rows_picked a o target name p stage (Ok rows) outside aimed seen = picked_same a o name target.definition p stage rows outside (seen name aimed.place aimed.stands.there)
rows_picked a o target name p stage (Err e) outside aimed seen = tt

pub ruleset picking = (rows_picked)
