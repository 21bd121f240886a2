-- UPDATE and DELETE, one step at a time.
use Rattle.std.proofs.Common.{◌≡◌, ℕ, ◌+◌, ◌<◌, ◌≤◌, List, [], length, get_or, drop, refl, sym, subst, Err}
use Rattle.val_types.specs.declared.value.Value.{Value}
use Rattle.val_types.specs.declared.refusal.SqlRefusal.{SqlRefusal}
use Rattle.val_types.specs.declared.refusal.SqlRefusal.TheVariants.{Sql, NoMemory}
use Rattle.val_types.specs.declared.definitions.TableDef.{TableDef}
use Rattle.table_rules.specs.Tables.{Table}
use Rattle.sql_tree.specs.Tree.{Tree}
use Rattle.sql_tree.specs.View.{view_orders, view_part}
use Rattle.sql_tree.specs.StatementView.{view_sets}
use Rattle.sql_tree.specs.declared.statements.UpdateStmt.{UpdateStmt}
use Rattle.sql_tree.specs.declared.statements.DeleteStmt.{DeleteStmt}
use Rattle.changed_rows.specs.sql_meaning.Scenes.{Scene, Ending, Action, done, failed, then_do, pure, each, table_now}
use Rattle.changed_rows.specs.sql_meaning.Changing.{Did, affected_rows}
use Rattle.exec_state.specs.Stage.{EndsAs, EndsAsBy}
use Rattle.changed_rows.specs.sql_evaluation.declared.world.Around.{Around}
use Rattle.changed_rows.specs.sql_evaluation.declared.world.View.{View as Shown}
use Rattle.changed_rows.specs.Changed.{updated_in, deleted_in}
use Rattle.sql_statements.specs.declared.did.Did.{Did as Done}
use Rattle.sql_statements.specs.Did.{did_of}
use Rattle.sql_statements.specs.Changed.{chosen_in, updates_in, update_in, deletes_in, delete_in}
use Rattle.sql_statements.proofs.Looping.{count_left, count_starts, count_more, count_fails, count_ends, each_left, each_on, each_stops, each_is_done}

-- ---- rows updated one after the other

-- what the rest counts, behind what the first ones did
unfoldable pub updates_left : Around → TableDef → List (List ℕ × Tree) → List (List Value) → ℕ → Scene → Ending ℕ
updates_left a d sets rows n scene = count_left (updated_in a d sets) rows n scene

pub updates_start : (a : Around) (d : TableDef) (sets : List (List ℕ × Tree)) (rows : List (List Value)) (scene : Scene) → updates_left a d sets rows 0 scene ≡ updates_in a d sets rows scene
unfolding updates_left updates_in
updates_start a d sets rows scene = count_starts (updated_in a d sets) rows scene

pub updates_more : (a : Around) (d : TableDef) (sets : List (List ℕ × Tree)) (rows : List (List Value)) (i : ℕ) (row : List Value) (n k : ℕ) (scene next : Scene) (o : Ending ℕ)
    → i < length rows → row ≡ get_or rows i row → updated_in a d sets row scene ≡ done k next
    → updates_left a d sets (drop i rows) n scene ≡ o → updates_left a d sets (drop (i + 1) rows) (n + k) next ≡ o
unfolding updates_left
updates_more a d sets rows i row n k scene next o within is h before = count_more (updated_in a d sets) rows i row n k scene next o within is h before

pub updates_fail : (a : Around) (d : TableDef) (sets : List (List ℕ × Tree)) (rows : List (List Value)) (i : ℕ) (row : List Value) (n code : ℕ) (scene next : Scene) (o : Ending ℕ)
    → i < length rows → row ≡ get_or rows i row → updated_in a d sets row scene ≡ failed code next
    → updates_left a d sets (drop i rows) n scene ≡ o → o ≡ failed code next
unfolding updates_left
updates_fail a d sets rows i row n code scene next o within is h before = count_fails (updated_in a d sets) rows i row n code scene next o within is h before

pub updates_end : (a : Around) (d : TableDef) (sets : List (List ℕ × Tree)) (rows : List (List Value)) (i n : ℕ) (scene : Scene) (o : Ending ℕ)
    → length rows ≤ i → updates_left a d sets (drop i rows) n scene ≡ o → o ≡ done n scene
unfolding updates_left
updates_end a d sets rows i n scene o past before = count_ends (updated_in a d sets) rows i n scene o past before

pub ruleset updating = (updates_start, updates_more, updates_fail, updates_end)

-- ---- UPDATE

-- the rows that UPDATE picks
abbrev picked : Around → List Shown → UpdateStmt → Table → Action (List (List Value))
picked a vs u table = chosen_in a vs table.definition (view_part u.filter) (view_orders u.order) u.limit table.rows

pub update_done : (a : Around) (vs : List Shown) (u : UpdateStmt) (table : Table) (chosen rows : List (List Value)) (n : ℕ) (did : Did) (scene s1 s2 s3 : Scene)
    → table_now u.table scene ≡ done table s1 → vs ≡ [] → picked a vs u table s1 ≡ done chosen s2 → rows ≡ chosen
    → updates_in a table.definition (view_sets u.sets) rows s2 ≡ done n s3 → did ≡ affected_rows n
    → update_in a u scene ≡ done did s3
unfolding update_in chosen_in updates_in
update_done a vs u table chosen rows n did scene s1 s2 s3 found none chose same updated is =
    let chose_so : picked a [] u table s1 ≡ done chosen s2 = subst (λ (ws : List Shown). picked a ws u table s1 ≡ done chosen s2) none chose in
    let updated_so : updates_in a table.definition (view_sets u.sets) chosen s2 ≡ done n s3 = subst (λ (rs : List (List Value)). updates_in a table.definition (view_sets u.sets) rs s2 ≡ done n s3) same updated in
    rw (found, chose_so, updated_so, is) refl

pub update_no_table : (a : Around) (u : UpdateStmt) (code : ℕ) (scene : Scene) → table_now u.table scene ≡ failed code scene → update_in a u scene ≡ failed code scene
unfolding update_in
update_no_table a u code scene h = rw h refl

pub update_not_chosen : (a : Around) (vs : List Shown) (u : UpdateStmt) (table : Table) (e : SqlRefusal) (scene s1 last : Scene)
    → table_now u.table scene ≡ done table s1 → vs ≡ []
    → EndsAs {A = List (List Value)} (Err e) last (picked a vs u table s1)
    → EndsAsBy {A = Done} {B = Did} did_of (Err e) last (update_in a u scene)
unfolding update_in chosen_in
update_not_chosen a vs u table NoMemory scene s1 last found none h = tt
update_not_chosen a vs u table (Sql code) scene s1 last found none h =
    let stopped : picked a [] u table s1 ≡ failed code last = subst (λ (ws : List Shown). picked a ws u table s1 ≡ failed code last) none h in rw (found, stopped) refl

-- of rows of which it picks the same
pub update_not_chosen_of : (a : Around) (vs : List Shown) (u : UpdateStmt) (table : Table) (rows : List (List Value)) (e : SqlRefusal) (scene s1 last : Scene)
    → table_now u.table scene ≡ done table s1 → vs ≡ [] → picked a vs u table s1 ≡ picked a vs u (record table { rows = rows }) s1
    → EndsAs {A = List (List Value)} (Err e) last (picked a vs u (record table { rows = rows }) s1)
    → EndsAsBy {A = Done} {B = Did} did_of (Err e) last (update_in a u scene)
update_not_chosen_of a vs u table rows e scene s1 last found none same h =
    update_not_chosen a vs u table e scene s1 last found none (subst (λ (m : Ending (List (List Value))). EndsAs {A = List (List Value)} (Err e) last m) (sym same) h)

pub update_not_all : (a : Around) (vs : List Shown) (u : UpdateStmt) (table : Table) (chosen rows : List (List Value)) (e : SqlRefusal) (scene s1 s2 last : Scene)
    → table_now u.table scene ≡ done table s1 → vs ≡ [] → picked a vs u table s1 ≡ done chosen s2 → rows ≡ chosen
    → EndsAs {A = ℕ} (Err e) last (updates_in a table.definition (view_sets u.sets) rows s2)
    → EndsAsBy {A = Done} {B = Did} did_of (Err e) last (update_in a u scene)
unfolding update_in chosen_in updates_in
update_not_all a vs u table chosen rows NoMemory scene s1 s2 last found none chose same h = tt
update_not_all a vs u table chosen rows (Sql code) scene s1 s2 last found none chose same h =
    let chose_so : picked a [] u table s1 ≡ done chosen s2 = subst (λ (ws : List Shown). picked a ws u table s1 ≡ done chosen s2) none chose in
    let stopped : updates_in a table.definition (view_sets u.sets) chosen s2 ≡ failed code last = subst (λ (rs : List (List Value)). updates_in a table.definition (view_sets u.sets) rs s2 ≡ failed code last) same h in
    rw (found, chose_so, stopped) refl

pub ruleset update = (update_no_table)

-- ---- rows deleted one after the other

-- what deleting the rest counts, with those before
unfoldable pub deletes_left : Around → TableDef → List (List Value) → ℕ → Scene → Ending ℕ
deletes_left a d rows n scene = each_left (deleted_in a d) rows n scene

pub deletes_start : (a : Around) (d : TableDef) (rows : List (List Value)) (scene : Scene) → deletes_left a d rows (length rows) scene ≡ deletes_in a d rows scene
unfolding deletes_left deletes_in
deletes_start a d rows scene = refl

pub deletes_more : (a : Around) (d : TableDef) (rows : List (List Value)) (i : ℕ) (row : List Value) (n : ℕ) (scene next : Scene) (o : Ending ℕ)
    → i < length rows → row ≡ get_or rows i row → deleted_in a d row scene ≡ done tt next
    → deletes_left a d (drop i rows) n scene ≡ o → deletes_left a d (drop (i + 1) rows) n next ≡ o
unfolding deletes_left
deletes_more a d rows i row n scene next o within is h before = each_on (deleted_in a d) rows i row tt n scene next o within is h before

pub deletes_fail : (a : Around) (d : TableDef) (rows : List (List Value)) (i : ℕ) (row : List Value) (n code : ℕ) (scene next : Scene) (o : Ending ℕ)
    → i < length rows → row ≡ get_or rows i row → deleted_in a d row scene ≡ failed code next
    → deletes_left a d (drop i rows) n scene ≡ o → o ≡ failed code next
unfolding deletes_left
deletes_fail a d rows i row n code scene next o within is h before = each_stops (deleted_in a d) rows i row n code scene next o within is h before

pub deletes_end : (a : Around) (d : TableDef) (rows : List (List Value)) (i n : ℕ) (scene : Scene) (o : Ending ℕ)
    → length rows ≤ i → deletes_left a d (drop i rows) n scene ≡ o → o ≡ done n scene
unfolding deletes_left
deletes_end a d rows i n scene o past before = each_is_done (deleted_in a d) rows i n scene o past before

pub ruleset deleting_rows = (deletes_start, deletes_more, deletes_fail, deletes_end)

-- ---- DELETE

abbrev taken : Around → List Shown → DeleteStmt → Table → Action (List (List Value))
taken a vs u table = chosen_in a vs table.definition (view_part u.filter) (view_orders u.order) u.limit table.rows

counted_so : (e : Ending (List (Unit {0}))) (n m : ℕ) (last : Scene) → then_do e (λ bs. pure n) ≡ done m last → then_do e (λ bs. pure (affected_rows n)) ≡ done (affected_rows m) last
counted_so (done bs scene) n m last h = let same : n ≡ m = cc in let here : scene ≡ last = cc in rw (same, here) refl
counted_so (failed code scene) n m last h = cc

stopped_so : (e : Ending (List (Unit {0}))) (n code : ℕ) (last : Scene) → then_do e (λ bs. pure n) ≡ failed code last → then_do e (λ bs. pure (affected_rows n)) ≡ failed code last
stopped_so (done bs scene) n code last h = cc
stopped_so (failed c scene) n code last h = let same : c ≡ code = cc in let here : scene ≡ last = cc in rw (same, here) refl

pub delete_done : (a : Around) (vs : List Shown) (u : DeleteStmt) (table : Table) (chosen rows : List (List Value)) (n : ℕ) (did : Did) (scene s1 s2 s3 : Scene)
    → table_now u.table scene ≡ done table s1 → vs ≡ [] → taken a vs u table s1 ≡ done chosen s2 → rows ≡ chosen
    → deletes_in a table.definition rows s2 ≡ done n s3 → did ≡ affected_rows n
    → delete_in a u scene ≡ done did s3
unfolding delete_in chosen_in deletes_in
delete_done a vs u table chosen rows n did scene s1 s2 s3 found none chose same deleted is =
    let chose_so : taken a [] u table s1 ≡ done chosen s2 = subst (λ (ws : List Shown). taken a ws u table s1 ≡ done chosen s2) none chose in
    let deleted_so : deletes_in a table.definition chosen s2 ≡ done n s3 = subst (λ (rs : List (List Value)). deletes_in a table.definition rs s2 ≡ done n s3) same deleted in
    rw (found, chose_so, is) (counted_so (each (deleted_in a table.definition) chosen s2) (length chosen) n s3 deleted_so)

pub delete_no_table : (a : Around) (u : DeleteStmt) (code : ℕ) (scene : Scene) → table_now u.table scene ≡ failed code scene → delete_in a u scene ≡ failed code scene
unfolding delete_in
delete_no_table a u code scene h = rw h refl

pub delete_not_chosen : (a : Around) (vs : List Shown) (u : DeleteStmt) (table : Table) (e : SqlRefusal) (scene s1 last : Scene)
    → table_now u.table scene ≡ done table s1 → vs ≡ []
    → EndsAs {A = List (List Value)} (Err e) last (taken a vs u table s1)
    → EndsAsBy {A = Done} {B = Did} did_of (Err e) last (delete_in a u scene)
unfolding delete_in chosen_in
delete_not_chosen a vs u table NoMemory scene s1 last found none h = tt
delete_not_chosen a vs u table (Sql code) scene s1 last found none h =
    let stopped : taken a [] u table s1 ≡ failed code last = subst (λ (ws : List Shown). taken a ws u table s1 ≡ failed code last) none h in rw (found, stopped) refl

-- of rows of which it picks the same
pub delete_not_chosen_of : (a : Around) (vs : List Shown) (u : DeleteStmt) (table : Table) (rows : List (List Value)) (e : SqlRefusal) (scene s1 last : Scene)
    → table_now u.table scene ≡ done table s1 → vs ≡ [] → taken a vs u table s1 ≡ taken a vs u (record table { rows = rows }) s1
    → EndsAs {A = List (List Value)} (Err e) last (taken a vs u (record table { rows = rows }) s1)
    → EndsAsBy {A = Done} {B = Did} did_of (Err e) last (delete_in a u scene)
delete_not_chosen_of a vs u table rows e scene s1 last found none same h =
    delete_not_chosen a vs u table e scene s1 last found none (subst (λ (m : Ending (List (List Value))). EndsAs {A = List (List Value)} (Err e) last m) (sym same) h)

pub delete_not_all : (a : Around) (vs : List Shown) (u : DeleteStmt) (table : Table) (chosen rows : List (List Value)) (e : SqlRefusal) (scene s1 s2 last : Scene)
    → table_now u.table scene ≡ done table s1 → vs ≡ [] → taken a vs u table s1 ≡ done chosen s2 → rows ≡ chosen
    → EndsAs {A = ℕ} (Err e) last (deletes_in a table.definition rows s2)
    → EndsAsBy {A = Done} {B = Did} did_of (Err e) last (delete_in a u scene)
unfolding delete_in chosen_in deletes_in
delete_not_all a vs u table chosen rows NoMemory scene s1 s2 last found none chose same h = tt
delete_not_all a vs u table chosen rows (Sql code) scene s1 s2 last found none chose same h =
    let chose_so : taken a [] u table s1 ≡ done chosen s2 = subst (λ (ws : List Shown). taken a ws u table s1 ≡ done chosen s2) none chose in
    let stopped : deletes_in a table.definition chosen s2 ≡ failed code last = subst (λ (rs : List (List Value)). deletes_in a table.definition rs s2 ≡ failed code last) same h in
    rw (found, chose_so) (stopped_so (each (deleted_in a table.definition) chosen s2) (length chosen) code last stopped)

pub ruleset delete = (delete_no_table)
