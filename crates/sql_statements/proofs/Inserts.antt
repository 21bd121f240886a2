-- INSERT and REPLACE, one step at a time.
use Rattle.std.proofs.Common.{◌≡◌, ℕ, ℤ, ◌+◌, ◌<◌, ◌≤◌, List, [], length, get_or, drop, Option, refl, sym, ap, ◌∙◌, subst, Result, Err}
use Rattle.val_types.specs.declared.value.Value.{Value}
use Rattle.val_types.specs.declared.refusal.SqlRefusal.{SqlRefusal}
use Rattle.val_types.specs.declared.refusal.SqlRefusal.TheVariants.{Sql, NoMemory}
use Rattle.val_types.specs.declared.definitions.TableDef.{TableDef}
use Rattle.table_rules.specs.Tables.{Table}
use Rattle.changed_rows.specs.catalog_rules.Checks.{given_columns}
use Rattle.changed_rows.specs.catalog_rules.Defined.{places_of}
use Rattle.changed_rows.specs.catalog_rules.Objects.{columns_of}
use Rattle.sql_tree.specs.Tree.{Trees, Query}
use Rattle.sql_tree.specs.Statement.{Supply, rows, rows_of}
use Rattle.sql_tree.specs.View.{view_trees}
use Rattle.sql_tree.specs.StatementView.{view_rows}
use Rattle.sql_tree.specs.declared.expressions.Expr.{Expr}
use Rattle.std.proofs.lemmas.List.{drop_all}
use Rattle.changed_rows.specs.sql_meaning.Scenes.{Scene, Ending, Action, done, failed, then_do, pure, carried_on, table_now, ◌>>=◌}
use Rattle.changed_rows.specs.sql_meaning.Changing.{Did, Inserting, Manner, did_insert, nothing_inserted}
use Rattle.exec_state.specs.Stage.{EndsAs, EndsAsBy}
use Rattle.changed_rows.specs.sql_evaluation.declared.world.Around.{Around}
use Rattle.changed_rows.specs.sql_evaluation.declared.world.View.{View as Shown}
use Rattle.changed_rows.specs.sql_evaluation.Seen.{values_in}
use Rattle.changed_rows.specs.sql_evaluation.Seen.{rows_in as query_in}
use Rattle.changed_rows.proofs.of_sql_evaluation.Branching.{rest_is}
use Rattle.changed_rows.specs.Changed.{inserted_in, inserting_of}
use Rattle.changed_rows.specs.declared.inserting.Inserting.{Inserting as SoFar}
use Rattle.sql_statements.specs.declared.did.Did.{Did as Done}
use Rattle.sql_statements.specs.Did.{did_of}
use Rattle.sql_statements.specs.Changed.{lists_in, rows_in, supply_in, insert_in}
use Rattle.sql_statements.proofs.Looping.{carried_more, carried_fails, carried_ends}

-- ---- the lists of VALUES

-- one list: its values, and the row of them
abbrev list_put : Around → Option ℤ → TableDef → List ℕ → Manner → Inserting → Trees → Action Inserting
list_put a forced d places manner so_far ts = values_in a [] ts >>= inserted_in a forced d places manner so_far

first_list : (a : Around) (forced : Option ℤ) (d : TableDef) (places : List ℕ) (manner : Manner) (so_far : Inserting) (lists : List (List Expr)) (i : ℕ) (list : List Expr) (scene : Scene)
    → i < length lists → list ≡ get_or lists i list
    → lists_in a forced d places manner so_far (view_rows (drop i lists)) scene
    ≡ then_do (list_put a forced d places manner so_far (view_trees list) scene) (λ next. lists_in a forced d places manner next (view_rows (drop (i + 1) lists)))
unfolding lists_in
first_list a forced d places manner so_far lists i list scene within is =
    ap (λ (ls : List (List Expr)). carried_on (list_put a forced d places manner) so_far (view_rows ls) scene) (rest_is lists i list within is)

pub lists_more : (a : Around) (vs : List Shown) (forced : Option ℤ) (d : TableDef) (places : List ℕ) (manner : Manner) (so_far next : Inserting) (lists : List (List Expr)) (i : ℕ) (list : List Expr) (row : List Value) (scene s1 s2 : Scene) (o : Ending Inserting)
    → i < length lists → list ≡ get_or lists i list → vs ≡ [] → values_in a vs (view_trees list) scene ≡ done row s1
    → inserted_in a forced d places manner so_far row s1 ≡ done next s2
    → lists_in a forced d places manner so_far (view_rows (drop i lists)) scene ≡ o → lists_in a forced d places manner next (view_rows (drop (i + 1) lists)) s2 ≡ o
lists_more a vs forced d places manner so_far next lists i list row scene s1 s2 o within is none evaluated put before =
    let evaluated_so : values_in a [] (view_trees list) scene ≡ done row s1 = subst (λ (ws : List Shown). values_in a ws (view_trees list) scene ≡ done row s1) none evaluated in
    sym (first_list a forced d places manner so_far lists i list scene within is ∙ (rw (evaluated_so, put) refl)) ∙ before

pub lists_not_evaluated : (a : Around) (vs : List Shown) (forced : Option ℤ) (d : TableDef) (places : List ℕ) (manner : Manner) (so_far : Inserting) (lists : List (List Expr)) (i : ℕ) (list : List Expr) (code : ℕ) (scene s1 : Scene) (o : Ending Inserting)
    → i < length lists → list ≡ get_or lists i list → vs ≡ [] → values_in a vs (view_trees list) scene ≡ failed code s1
    → lists_in a forced d places manner so_far (view_rows (drop i lists)) scene ≡ o → o ≡ failed code s1
lists_not_evaluated a vs forced d places manner so_far lists i list code scene s1 o within is none evaluated before =
    let evaluated_so : values_in a [] (view_trees list) scene ≡ failed code s1 = subst (λ (ws : List Shown). values_in a ws (view_trees list) scene ≡ failed code s1) none evaluated in
    sym before ∙ first_list a forced d places manner so_far lists i list scene within is ∙ (rw evaluated_so refl)

pub lists_not_put : (a : Around) (vs : List Shown) (forced : Option ℤ) (d : TableDef) (places : List ℕ) (manner : Manner) (so_far : Inserting) (lists : List (List Expr)) (i : ℕ) (list : List Expr) (row : List Value) (code : ℕ) (scene s1 s2 : Scene) (o : Ending Inserting)
    → i < length lists → list ≡ get_or lists i list → vs ≡ [] → values_in a vs (view_trees list) scene ≡ done row s1
    → inserted_in a forced d places manner so_far row s1 ≡ failed code s2
    → lists_in a forced d places manner so_far (view_rows (drop i lists)) scene ≡ o → o ≡ failed code s2
lists_not_put a vs forced d places manner so_far lists i list row code scene s1 s2 o within is none evaluated put before =
    let evaluated_so : values_in a [] (view_trees list) scene ≡ done row s1 = subst (λ (ws : List Shown). values_in a ws (view_trees list) scene ≡ done row s1) none evaluated in
    sym before ∙ first_list a forced d places manner so_far lists i list scene within is ∙ (rw (evaluated_so, put) refl)

pub lists_end : (a : Around) (forced : Option ℤ) (d : TableDef) (places : List ℕ) (manner : Manner) (so_far : Inserting) (lists : List (List Expr)) (i : ℕ) (scene : Scene) (o : Ending Inserting)
    → length lists ≤ i → lists_in a forced d places manner so_far (view_rows (drop i lists)) scene ≡ o → o ≡ done so_far scene
unfolding lists_in
lists_end a forced d places manner so_far lists i scene o past before =
    sym before ∙ ap (λ (ls : List (List Expr)). carried_on (list_put a forced d places manner) so_far (view_rows ls) scene) (drop_all i lists past)

pub ruleset listing = (lists_more, lists_not_evaluated, lists_not_put, lists_end)

-- ---- rows that were read before

pub rows_more : (a : Around) (forced : Option ℤ) (d : TableDef) (places : List ℕ) (manner : Manner) (so_far next : Inserting) (rs : List (List Value)) (i : ℕ) (row : List Value) (scene s1 : Scene) (o : Ending Inserting)
    → i < length rs → row ≡ get_or rs i row → inserted_in a forced d places manner so_far row scene ≡ done next s1
    → rows_in a forced d places manner so_far (drop i rs) scene ≡ o → rows_in a forced d places manner next (drop (i + 1) rs) s1 ≡ o
unfolding rows_in
rows_more a forced d places manner so_far next rs i row scene s1 o within is put before =
    carried_more (inserted_in a forced d places manner) so_far next rs i row scene s1 o within is put before

pub rows_not_put : (a : Around) (forced : Option ℤ) (d : TableDef) (places : List ℕ) (manner : Manner) (so_far : Inserting) (rs : List (List Value)) (i : ℕ) (row : List Value) (code : ℕ) (scene s1 : Scene) (o : Ending Inserting)
    → i < length rs → row ≡ get_or rs i row → inserted_in a forced d places manner so_far row scene ≡ failed code s1
    → rows_in a forced d places manner so_far (drop i rs) scene ≡ o → o ≡ failed code s1
unfolding rows_in
rows_not_put a forced d places manner so_far rs i row code scene s1 o within is put before =
    carried_fails (inserted_in a forced d places manner) so_far rs i row code scene s1 o within is put before

pub rows_end : (a : Around) (forced : Option ℤ) (d : TableDef) (places : List ℕ) (manner : Manner) (so_far : Inserting) (rs : List (List Value)) (i : ℕ) (scene : Scene) (o : Ending Inserting)
    → length rs ≤ i → rows_in a forced d places manner so_far (drop i rs) scene ≡ o → o ≡ done so_far scene
unfolding rows_in
rows_end a forced d places manner so_far rs i scene o past before = carried_ends (inserted_in a forced d places manner) so_far rs i scene o past before

pub ruleset reading = (rows_more, rows_not_put, rows_end)

-- ---- VALUES or a SELECT

pub supply_lists : (a : Around) (forced : Option ℤ) (d : TableDef) (places : List ℕ) (manner : Manner) (lists : List (List Expr)) (r : Result SoFar SqlRefusal) (scene last : Scene)
    → EndsAsBy inserting_of r last (lists_in a forced d places manner nothing_inserted (view_rows lists) scene)
    → EndsAsBy inserting_of r last (supply_in a forced d places manner (rows (view_rows lists)) scene)
unfolding supply_in lists_in
supply_lists a forced d places manner lists r scene last h = h

read_first : (a : Around) (vs : List Shown) (forced : Option ℤ) (d : TableDef) (places : List ℕ) (manner : Manner) (q : Query) (read : List (List Value)) (scene s1 : Scene)
    → vs ≡ [] → query_in a vs q scene ≡ done read s1
    → supply_in a forced d places manner (rows_of q) scene ≡ rows_in a forced d places manner nothing_inserted read s1
unfolding supply_in rows_in
read_first a vs forced d places manner q read scene s1 none h =
    let read_so : query_in a [] q scene ≡ done read s1 = subst (λ (ws : List Shown). query_in a ws q scene ≡ done read s1) none h in rw read_so refl

pub supply_rows : (a : Around) (vs : List Shown) (forced : Option ℤ) (d : TableDef) (places : List ℕ) (manner : Manner) (q : Query) (read rs : List (List Value)) (r : Result SoFar SqlRefusal) (scene s1 last : Scene)
    → vs ≡ [] → query_in a vs q scene ≡ done read s1 → rs ≡ read
    → EndsAsBy inserting_of r last (rows_in a forced d places manner nothing_inserted rs s1)
    → EndsAsBy inserting_of r last (supply_in a forced d places manner (rows_of q) scene)
supply_rows a vs forced d places manner q read rs r scene s1 last none h same put =
    subst (λ (e : Ending Inserting). EndsAsBy inserting_of r last e) (sym (read_first a vs forced d places manner q read scene s1 none h))
    (subst (λ (xs : List (List Value)). EndsAsBy inserting_of r last (rows_in a forced d places manner nothing_inserted xs s1)) same put)

pub supply_not_read : (a : Around) (vs : List Shown) (forced : Option ℤ) (d : TableDef) (places : List ℕ) (manner : Manner) (q : Query) (e : SqlRefusal) (scene last : Scene)
    → vs ≡ [] → EndsAs {A = List (List Value)} (Err e) last (query_in a vs q scene)
    → EndsAsBy {A = SoFar} {B = Inserting} inserting_of (Err e) last (supply_in a forced d places manner (rows_of q) scene)
unfolding supply_in
supply_not_read a vs forced d places manner q NoMemory scene last none h = tt
supply_not_read a vs forced d places manner q (Sql code) scene last none h =
    let stopped : query_in a [] q scene ≡ failed code last = subst (λ (ws : List Shown). query_in a ws q scene ≡ failed code last) none h in rw stopped refl

pub ruleset supplying = (supply_lists)

-- ---- INSERT and REPLACE

-- the rows of a table put where it stands
insert_is : (a : Around) (forced : Option ℤ) (t : List ℕ) (names : Option (List (List ℕ))) (supply : Supply) (manner : Manner) (table : Table) (places : List ℕ) (scene s1 : Scene)
    → table_now t scene ≡ done table s1 → places ≡ places_of (columns_of table.definition) (given_columns table.definition names)
    → insert_in a forced t names supply manner scene ≡ then_do (supply_in a forced table.definition places manner supply s1) (λ so_far. pure (did_insert so_far))
unfolding insert_in supply_in
insert_is a forced t names supply manner table places scene s1 found given = rw (found, given) refl

pub insert_done : (a : Around) (forced : Option ℤ) (t : List ℕ) (names : Option (List (List ℕ))) (supply : Supply) (manner : Manner) (table : Table) (places given : List ℕ) (so_far : Inserting) (did : Did) (scene s1 s2 : Scene)
    → table_now t scene ≡ done table s1 → given ≡ places_of (columns_of table.definition) (given_columns table.definition names) → places ≡ given
    → supply_in a forced table.definition places manner supply s1 ≡ done so_far s2 → did ≡ did_insert so_far
    → insert_in a forced t names supply manner scene ≡ done did s2
insert_done a forced t names supply manner table places given so_far did scene s1 s2 found is same put came =
    insert_is a forced t names supply manner table places scene s1 found (same ∙ is) ∙ (rw (put, came) refl)

pub insert_no_table : (a : Around) (forced : Option ℤ) (t : List ℕ) (names : Option (List (List ℕ))) (supply : Supply) (manner : Manner) (code : ℕ) (scene : Scene)
    → table_now t scene ≡ failed code scene → insert_in a forced t names supply manner scene ≡ failed code scene
unfolding insert_in
insert_no_table a forced t names supply manner code scene h = rw h refl

pub insert_not_all : (a : Around) (forced : Option ℤ) (t : List ℕ) (names : Option (List (List ℕ))) (supply : Supply) (manner : Manner) (table : Table) (places given : List ℕ) (e : SqlRefusal) (scene s1 last : Scene)
    → table_now t scene ≡ done table s1 → given ≡ places_of (columns_of table.definition) (given_columns table.definition names) → places ≡ given
    → EndsAsBy {A = SoFar} {B = Inserting} inserting_of (Err e) last (supply_in a forced table.definition places manner supply s1)
    → EndsAsBy {A = Done} {B = Did} did_of (Err e) last (insert_in a forced t names supply manner scene)
insert_not_all a forced t names supply manner table places given NoMemory scene s1 last found is same h = tt
insert_not_all a forced t names supply manner table places given (Sql code) scene s1 last found is same h =
    insert_is a forced t names supply manner table places scene s1 found (same ∙ is) ∙ (rw h refl)

pub ruleset insert = (insert_no_table)
