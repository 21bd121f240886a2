-- The only row that ORDER BY and LIMIT 1 leave of a whole table.
use Rattle.std.proofs.Common.{◌≡◌, ℕ, List, [], ◌∷◌, ◌++◌, Bool, true, false, cond, Option, Some, None, Result, Ok, length, reverse, take, IsTrue, ◌↔◌, refl, sym, ap, subst, ◌∙◌}
use Rattle.std.specs.Prelude.{◌-◌, slice_get, option_to_list}
use Rattle.std.proofs.lemmas.List.{reverse-append}
use Rattle.val_types.specs.declared.value.Value.{Value}
use Rattle.val_types.specs.declared.definitions.TableDef.{TableDef}
use Rattle.table_rules.specs.Tables.{Table, IsKept}
use Rattle.table_rules.specs.Stored.{table_named, rows_of}
use Rattle.table_rules.specs.Stores.{Store, IsWhole, place_of, definitions_of}
use Rattle.table_rules.proofs.Storing.{named_kept}
use Rattle.sql_tree.specs.Tree.{query, Selected, Origin, from_table, no_part, Orders}
use Rattle.sql_tree.specs.View.{view_from, view_orders, view_part}
use Rattle.sql_tree.specs.declared.expressions.Expr.{Expr}
use Rattle.sql_tree.specs.declared.expressions.Limit.{Limit}
use Rattle.sql_tree.specs.declared.expressions.OrderItem.{OrderItem}
use Rattle.sql_tree.specs.declared.expressions.FromClause.{FromClause, out-FromClause}
use Rattle.where_candidates.specs.session_ctx.sql_meaning.Scenes.{Scene, Ending, Action, done, failed, then_do, pure, each, ◌>>=◌}
use Rattle.where_candidates.specs.session_ctx.sql_meaning.Frames.{World, Frame, sees, limited}
use Rattle.where_candidates.specs.session_ctx.sql_meaning.Values.{order_values, sorted, directions, shown_rows, rows_of_query}
use Rattle.where_candidates.specs.declared.seeing.SeenTable.{SeenTable}
use Rattle.where_candidates.specs.where_keys.declared.outside.Outside.{Outside}
use Rattle.where_candidates.specs.where_keys.Sides.{IsRound}
use Rattle.key_order.specs.Given.{LeavesOne, IsWay, IsEdge}
use Rattle.key_order.proofs.AtEnds.{one_less}
use Rattle.key_order.proofs.Answered.{all_kept, all_alone, nothing_sorts, named_there}
use Rattle.key_order.proofs.Whole.{from_of_out}

-- ---- the first and the last

pub first_taken : (rows : List (List Value)) → take 1 rows ≡ option_to_list (slice_get rows 0)
first_taken [] = refl
first_taken (row ∷ rows) = refl

last_row : List Value → List (List Value) → List Value
last_row row [] = row
last_row row (next ∷ rows) = last_row next rows

take_front : (xs ys : List (List Value)) (a : List Value) → take 1 xs ≡ a ∷ [] → take 1 (xs ++ ys) ≡ a ∷ []
take_front [] ys a e = cc
take_front (x ∷ xs) ys a e = e

turned_first : (row : List Value) (rows : List (List Value)) → take 1 (reverse (row ∷ rows)) ≡ last_row row rows ∷ []
unfolding last_row
turned_first row [] = refl
turned_first row (next ∷ rows) =
    ap (take 1) (reverse-append (row ∷ []) (next ∷ rows)) ∙ take_front (reverse (next ∷ rows)) (row ∷ []) (last_row next rows) (turned_first next rows)

last_there : (row : List Value) (rows : List (List Value)) → slice_get (row ∷ rows) (length rows) ≡ Some (last_row row rows)
unfolding last_row
last_there row [] = refl
last_there row (next ∷ rows) = last_there next rows

pub last_taken : (rows : List (List Value)) → take 1 (reverse rows) ≡ option_to_list (slice_get rows (length rows - 1))
last_taken [] = refl
last_taken (row ∷ rows) =
    turned_first row rows
    ∙ sym (ap (λ (i : ℕ). option_to_list (slice_get (row ∷ rows) i)) (one_less (length rows)) ∙ ap (λ (r : Option (List Value)). option_to_list r) (last_there row rows))

pub ruleset taken = (first_taken, last_taken)

-- ---- behind LIMIT

mapped : {A B C : Type 0} (e : Ending A) (f : A → B) (g : B → Action C) (b : B) (scene : Scene) → then_do e (λ x. pure (f x)) ≡ done b scene → then_do e (λ x. g (f x)) ≡ g b scene
mapped (done x last) f g b scene h = let same : f x ≡ b = cc in let here : last ≡ scene = cc in rw (same, here) refl
mapped (failed code last) f g b scene h = cc

edge_shows : (o : Outside) (w : World) (f : Frame) (name : List ℕ) (t : Table) (os : Orders) (limit : Option Limit) (down : Bool) (what : Selected) (scene : Scene)
    → IsRound o w f → table_named name scene.tables ≡ Some t → IsKept t → IsWay o t.definition os (Some down) → LeavesOne limit
    → rows_of_query w f (query what (from_table name no_part os limit)) scene ≡ shown_rows w f t.definition what (take 1 (cond down (reverse t.rows) t.rows)) scene
edge_shows o w f name t os limit down what scene round there kept way one =
    rw (there, all_kept t.rows scene) (mapped (each (λ row. order_values w (sees t.definition row f) os >>= λ by. pure (by, row)) t.rows scene)
    (sorted (directions os)) (λ xs. shown_rows w f t.definition what (limited f.locals limit xs)) (cond down (reverse t.rows) t.rows) scene
    (way t.rows w f scene round kept.fit kept.rising)
    ∙ ap (λ (rows : List (List Value)). shown_rows w f t.definition what rows scene) (one f.locals (cond down (reverse t.rows) t.rows)))

-- ---- ORDER BY

pub nothing_turns : (o : Outside) (d : TableDef) (os : List OrderItem) (b : Bool) → (IsTrue b ↔ (os ≡ [])) → b ≡ true → IsWay o d (view_orders os) (Some false)
nothing_turns o d [] b h e rows w f scene round fit rising =
    ap (λ (e : Ending (List (List Value × List Value))). then_do e (λ keyed. pure (sorted [] keyed))) (all_alone rows scene)
    ∙ ap (λ (xs : List (List Value)). done xs scene) (nothing_sorts rows)
nothing_turns o d (x ∷ xs) b h e rows w f scene round fit rising = let same : x ∷ xs ≡ [] = h.0 e in cc

-- ---- a table with its edge

pub edge_so : (E : Type 0) (o : Outside) (name : List ℕ) (os : Orders) (limit : Option Limit) (store : Store) (place : ℕ) (d : TableDef) (down : Bool) (rows : List (List Value)) → IsWhole store
    → place_of name store.tables ≡ Some place → slice_get (definitions_of store.tables) place ≡ Some d → IsWay o d os (Some down)
    → rows ≡ take 1 (cond down (reverse (rows_of name store.tables)) (rows_of name store.tables)) → LeavesOne limit
    → IsEdge {E = E} o (from_table name no_part os limit) store.tables (Ok (Some (record { definition = d; rows = rows })))
edge_so E o name os limit store place d down rows whole is there way taken one w f scene what round tables =
    let t : Table = record { definition = d; rows = rows_of name store.tables } in
    let named : table_named name store.tables ≡ Some t = named_there name store.tables place d is there in
    edge_shows o w f name t os limit down what scene round (ap (table_named name) tables ∙ named) (named_kept name store.tables t whole.rows named) way one
    ∙ ap (λ (rs : List (List Value)). shown_rows w f d what rs scene) (sym taken)

-- where no WHERE stands
pub edge_as : {E : Type 0} (o : Outside) (f : FromClause) (tables : List Table) (r : Result (Option SeenTable) E) → (out-FromClause f).filter ≡ None
    → IsEdge o (from_table (out-FromClause f).table no_part (view_orders (out-FromClause f).order) (out-FromClause f).limit) tables r → IsEdge o (view_from f) tables r
edge_as {E = E} o f tables r none h =
    subst (λ (x : Origin). IsEdge {E = E} o x tables r) (sym (from_of_out f ∙ ap (λ (x : Option Expr). from_table (out-FromClause f).table (view_part x) (view_orders (out-FromClause f).order) (out-FromClause f).limit) none)) h
