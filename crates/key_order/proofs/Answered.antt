-- A SELECT of aggregates over a whole table, from the ends of this.
use Rattle.std.proofs.Common.{◌≡◌, ℕ, suc, List, [], ◌∷◌, Bool, true, Option, Some, None, Result, Ok, Err, length, map, drop, refl, sym, ap, ◌∙◌}
use Rattle.std.specs.Prelude.{pos, slice_get, IfOk}
use Rattle.std.specs.Option.{option_map, option_and_then, option_map_or}
use Rattle.std.specs.List.{list_all}
use Rattle.std.specs.Ordering.{is_lt}
use Rattle.std.proofs.lemmas.Bool.{and_parts}
use Rattle.val_types.specs.declared.value.Value.{Value}
use Rattle.val_types.specs.declared.value.Value.TheVariants.{Int}
use Rattle.val_types.specs.declared.definitions.TableDef.{TableDef}
use Rattle.val_types.specs.declared.ops.Agg.{Agg}
use Rattle.val_types.specs.declared.ops.Agg.TheVariants.{Count}
use Rattle.val_types.specs.Fitting.{row_fits}
use Rattle.value_rules.specs.Selecting.{first_value, known_count, aggregate_value, by_items, in_order, put_in_order}
use Rattle.table_rules.specs.Tables.{Table, IsKept, rise}
use Rattle.table_rules.specs.Stored.{table_named, rows_of}
use Rattle.table_rules.specs.Stores.{Store, IsWhole, place_of, definitions_of}
use Rattle.table_rules.proofs.Places.{place_is_of_name}
use Rattle.table_rules.proofs.Storing.{named_kept}
use Rattle.sql_tree.specs.Tree.{Tree, query, Selected, aggregates, Aggregates, from_table, no_part, no_order}
use Rattle.sql_tree.specs.View.{aggregates_of, view_aggregate, view_aggregates}
use Rattle.sql_tree.specs.declared.expressions.Aggregate.{Aggregate}
use Rattle.where_candidates.specs.session_ctx.sql_meaning.Scenes.{Scene, Ending, done, then_do, pure, each, kept_by, ◌>>=◌}
use Rattle.where_candidates.specs.session_ctx.sql_meaning.Frames.{World, Frame, sees}
use Rattle.where_candidates.specs.session_ctx.sql_meaning.Values.{argument_values, formed, functions_of, shown_rows, rows_of_query, sorted}
use Rattle.where_candidates.specs.where_keys.where_laws.Sides.{of_column}
use Rattle.where_candidates.proofs.of_where_keys.of_where_laws.Sides.{sides_are_so}
use Rattle.where_candidates.specs.where_keys.declared.outside.Outside.{Outside}
use Rattle.where_candidates.specs.where_keys.Sides.{IsRound}
use Rattle.key_order.specs.Columns.{end_in, ends_in}
use Rattle.key_order.specs.Given.{IsWholeAnswer}
use Rattle.key_order.proofs.AtEnds.{at, counted_is, over_so}

abbrev One : Type 0
One = Option (Agg × Tree)

-- ---- what each aggregate is over

-- the argument of an aggregate in a row that fits, and what it comes to
record IsKnown (w : World) (f : Frame) (d : TableDef) (rows : List (List Value)) (one : One) (v : Value) : Type 0 where
  argument : List Value → Value
  gives : (row : List Value) (rest : Aggregates) (scene : Scene) → row_fits d.columns row ≡ true
      → argument_values w (sees d row f) (Rattle.sql_tree.specs.View.aggregate_before one rest) scene
      ≡ then_do (argument_values w (sees d row f) rest scene) (λ xs. pure (argument row ∷ xs))
  function : Agg
  is : (rest : Aggregates) → functions_of (Rattle.sql_tree.specs.View.aggregate_before one rest) ≡ function ∷ functions_of rest
  comes : aggregate_value function (map argument rows) ≡ Ok v

counted : (rows : List (List Value)) → known_count (map (λ (row : List Value). Int (pos 1)) rows) ≡ length rows
counted [] = refl
counted (row ∷ rows) = ap suc (counted rows)

known_so : (o : Outside) (w : World) (f : Frame) (d : TableDef) (rows : List (List Value)) (one : One) (v : Value) → IsRound o w f
    → list_all (row_fits d.columns) rows ≡ true → rise d rows ≡ true → end_in o d rows one ≡ Some v → IsKnown w f d rows one v
known_so o w f d rows None v round fit rising e = record {
  argument = λ row. Int (pos 1);
  gives = λ row rest scene fits. refl;
  function = Count;
  is = λ rest. refl;
  comes = ap (λ (n : ℕ). Ok (Int (pos n))) (counted rows) ∙ ap (λ (x : Value). Ok x) (sym (counted_is (length rows) v e));
}
known_so o w f d rows (Some one) v round fit rising e =
    let end = over_so o w f d rows one v round fit rising e in
    record {
      argument = at end.place;
      gives = λ row rest scene fits.
          ap (λ (x : Ending Value). then_do x (λ x. argument_values w (sees d row f) rest >>= λ xs. pure (x ∷ xs)))
          (sides_are_so w f d one.1 (of_column end.place end.column) end.is row scene fits);
      function = one.0;
      is = λ rest. refl;
      comes = end.comes;
    }

-- ---- all of them

abbrev AreKnown : World → Frame → TableDef → List (List Value) → List One → List Value → Type 0
AreKnown w f d rows [] [] = Unit {0}
AreKnown w f d rows [] (v ∷ vs) = ⊥
AreKnown w f d rows (one ∷ more) [] = ⊥
AreKnown w f d rows (one ∷ more) (v ∷ vs) = IsKnown w f d rows one v × AreKnown w f d rows more vs

known_step : (w : World) (f : Frame) (d : TableDef) (rows : List (List Value)) (one : One) (more : List One) (first : Option Value) (rest : Option (List Value)) (vs : List Value)
    → ((v : Value) → first ≡ Some v → IsKnown w f d rows one v) → ((xs : List Value) → rest ≡ Some xs → AreKnown w f d rows more xs)
    → option_and_then (λ v. option_map (λ (vs : List Value). v ∷ vs) rest) first ≡ Some vs → AreKnown w f d rows (one ∷ more) vs
known_step w f d rows one more None rest vs head tail e = cc
known_step w f d rows one more (Some v) None vs head tail e = cc
known_step w f d rows one more (Some v) (Some rest) [] head tail e = cc
known_step w f d rows one more (Some v) (Some rest) (x ∷ xs) head tail e =
    let left : v ≡ x = cc in let right : rest ≡ xs = cc in (head x (ap (λ (y : Value). Some y) left), tail xs (ap (λ (ys : List Value). Some ys) right))

all_known : (o : Outside) (w : World) (f : Frame) (d : TableDef) (rows : List (List Value)) (ones : List One) (vs : List Value) → IsRound o w f
    → list_all (row_fits d.columns) rows ≡ true → rise d rows ≡ true → ends_in o d rows ones ≡ Some vs → AreKnown w f d rows ones vs
all_known o w f d rows [] [] round fit rising e = tt
all_known o w f d rows [] (v ∷ vs) round fit rising e = cc
all_known o w f d rows (one ∷ more) vs round fit rising e =
    known_step w f d rows one more (end_in o d rows one) (ends_in o d rows more) vs (λ v h. known_so o w f d rows one v round fit rising h)
    (λ xs h. all_known o w f d rows more xs round fit rising h) e

module _ (w : World) (f : Frame) (d : TableDef) (rows : List (List Value)) where
  -- the arguments in a row
  abbrev arguments : (ones : List One) (vs : List Value) → AreKnown w f d rows ones vs → List Value → List Value
  arguments [] vs known row = []
  arguments (one ∷ more) [] known row = []
  arguments (one ∷ more) (v ∷ vs) known row = known.0.argument row ∷ arguments more vs known.1 row

  in_row : (ones : List One) (vs : List Value) (known : AreKnown w f d rows ones vs) (row : List Value) (scene : Scene) → row_fits d.columns row ≡ true
      → argument_values w (sees d row f) (aggregates_of ones) scene ≡ done (arguments ones vs known row) scene
  in_row [] vs known row scene fits = refl
  in_row (one ∷ more) [] known row scene fits = absurd known
  in_row (one ∷ more) (v ∷ vs) known row scene fits =
      known.0.gives row (aggregates_of more) scene fits
      ∙ ap (λ (e : Ending (List Value)). then_do e (λ xs. pure (known.0.argument row ∷ xs))) (in_row more vs known.1 row scene fits)

  in_rows : (ones : List One) (vs : List Value) (known : AreKnown w f d rows ones vs) (some : List (List Value)) (scene : Scene) → list_all (row_fits d.columns) some ≡ true
      → each (λ row. argument_values w (sees d row f) (aggregates_of ones)) some scene ≡ done (map (arguments ones vs known) some) scene
  in_rows ones vs known [] scene fit = refl
  in_rows ones vs known (row ∷ some) scene fit =
      let both = and_parts (row_fits d.columns row) (list_all (row_fits d.columns) some) fit in
      rw (in_row ones vs known row scene both.0, in_rows ones vs known some scene both.1) refl

  firsts : (one : One) (more : List One) (v : Value) (vs : List Value) (known : AreKnown w f d rows (one ∷ more) (v ∷ vs)) (some : List (List Value))
      → map first_value (map (arguments (one ∷ more) (v ∷ vs) known) some) ≡ map known.0.argument some
  firsts one more v vs known [] = refl
  firsts one more v vs known (row ∷ some) = ap (λ (xs : List Value). known.0.argument row ∷ xs) (firsts one more v vs known some)

  others : (one : One) (more : List One) (v : Value) (vs : List Value) (known : AreKnown w f d rows (one ∷ more) (v ∷ vs)) (some : List (List Value))
      → map (drop 1) (map (arguments (one ∷ more) (v ∷ vs) known) some) ≡ map (arguments more vs known.1) some
  others one more v vs known [] = refl
  others one more v vs known (row ∷ some) = ap (λ (xs : List (List Value)). arguments more vs known.1 row ∷ xs) (others one more v vs known some)

  all_formed : (ones : List One) (vs : List Value) (known : AreKnown w f d rows ones vs) (scene : Scene)
      → formed (functions_of (aggregates_of ones)) (map (arguments ones vs known) rows) scene ≡ done vs scene
  all_formed [] [] known scene = refl
  all_formed [] (v ∷ vs) known scene = absurd known
  all_formed (one ∷ more) [] known scene = absurd known
  all_formed (one ∷ more) (v ∷ vs) known scene =
      ap (λ (fs : List Agg). formed fs (map (arguments (one ∷ more) (v ∷ vs) known) rows) scene) (known.0.is (aggregates_of more))
      ∙ (rw (firsts one more v vs known rows, others one more v vs known rows, known.0.comes, all_formed more vs known.1 scene) refl)

  all_shown : (ones : List One) (vs : List Value) (known : AreKnown w f d rows ones vs) (scene : Scene) → list_all (row_fits d.columns) rows ≡ true
      → shown_rows w f d (aggregates (aggregates_of ones)) rows scene ≡ done (vs ∷ []) scene
  all_shown ones vs known scene fit = rw (in_rows ones vs known rows scene fit, all_formed ones vs known scene) refl

-- ---- a table as it stands

pub all_kept : (rows : List (List Value)) (scene : Scene) → kept_by (λ (row : List Value). pure true) rows scene ≡ done rows scene
all_kept [] scene = refl
all_kept (row ∷ rows) scene = ap (λ (e : Ending (List (List Value))). then_do e (λ rest. pure (row ∷ rest))) (all_kept rows scene)

abbrev Keyed : Type 0
Keyed = List Value × List Value

abbrev alone : List Value → Keyed
alone row = ([], row)

pub all_alone : (rows : List (List Value)) (scene : Scene) → each (λ (row : List Value). pure (alone row)) rows scene ≡ done (map alone rows) scene
all_alone [] scene = refl
all_alone (row ∷ rows) scene = ap (λ (e : Ending (List Keyed)). then_do e (λ rest. pure (alone row ∷ rest))) (all_alone rows scene)

abbrev never_before : Keyed → Keyed → Bool
never_before x y = is_lt (by_items [] x.0 y.0)

put_first : (x : Keyed) (ys : List Keyed) → put_in_order never_before x ys ≡ x ∷ ys
put_first x [] = refl
put_first x (y ∷ ys) = refl

stays : (xs : List Keyed) → in_order never_before xs ≡ xs
stays [] = refl
stays (x ∷ xs) = put_first x (in_order never_before xs) ∙ ap (λ (ys : List Keyed). x ∷ ys) (stays xs)

alone_again : (rows : List (List Value)) → map (λ (r : Keyed). r.1) (map alone rows) ≡ rows
alone_again [] = refl
alone_again (row ∷ rows) = ap (λ (ys : List (List Value)). row ∷ ys) (alone_again rows)

pub nothing_sorts : (rows : List (List Value)) → sorted [] (map alone rows) ≡ rows
nothing_sorts rows = ap (map (λ (r : Keyed). r.1)) (stays (map alone rows)) ∙ alone_again rows

as_it_stands : (w : World) (f : Frame) (what : Selected) (name : List ℕ) (t : Table) (scene : Scene) → table_named name scene.tables ≡ Some t
    → rows_of_query w f (query what (from_table name no_part no_order None)) scene ≡ shown_rows w f t.definition what t.rows scene
as_it_stands w f what name t scene there =
    rw (there, all_kept t.rows scene, all_alone t.rows scene) (ap (λ (rows : List (List Value)). shown_rows w f t.definition what rows scene) (nothing_sorts t.rows))

-- ---- the table of a name, at its place

get_mapped : {X Y : Type 0} (f : X → Y) (xs : List X) (i : ℕ) → slice_get (map f xs) i ≡ option_map f (slice_get xs i)
get_mapped f [] i = refl
get_mapped f (x ∷ xs) Rattle.std.proofs.Common.zero = refl
get_mapped f (x ∷ xs) (suc i) = get_mapped f xs i

definition_there : (name : List ℕ) (tables : List Table) (at : ℕ) → place_of name tables ≡ Some at
    → slice_get (definitions_of tables) at ≡ option_map (λ (t : Table). t.definition) (table_named name tables)
definition_there name tables at place =
    get_mapped (λ (t : Table). t.definition) tables at ∙ ap (option_map (λ (t : Table). t.definition)) (place_is_of_name name tables at place)

table_is : (d : TableDef) (found : Option Table) → option_map (λ (t : Table). t.definition) found ≡ Some d
    → found ≡ Some (record { definition = d; rows = option_map_or (λ (t : Table). t.rows) found [] })
table_is d None here = cc
table_is d (Some t) here = let same : t.definition ≡ d = cc in ap (λ (e : TableDef). Some (record { definition = e; rows = t.rows })) same

pub named_there : (name : List ℕ) (tables : List Table) (place : ℕ) (d : TableDef) → place_of name tables ≡ Some place → slice_get (definitions_of tables) place ≡ Some d
    → table_named name tables ≡ Some (record { definition = d; rows = rows_of name tables })
named_there name tables place d is there = table_is d (table_named name tables) (sym (definition_there name tables place is) ∙ there)

-- what is read at its ends is what the SELECT shows
read_at_ends : (o : Outside) (as' : List Aggregate) (name : List ℕ) (store : Store) (place : ℕ) (d : TableDef) (row : List Value) → IsWhole store
    → place_of name store.tables ≡ Some place → slice_get (definitions_of store.tables) place ≡ Some d → ends_in o d (rows_of name store.tables) (map view_aggregate as') ≡ Some row
    → (w : World) (f : Frame) (scene : Scene) → IsRound o w f → scene.tables ≡ store.tables
    → rows_of_query w f (query (aggregates (view_aggregates as')) (from_table name no_part no_order None)) scene ≡ done (row ∷ []) scene
read_at_ends o as' name store place d row whole is there e w f scene round tables =
    let t : Table = record { definition = d; rows = rows_of name store.tables } in
    let named : table_named name store.tables ≡ Some t = named_there name store.tables place d is there in
    let kept : IsKept t = named_kept name store.tables t whole.rows named in
    as_it_stands w f (aggregates (view_aggregates as')) name t scene (ap (table_named name) tables ∙ named)
    ∙ all_shown w f d t.rows (map view_aggregate as') row (all_known o w f d t.rows (map view_aggregate as') row round kept.fit kept.rising e) scene kept.fit

pub answer_at_ends : {E : Type 0} (o : Outside) (as' : List Aggregate) (name : List ℕ) (store : Store) (place : ℕ) (d : TableDef) (r : Result (Option (List Value)) E) → IsWhole store
    → place_of name store.tables ≡ Some place → slice_get (definitions_of store.tables) place ≡ Some d
    → ((n : List ℕ) → place_of n store.tables ≡ Some place → IfOk r (λ row. row ≡ ends_in o d (rows_of n store.tables) (map view_aggregate as')))
    → IsWholeAnswer o (aggregates (view_aggregates as')) (from_table name no_part no_order None) store.tables r
answer_at_ends o as' name store place d (Err short) whole is there e = tt
answer_at_ends o as' name store place d (Ok None) whole is there e = tt
answer_at_ends o as' name store place d (Ok (Some row)) whole is there e = read_at_ends o as' name store place d row whole is there (sym (e name is))
