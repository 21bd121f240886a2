-- ORDER BY just the columns of the primary key.
use Rattle.std.proofs.Common.{◌≡◌, ℕ, zero, suc, List, [], ◌∷◌, Bool, true, false, not, ◌&&◌, cond, Option, Some, None, Ok, map, reverse, refl, sym, ap, ◌∙◌, arith}
use Rattle.std.specs.Prelude.{◌==◌, slice_get}
use Rattle.std.specs.Option.{option_map}
use Rattle.std.specs.Bool.{beq}
use Rattle.std.proofs.lemmas.Bool.Decides.{nat_tests}
use Rattle.val_types.specs.declared.value.Value.{Value}
use Rattle.val_types.specs.declared.definitions.ColumnDef.{ColumnDef}
use Rattle.val_types.specs.declared.definitions.TableDef.{TableDef}
use Rattle.sql_tree.specs.Tree.{Tree, literal, name, column, new_column, old_column, user_variable, system_variable, unary, binary, is_in, choice, subquery, exists, call, built_in, values_of, name_const, floor_rand}
use Rattle.sql_tree.specs.View.{view_order, view_orders, orders_of}
use Rattle.sql_tree.specs.declared.expressions.OrderItem.{OrderItem}
use Rattle.sql_locals.specs.declared.locals.Local.{Local}
use Rattle.sql_locals.specs.Locals.{find_local}
use Rattle.where_candidates.specs.session_ctx.sql_meaning.catalog_rules.Names.{same_name, place_among}
use Rattle.where_candidates.specs.session_ctx.sql_meaning.catalog_rules.Objects.{columns_of}
use Rattle.where_candidates.specs.session_ctx.sql_meaning.Scenes.{done}
use Rattle.where_candidates.specs.session_ctx.sql_meaning.Frames.{World, Frame}
use Rattle.where_candidates.specs.session_ctx.sql_meaning.Values.{directions}
use Rattle.where_candidates.specs.where_keys.where_laws.Sides.{Side, of_column, side_of, column_side}
use Rattle.where_candidates.specs.where_keys.declared.outside.Outside.{Outside}
use Rattle.where_candidates.specs.where_keys.Sides.{IsRound, side_in, local_or_column}
use Rattle.where_candidates.proofs.of_where_keys.Known.{side_so}
use Rattle.key_order.specs.Keys.{AreColumns, are_rising, are_falling}
use Rattle.key_order.proofs.Keys.{keys_order_rows, keys_turn_rows}
use Rattle.key_order.specs.Columns.{is_place, is_named, is_column, are_columns}
use Rattle.key_order.specs.Given.{OrderedByKey}

-- ---- a column of a name

-- the place of a name is that of a column
abbrev There : List ColumnDef → ℕ → Type 0
There columns place = (c : ColumnDef) × (slice_get columns place ≡ Some c)

there_behind : (c : ColumnDef) (cs : List ColumnDef) (found : Option ℕ) (place : ℕ) → ((p : ℕ) → found ≡ Some p → There cs p) → option_map suc found ≡ Some place → There (c ∷ cs) place
there_behind c cs None place more e = cc
there_behind c cs (Some p) zero more e = cc
there_behind c cs (Some p) (suc place) more e = let same : p ≡ place = cc in more place (ap (λ (q : ℕ). Some q) same)

there_first : (c : ColumnDef) (cs : List ColumnDef) (own : Bool) (found : Option ℕ) (place : ℕ) → ((p : ℕ) → found ≡ Some p → There cs p)
    → cond own (Some 0) (option_map suc found) ≡ Some place → There (c ∷ cs) place
there_first c cs true found zero more e = (c, refl)
there_first c cs true found (suc place) more e = cc
there_first c cs false found place more e = there_behind c cs found place more e

column_there : (columns : List ColumnDef) (n : List ℕ) (place : ℕ) → place_among (map (λ (c : ColumnDef). c.name) columns) n ≡ Some place → There columns place
column_there [] n place e = cc
column_there (c ∷ cs) n place e =
    there_first c cs (same_name n c.name) (place_among (map (λ (c : ColumnDef). c.name) cs) n) place (λ p h. column_there cs n p h) e

place_is : (m n : ℕ) → (m == n) ≡ true → m ≡ n
place_is m n h = grind (arith, nat_tests)

found_there : (place : ℕ) (found : Option ℕ) → is_place place found ≡ true → found ≡ Some place
found_there place None e = cc
found_there place (Some p) e = ap (λ (q : ℕ). Some q) (place_is p place e)

abbrev ColumnSide : TableDef → ℕ → Option Side → Type 0
ColumnSide d place side = (c : ColumnDef) × (slice_get d.columns place ≡ Some c) × (side ≡ Some (of_column place c))

named_side : (d : TableDef) (place : ℕ) (n : List ℕ) → is_named d place n ≡ true → ColumnSide d place (column_side d (place_among (columns_of d) n))
named_side d place n e =
    let found = found_there place (place_among (columns_of d) n) e in
    let there = column_there d.columns n place found in
    (there.0, there.1, ap (column_side d) found ∙ ap (λ (c : Option ColumnDef). option_map (of_column place) c) there.1)

local_side : (d : TableDef) (place : ℕ) (n : List ℕ) (l : Option Local) → elim l [ None ↦ is_named d place n | Some l ↦ false ] ≡ true → ColumnSide d place (local_or_column d n l)
local_side d place n None e = named_side d place n e
local_side d place n (Some l) e = cc

own_side : (d : TableDef) (place : ℕ) (n : List ℕ) (own : Bool) → own && is_named d place n ≡ true
    → ColumnSide d place (cond own (column_side d (place_among (columns_of d) n)) None)
own_side d place n true e = named_side d place n e
own_side d place n false e = cc

-- what is seen to be the column at a place is known to be so
pub column_in : (o : Outside) (d : TableDef) (place : ℕ) (t : Tree) → is_column o d place t ≡ true → ColumnSide d place (side_in o d t)
column_in o d place (name n) e = local_side d place n (find_local o.locals.now n) e
column_in o d place (column t c) e = own_side d place c (same_name t d.name) e
column_in o d place (literal v) e = cc
column_in o d place (name_const n v) e = cc
column_in o d place (user_variable n) e = cc
column_in o d place (new_column c) e = cc
column_in o d place (old_column c) e = cc
column_in o d place (values_of c) e = cc
column_in o d place (unary op a) e = cc
column_in o d place (binary op a b) e = cc
column_in o d place (system_variable n) e = cc
column_in o d place (is_in negated a ts) e = cc
column_in o d place (choice arms p) e = cc
column_in o d place (subquery q) e = cc
column_in o d place (exists q) e = cc
column_in o d place (call n ts) e = cc
column_in o d place (floor_rand a) e = cc
column_in o d place (built_in g ts) e = cc

-- and so it is, whatever else is round the SELECT
pub column_so : (o : Outside) (w : World) (f : Frame) (d : TableDef) (place : ℕ) (t : Tree) → IsRound o w f → is_column o d place t ≡ true → ColumnSide d place (side_of w f d t)
column_so o w f d place t round e =
    let in' = column_in o d place t e in (in'.0, in'.1, side_so o w f d t (of_column place in'.0) round in'.2)

-- ---- the items of ORDER BY

abbrev Item : Type 0
Item = Tree × Bool

item_parts : (a b c : Bool) → a && b && c ≡ true → (a ≡ true) × (b ≡ true) × (c ≡ true)
item_parts true true true e = (refl, refl, refl)
item_parts true true false e = cc
item_parts true false c e = cc
item_parts false b c e = cc

columns_so : (o : Outside) (w : World) (f : Frame) (d : TableDef) (down : Bool) (xs : List Item) (places : List ℕ) → IsRound o w f → are_columns o d down xs places ≡ true
    → AreColumns w f d (orders_of xs) places
columns_so o w f d down [] [] round e = tt
columns_so o w f d down [] (place ∷ places) round e = cc
columns_so o w f d down (x ∷ xs) [] round e = cc
columns_so o w f d down (x ∷ xs) (place ∷ places) round e =
    let parts = item_parts (beq x.1 down) (is_column o d place x.0) (are_columns o d down xs places) e in
    let one = column_so o w f d place x.0 round parts.1 in
    (record { column = one.0; is = one.2 }, columns_so o w f d down xs places round parts.2)

rises : (o : Outside) (d : TableDef) (xs : List Item) (places : List ℕ) → are_columns o d false xs places ≡ true → are_rising (directions (orders_of xs)) ≡ true
rises o d [] [] e = refl
rises o d [] (place ∷ places) e = cc
rises o d (x ∷ xs) [] e = cc
rises o d (x ∷ xs) (place ∷ places) e =
    let parts = item_parts (beq x.1 false) (is_column o d place x.0) (are_columns o d false xs places) e in
    step x.1 parts.0 (rises o d xs places parts.2)
  where
    step : (down : Bool) → beq down false ≡ true → are_rising (directions (orders_of xs)) ≡ true → not down && are_rising (directions (orders_of xs)) ≡ true
    step true e more = cc
    step false e more = more

falls : (o : Outside) (d : TableDef) (xs : List Item) (places : List ℕ) → are_columns o d true xs places ≡ true → are_falling (directions (orders_of xs)) ≡ true
falls o d [] [] e = refl
falls o d [] (place ∷ places) e = cc
falls o d (x ∷ xs) [] e = cc
falls o d (x ∷ xs) (place ∷ places) e =
    let parts = item_parts (beq x.1 true) (is_column o d place x.0) (are_columns o d true xs places) e in
    step x.1 parts.0 (falls o d xs places parts.2)
  where
    step : (down : Bool) → beq down true ≡ true → are_falling (directions (orders_of xs)) ≡ true → down && are_falling (directions (orders_of xs)) ≡ true
    step true e more = more
    step false e more = cc

-- ---- rows in their order

pub as_they_stand : (o : Outside) (d : TableDef) (os os' : List OrderItem) (places : List ℕ) (b : Bool) (rows : List (List Value)) → os' ≡ os → places ≡ d.primary
    → b ≡ are_columns o d false (map view_order os') places → b ≡ true → OrderedByKey o d (view_orders os) rows (Ok rows)
as_they_stand o d os os' places b rows items primary tests holds w f scene round fit rising =
    let e : are_columns o d false (map view_order os) d.primary ≡ true =
    sym (ap (λ (xs : List OrderItem). are_columns o d false (map view_order xs) places) items ∙ ap (are_columns o d false (map view_order os)) primary) ∙ sym tests ∙ holds in
    keys_order_rows w f d (view_orders os) rows scene (columns_so o w f d false (map view_order os) d.primary round e) (rises o d (map view_order os) d.primary e) fit rising

pub the_other_way : (o : Outside) (d : TableDef) (os os' : List OrderItem) (places : List ℕ) (b : Bool) (rows turned : List (List Value)) → os' ≡ os → places ≡ d.primary
    → b ≡ are_columns o d true (map view_order os') places → b ≡ true → turned ≡ reverse rows → OrderedByKey o d (view_orders os) rows (Ok turned)
the_other_way o d os os' places b rows turned items primary tests holds is w f scene round fit rising =
    let e : are_columns o d true (map view_order os) d.primary ≡ true =
    sym (ap (λ (xs : List OrderItem). are_columns o d true (map view_order xs) places) items ∙ ap (are_columns o d true (map view_order os)) primary) ∙ sym tests ∙ holds in
    keys_turn_rows w f d (view_orders os) rows scene (columns_so o w f d true (map view_order os) d.primary round e) (falls o d (map view_order os) d.primary e) fit rising
    ∙ ap (λ (rs : List (List Value)). done rs scene) (sym is)
