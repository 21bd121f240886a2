-- Rows that rise by their primary key, sorted by it.
use Rattle.std.proofs.Common.{◌≡◌, ℕ, suc, List, [], ◌∷◌, ◌++◌, length, map, reverse, Bool, true, false, not, ◌&&◌, cond, Ordering, Less, Equal, Greater, refl, sym, ap, ◌∙◌, arith}
use Rattle.std.specs.List.{list_all}
use Rattle.std.specs.Ordering.{is_lt, ordering_then, ordering_reverse}
use Rattle.std.proofs.lemmas.Bool.{and_parts}
use Rattle.std.proofs.lemmas.List.{reverse-append}
use Rattle.val_types.specs.declared.value.Value.{Value}
use Rattle.val_types.specs.declared.definitions.TableDef.{TableDef}
use Rattle.val_types.specs.Fitting.{row_fits}
use Rattle.val_types.specs.Keys.{primary_key, values_at}
use Rattle.val_types.specs.Order.{value_order, key_order}
use Rattle.val_types.proofs.Values.{key_order_total}
use Rattle.value_rules.specs.Selecting.{by_items, put_in_order, in_order, comes_first_of, stand_in_order}
use Rattle.table_rules.specs.Tables.{is_below, rise}
use Rattle.sql_tree.specs.Tree.{Orders, no_order, order_by}
use Rattle.where_candidates.specs.session_ctx.sql_meaning.Scenes.{Scene, Ending, done, then_do, pure, each, ◌>>=◌}
use Rattle.where_candidates.specs.session_ctx.sql_meaning.Frames.{World, Frame, sees}
use Rattle.where_candidates.specs.session_ctx.sql_meaning.Values.{order_values, sorted, directions}
use Rattle.where_candidates.specs.where_keys.where_laws.Sides.{of_column}
use Rattle.where_candidates.proofs.of_where_keys.of_where_laws.Sides.{sides_are_so}
use Rattle.key_order.specs.Keys.{with_keys, are_rising, are_falling, AreColumns, RisingKeysStay, FallingKeysTurn, KeysOrderRows, KeysTurnRows}

-- ---- by rising items, keys stand as they are ordered

same_length : (m n : ℕ) → suc m ≡ suc n → m ≡ n
same_length m n e = omega arith

as_ordered : (downs : List Bool) (a b : List Value) → are_rising downs ≡ true → length a ≡ length downs → length b ≡ length downs → by_items downs a b ≡ key_order a b
as_ordered [] [] [] up left right = refl
as_ordered [] [] (y ∷ ys) up left right = cc
as_ordered [] (x ∷ xs) b up left right = cc
as_ordered (true ∷ downs) a b up left right = cc
as_ordered (false ∷ downs) [] b up left right = cc
as_ordered (false ∷ downs) (x ∷ xs) [] up left right = cc
as_ordered (false ∷ downs) (x ∷ xs) (y ∷ ys) up left right =
    ap (ordering_then (value_order x y)) (as_ordered downs xs ys up (same_length (length xs) (length downs) left) (same_length (length ys) (length downs) right))

key_length : (places : List ℕ) (row : List Value) → length (values_at places row) ≡ length places
key_length [] row = refl
key_length (place ∷ places) row = ap suc (key_length places row)

turned : (o : Ordering) → is_lt o ≡ true → not (is_lt (ordering_reverse o)) ≡ true
turned Less e = refl
turned Equal e = cc
turned Greater e = cc

-- a row that stands behind one below it does not come before it
stays_behind : (d : TableDef) (downs : List Bool) (row later : List Value) → are_rising downs ≡ true → length downs ≡ length d.primary → is_below d row later ≡ true
    → not (is_lt (by_items downs (primary_key d later) (primary_key d row))) ≡ true
stays_behind d downs row later up long below =
    ap (λ (o : Ordering). not (is_lt o)) (as_ordered downs (primary_key d later) (primary_key d row) up (key_length d.primary later ∙ sym long) (key_length d.primary row ∙ sym long)
    ∙ key_order_total.antisymm (primary_key d later) (primary_key d row))
    ∙ turned (key_order (primary_key d row) (primary_key d later)) below

-- ---- what stands in order stays as it stands

module _ {X : Type 0} (before : X → X → Bool) where
  put_in_front : (x : X) (xs : List X) → comes_first_of before x xs ≡ true → put_in_order before x xs ≡ x ∷ xs
  put_in_front x [] first = refl
  put_in_front x (y ∷ ys) first = step (before y x) (and_parts (not (before y x)) (comes_first_of before x ys) first).0
    where
      step : (b : Bool) → not b ≡ true → cond b (y ∷ put_in_order before x ys) (x ∷ y ∷ ys) ≡ x ∷ y ∷ ys
      step true e = cc
      step false e = refl

  stays : (xs : List X) → stand_in_order before xs ≡ true → in_order before xs ≡ xs
  stays [] stand = refl
  stays (x ∷ xs) stand =
      let both = and_parts (comes_first_of before x xs) (stand_in_order before xs) stand in
      ap (put_in_order before x) (stays xs both.1) ∙ put_in_front x xs both.0

-- ---- rows that rise

abbrev Keyed : Type 0
Keyed = List Value × List Value

abbrev comes_before : List Bool → Keyed → Keyed → Bool
comes_before downs a b = is_lt (by_items downs a.0 b.0)

both_true : (a b : Bool) → a ≡ true → b ≡ true → a && b ≡ true
both_true a b left right = ap (λ (x : Bool). x && b) left ∙ right

first_of : (d : TableDef) (downs : List Bool) (row : List Value) (rows : List (List Value)) → are_rising downs ≡ true → length downs ≡ length d.primary
    → list_all (is_below d row) rows ≡ true → comes_first_of (comes_before downs) (primary_key d row, row) (with_keys d rows) ≡ true
first_of d downs row [] up long below = refl
first_of d downs row (later ∷ rows) up long below =
    let both = and_parts (is_below d row later) (list_all (is_below d row) rows) below in
    both_true _ _ (stays_behind d downs row later up long both.0) (first_of d downs row rows up long both.1)

stand : (d : TableDef) (downs : List Bool) (rows : List (List Value)) → are_rising downs ≡ true → length downs ≡ length d.primary → rise d rows ≡ true
    → stand_in_order (comes_before downs) (with_keys d rows) ≡ true
stand d downs [] up long rising = refl
stand d downs (row ∷ rows) up long rising =
    let both = and_parts (list_all (is_below d row) rows) (rise d rows) rising in
    both_true _ _ (first_of d downs row rows up long both.0) (stand d downs rows up long both.1)

rows_back : (d : TableDef) (rows : List (List Value)) → map (λ (r : Keyed). r.1) (with_keys d rows) ≡ rows
rows_back d [] = refl
rows_back d (row ∷ rows) = ap (λ (rest : List (List Value)). row ∷ rest) (rows_back d rows)

pub rising_keys_stay : RisingKeysStay
rising_keys_stay d downs rows up long rising =
    ap (map (λ (r : Keyed). r.1)) (stays (comes_before downs) (with_keys d rows) (stand d downs rows up long rising)) ∙ rows_back d rows

-- ---- ORDER BY columns

column_values : (w : World) (f : Frame) (d : TableDef) (os : Orders) (places : List ℕ) → AreColumns w f d os places
    → (row : List Value) (scene : Scene) → row_fits d.columns row ≡ true → order_values w (sees d row f) os scene ≡ done (values_at places row) scene
column_values w f d no_order [] are row scene fits = refl
column_values w f d no_order (place ∷ places) are row scene fits = absurd are
column_values w f d (order_by t down os) [] are row scene fits = absurd are
column_values w f d (order_by t down os) (place ∷ places) are row scene fits =
    let one = sides_are_so w f d t (of_column place are.0.column) are.0.is row scene fits in
    rw (one, column_values w f d os places are.1 row scene fits) refl

as_many : (w : World) (f : Frame) (d : TableDef) (os : Orders) (places : List ℕ) → AreColumns w f d os places → length (directions os) ≡ length places
as_many w f d no_order [] are = refl
as_many w f d no_order (place ∷ places) are = absurd are
as_many w f d (order_by t down os) [] are = absurd are
as_many w f d (order_by t down os) (place ∷ places) are = ap suc (as_many w f d os places are.1)

all_keyed : (w : World) (f : Frame) (d : TableDef) (os : Orders) (rows : List (List Value)) (scene : Scene) → AreColumns w f d os d.primary → list_all (row_fits d.columns) rows ≡ true
    → each (λ row. order_values w (sees d row f) os >>= λ by. pure (by, row)) rows scene ≡ done (with_keys d rows) scene
all_keyed w f d os [] scene are fit = refl
all_keyed w f d os (row ∷ rows) scene are fit =
    let both = and_parts (row_fits d.columns row) (list_all (row_fits d.columns) rows) fit in
    rw (column_values w f d os d.primary are row scene both.0, all_keyed w f d os rows scene are both.1) refl

pub keys_order_rows : KeysOrderRows
keys_order_rows w f d os rows scene are up fit rising =
    ap (λ (e : Ending (List Keyed)). then_do e (λ keyed. pure (sorted (directions os) keyed))) (all_keyed w f d os rows scene are fit)
    ∙ ap (λ (rs : List (List Value)). done rs scene) (rising_keys_stay d (directions os) rows up (as_many w f d os d.primary are) rising)

-- ---- the other way round

as_turned : (downs : List Bool) (a b : List Value) → are_falling downs ≡ true → length a ≡ length downs → length b ≡ length downs → by_items downs a b ≡ key_order b a
as_turned [] [] [] down left right = refl
as_turned [] [] (y ∷ ys) down left right = cc
as_turned [] (x ∷ xs) b down left right = cc
as_turned (false ∷ downs) a b down left right = cc
as_turned (true ∷ downs) [] b down left right = cc
as_turned (true ∷ downs) (x ∷ xs) [] down left right = cc
as_turned (true ∷ downs) (x ∷ xs) (y ∷ ys) down left right =
    ap (ordering_then (value_order y x)) (as_turned downs xs ys down (same_length (length xs) (length downs) left) (same_length (length ys) (length downs) right))

comes_ahead : (d : TableDef) (downs : List Bool) (row later : List Value) → are_falling downs ≡ true → length downs ≡ length d.primary → is_below d row later ≡ true
    → is_lt (by_items downs (primary_key d later) (primary_key d row)) ≡ true
comes_ahead d downs row later down long below =
    ap is_lt (as_turned downs (primary_key d later) (primary_key d row) down (key_length d.primary later ∙ sym long) (key_length d.primary row ∙ sym long)) ∙ below

all_ahead : (d : TableDef) (downs : List Bool) (row : List Value) (rows : List (List Value)) → are_falling downs ≡ true → length downs ≡ length d.primary
    → list_all (is_below d row) rows ≡ true → list_all (λ (later : Keyed). comes_before downs later (primary_key d row, row)) (with_keys d rows) ≡ true
all_ahead d downs row [] down long below = refl
all_ahead d downs row (later ∷ rows) down long below =
    let both = and_parts (is_below d row later) (list_all (is_below d row) rows) below in
    both_true _ _ (comes_ahead d downs row later down long both.0) (all_ahead d downs row rows down long both.1)

reversed : {X : Type 0} (x : X) (xs : List X) → reverse (x ∷ xs) ≡ reverse xs ++ x ∷ []
reversed x xs = reverse-append (x ∷ []) xs

map_behind : {X Y : Type 0} (f : X → Y) (xs : List X) (x : X) → map f (xs ++ x ∷ []) ≡ map f xs ++ f x ∷ []
map_behind f [] x = refl
map_behind f (y ∷ ys) x = ap (λ (zs : List _). f y ∷ zs) (map_behind f ys x)

map_reversed : {X Y : Type 0} (f : X → Y) (xs : List X) → map f (reverse xs) ≡ reverse (map f xs)
map_reversed f [] = refl
map_reversed f (x ∷ xs) =
    ap (map f) (reversed x xs) ∙ map_behind f (reverse xs) x ∙ ap (λ (zs : List _). zs ++ f x ∷ []) (map_reversed f xs) ∙ sym (reversed (f x) (map f xs))

module _ {X : Type 0} where
  all_behind : (p : X → Bool) (xs : List X) (x : X) → list_all p xs ≡ true → p x ≡ true → list_all p (xs ++ x ∷ []) ≡ true
  all_behind p [] x all last = both_true (p x) true last refl
  all_behind p (y ∷ ys) x all last =
      let both = and_parts (p y) (list_all p ys) all in both_true (p y) (list_all p (ys ++ x ∷ [])) both.0 (all_behind p ys x both.1 last)

  all_reversed : (p : X → Bool) (xs : List X) → list_all p xs ≡ true → list_all p (reverse xs) ≡ true
  all_reversed p [] all = refl
  all_reversed p (x ∷ xs) all =
      let both = and_parts (p x) (list_all p xs) all in
      ap (list_all p) (reversed x xs) ∙ all_behind p (reverse xs) x (all_reversed p xs both.1) both.0

  put_behind : (before : X → X → Bool) (x : X) (xs : List X) → list_all (λ y. before y x) xs ≡ true → put_in_order before x xs ≡ xs ++ x ∷ []
  put_behind before x [] ahead = refl
  put_behind before x (y ∷ ys) ahead =
      let both = and_parts (before y x) (list_all (λ z. before z x) ys) ahead in step (before y x) both.0 (put_behind before x ys both.1)
    where
      step : (b : Bool) → b ≡ true → put_in_order before x ys ≡ ys ++ x ∷ [] → cond b (y ∷ put_in_order before x ys) (x ∷ y ∷ ys) ≡ y ∷ (ys ++ x ∷ [])
      step true e rest = ap (λ (zs : List X). y ∷ zs) rest
      step false e rest = cc

turn : (d : TableDef) (downs : List Bool) (rows : List (List Value)) → are_falling downs ≡ true → length downs ≡ length d.primary → rise d rows ≡ true
    → in_order (comes_before downs) (with_keys d rows) ≡ reverse (with_keys d rows)
turn d downs [] down long rising = refl
turn d downs (row ∷ rows) down long rising =
    let both = and_parts (list_all (is_below d row) rows) (rise d rows) rising in
    let key : Keyed = (primary_key d row, row) in
    ap (put_in_order (comes_before downs) key) (turn d downs rows down long both.1)
    ∙ put_behind (comes_before downs) key (reverse (with_keys d rows)) (all_reversed (λ later. comes_before downs later key) (with_keys d rows) (all_ahead d downs row rows down long both.0))
    ∙ sym (reversed key (with_keys d rows))

pub falling_keys_turn : FallingKeysTurn
falling_keys_turn d downs rows down long rising =
    ap (map (λ (r : Keyed). r.1)) (turn d downs rows down long rising) ∙ map_reversed (λ (r : Keyed). r.1) (with_keys d rows) ∙ ap reverse (rows_back d rows)

pub keys_turn_rows : KeysTurnRows
keys_turn_rows w f d os rows scene are down fit rising =
    ap (λ (e : Ending (List Keyed)). then_do e (λ keyed. pure (sorted (directions os) keyed))) (all_keyed w f d os rows scene are fit)
    ∙ ap (λ (rs : List (List Value)). done rs scene) (falling_keys_turn d (directions os) rows down (as_many w f d os d.primary are) rising)
