-- Where a condition names a key, only the row of that key need be looked at.
use Rattle.std.proofs.Common.{◌≡◌, ℕ, List, [], ◌∷◌, ◌++◌, Bool, true, false, not, ◌&&◌, ◌||◌, cond, Option, Some, None, refl, sym, ap, subst, ◌∙◌, arith}
use Rattle.std.specs.Prelude.{◌==◌, slice_index_or}
use Rattle.std.specs.Option.{option_map, option_and_then}
use Rattle.std.specs.Ordering.{is_eq}
use Rattle.std.proofs.lemmas.Bool.{and_parts}
use Rattle.std.proofs.lemmas.Bool.Decides.{nat_tests}
use Rattle.val_types.specs.declared.value.Value.{Value}
use Rattle.val_types.specs.declared.value.Value.TheVariants.{Null, Int, Text}
use Rattle.val_types.specs.declared.definitions.ColumnDef.{ColumnDef}
use Rattle.val_types.specs.declared.definitions.TableDef.{TableDef}
use Rattle.val_types.specs.declared.ops.BinOp.{BinOp}
use Rattle.val_types.specs.declared.ops.BinOp.TheVariants.{Or, And, Equal, NullSafeEqual, NotEqual, Less, LessOrEqual, Greater, GreaterOrEqual, Add, Subtract, Multiply, Divide, Modulo}
use Rattle.val_types.specs.Fitting.{is_null}
use Rattle.val_types.specs.Keys.{values_at, same_values}
use Rattle.val_types.specs.Order.{value_order}
use Rattle.table_rules.specs.Stored.{has_key}
use Rattle.table_rules.proofs.Taking.{same_self}
use Rattle.sql_tree.specs.Tree.{Tree, literal, name, column, new_column, old_column, user_variable, system_variable, unary, binary, is_in, choice, subquery, exists, call, built_in, values_of, name_const, floor_rand, part}
use Rattle.session_ctx.specs.sql_meaning.Scenes.{kept_by}
use Rattle.session_ctx.specs.sql_meaning.Frames.{World, Frame}
use Rattle.where_laws.specs.Facts.{equal, way_of, Fact, agrees}
use Rattle.where_laws.specs.Keys.{has_values}
use Rattle.where_laws.specs.Sides.{Side, of_column, standing, side_of}
use Rattle.where_laws.specs.Known.{Known, says, is_null_safe, is_sure, column_beside, sides_compared, compared_sides, compared, both_known, operator_known, known}
use Rattle.where_laws.specs.Laws.{kept_where}
use Rattle.where_laws.proofs.Facts.{agrees_both}
use Rattle.where_laws.proofs.Sides.{some_is}
use Rattle.where_laws.proofs.Enough.{equal_is, facts_are_enough}
use Rattle.where_laws.proofs.Single.{only_one, key_is_lone}
use Rattle.where_keys.specs.declared.outside.Outside.{Outside}
use Rattle.where_keys.specs.Sides.{IsRound, side_in, sides_compare}
use Rattle.where_keys.specs.Keys.{quiet_in, Look, found, calm, stopped, calm_if, followed, column_look, equal_look, sides_look, operator_look, look_in, value_found, key_in}
use Rattle.where_keys.specs.Laws.{NamedKeysAreEnough}
use Rattle.where_keys.proofs.Known.{side_so, beside_quiet, both_known_sides, quiet_so}

-- ---- what is said of a column

-- rows of which some facts are so have a value in a column
abbrev Gives : ℕ → Value → List Fact → Type 0
Gives place v facts = (row : List Value) → agrees facts row ≡ true → slice_index_or row place Null ≡ v

-- what a condition was seen to say of a column is so of what is known of it
abbrev LookIsSo : ℕ → Look → Known → Type 0
LookIsSo place (found v) k = Gives place v k.facts × Gives place v k.kept
LookIsSo place calm k = k.quiet ≡ true
LookIsSo place stopped k = Unit {0}

calm_so : (place : ℕ) (quiet : Bool) (k : Known) → (quiet ≡ true → k.quiet ≡ true) → LookIsSo place (calm_if quiet) k
calm_so place true k h = h refl
calm_so place false k h = tt

-- ---- AND

gives_left : (place : ℕ) (v : Value) (xs ys : List Fact) → Gives place v xs → Gives place v (xs ++ ys)
gives_left place v xs ys left row agree = left row (and_parts (agrees xs row) (agrees ys row) (sym (agrees_both xs ys row) ∙ agree)).0

gives_right : (place : ℕ) (v : Value) (xs ys : List Fact) → Gives place v ys → Gives place v (xs ++ ys)
gives_right place v xs ys right row agree = right row (and_parts (agrees xs row) (agrees ys row) (sym (agrees_both xs ys row) ∙ agree)).1

gives_either : (place : ℕ) (v : Value) (test : Bool) (xs ys : List Fact) → Gives place v xs → Gives place v ys → Gives place v (cond test xs ys)
gives_either place v true xs ys left right = left
gives_either place v false xs ys left right = right

gives_where : (place : ℕ) (v : Value) (test : Bool) (xs : List Fact) → test ≡ true → Gives place v xs → Gives place v (cond test xs [])
gives_where place v true xs e own = own
gives_where place v false xs e own = cc

quiet_both : (a b : Bool) → a ≡ true → b ≡ true → a && b ≡ true
quiet_both a b left right = ap (λ (x : Bool). x && b) left ∙ right

followed_so : (place : ℕ) (a b : Look) (k l : Known) → LookIsSo place a k → LookIsSo place b l → LookIsSo place (followed a b) (both_known k l)
followed_so place (found v) b k l left right = (
  gives_left place v k.facts (cond k.quiet l.facts []) left.0,
  gives_left place v (cond l.quiet k.kept k.facts) (cond k.quiet l.kept []) (gives_either place v l.quiet k.kept k.facts left.1 left.0),
)
followed_so place calm (found v) k l left right = (
  gives_right place v k.facts (cond k.quiet l.facts []) (gives_where place v k.quiet l.facts left right.0),
  gives_right place v (cond l.quiet k.kept k.facts) (cond k.quiet l.kept []) (gives_where place v k.quiet l.kept left right.1),
)
followed_so place calm calm k l left right = quiet_both k.quiet l.quiet left right
followed_so place calm stopped k l left right = tt
followed_so place stopped b k l left right = tt

-- ---- equalities

one_fact : (at : ℕ) (v : Value) → Gives at v (record { place = at; way = equal; value = v } ∷ [])
one_fact at v row agree =
    equal_is (slice_index_or row at Null) v (and_parts (is_eq (value_order (slice_index_or row at Null) v)) true agree).0

said_so : (sure : Bool) (at : ℕ) (v : Value) → sure ≡ true → LookIsSo at (found v) (says sure (record { place = at; way = equal; value = v }))
said_so true at v e = (one_fact at v, one_fact at v)
said_so false at v e = cc

or_true : (a b : Bool) → b ≡ true → a || b ≡ true
or_true true b e = refl
or_true false b e = e

there_so : (op : BinOp) (at : ℕ) (c : ColumnDef) (v : Value) → not c.nullable ≡ true → not (is_null v) ≡ true → LookIsSo at (found v) (column_beside op equal at c v)
there_so op at c Null sure there = cc
there_so op at c (Int n) sure there = said_so (is_sure op c) at (Int n) (or_true (is_null_safe op) (not c.nullable) sure)
there_so op at c (Text t) sure there = said_so (is_sure op c) at (Text t) (or_true (is_null_safe op) (not c.nullable) sure)

column_so : (op : BinOp) (place at : ℕ) (c : ColumnDef) (v : Value) → LookIsSo place (column_look place at c v) (column_beside op equal at c v)
column_so op place at c v = step (at == place && not c.nullable && not (is_null v)) refl
  where
    place_is : (m n : ℕ) → (m == n) ≡ true → m ≡ n
    place_is m n h = grind (arith, nat_tests)

    step : (here : Bool) → at == place && not c.nullable && not (is_null v) ≡ here → LookIsSo place (cond here (found v) calm) (column_beside op equal at c v)
    step true e =
        let both = and_parts (at == place && not c.nullable) (not (is_null v)) e in
        let first = and_parts (at == place) (not c.nullable) both.0 in
        subst (λ (p : ℕ). LookIsSo p (found v) (column_beside op equal at c v)) (place_is at place first.0) (there_so op at c v first.1 both.1)
    step false e = beside_quiet op equal at c v

equal_so : (op : BinOp) (place : ℕ) (a b : Side) → LookIsSo place (equal_look place a b) (sides_compared op equal a b)
equal_so op place (of_column at c) (of_column other d) = refl
equal_so op place (of_column at c) (standing v) = column_so op place at c v
equal_so op place (standing v) (of_column at c) = column_so op place at c v
equal_so op place (standing v) (standing w) = refl

sides_so : (op : BinOp) (place : ℕ) (a b a' b' : Option Side) → ((s : Side) → a ≡ Some s → a' ≡ Some s) → ((s : Side) → b ≡ Some s → b' ≡ Some s)
    → LookIsSo place (sides_look place a b) (compared_sides op equal a' b')
sides_so op place None b a' b' left right = tt
sides_so op place (Some x) None a' b' left right = tt
sides_so op place (Some x) (Some y) a' b' left right = step (sides_compare x y) refl
  where
    step : (compares : Bool) → sides_compare x y ≡ compares → LookIsSo place (cond compares (equal_look place x y) stopped) (compared_sides op equal a' b')
    step true e = subst (λ (k : Known). LookIsSo place (equal_look place x y) k) (sym (both_known_sides op equal a' b' x y (left x refl) (right y refl) e)) (equal_so op place x y)
    step false e = tt

-- ---- conditions

operator_so : (op : BinOp) (place : ℕ) (a b sides sides' : Look) (quiet : Bool) (k l : Known) (x y : Option Side) → LookIsSo place a k → LookIsSo place b l
    → LookIsSo place sides (compared_sides Equal equal x y) → LookIsSo place sides' (compared_sides NullSafeEqual equal x y)
    → (quiet ≡ true → (operator_known op k l (compared op (way_of op) x y)).quiet ≡ true) → sides ≡ sides'
    → LookIsSo place (operator_look op a b sides quiet) (operator_known op k l (compared op (way_of op) x y))
operator_so And place a b sides sides' quiet k l x y left right one two own same = followed_so place a b k l left right
operator_so Equal place a b sides sides' quiet k l x y left right one two own same = one
operator_so NullSafeEqual place a b sides sides' quiet k l x y left right one two own same =
    subst (λ (s : Look). LookIsSo place s (compared_sides NullSafeEqual equal x y)) (sym same) two
operator_so Or place a b sides sides' quiet k l x y left right one two own same = calm_so place quiet _ own
operator_so NotEqual place a b sides sides' quiet k l x y left right one two own same = calm_so place quiet _ own
operator_so Less place a b sides sides' quiet k l x y left right one two own same = calm_so place quiet _ own
operator_so LessOrEqual place a b sides sides' quiet k l x y left right one two own same = calm_so place quiet _ own
operator_so Greater place a b sides sides' quiet k l x y left right one two own same = calm_so place quiet _ own
operator_so GreaterOrEqual place a b sides sides' quiet k l x y left right one two own same = calm_so place quiet _ own
operator_so Add place a b sides sides' quiet k l x y left right one two own same = calm_so place quiet _ own
operator_so Subtract place a b sides sides' quiet k l x y left right one two own same = calm_so place quiet _ own
operator_so Multiply place a b sides sides' quiet k l x y left right one two own same = calm_so place quiet _ own
operator_so Divide place a b sides sides' quiet k l x y left right one two own same = calm_so place quiet _ own
operator_so Modulo place a b sides sides' quiet k l x y left right one two own same = calm_so place quiet _ own

other_so : (o : Outside) (w : World) (f : Frame) (d : TableDef) (place : ℕ) (t : Tree) → IsRound o w f → LookIsSo place (calm_if (quiet_in o d t)) (known w f d t)
other_so o w f d place t round = calm_so place (quiet_in o d t) (known w f d t) (λ e. quiet_so o w f d t round e)

look_so : (o : Outside) (w : World) (f : Frame) (d : TableDef) (place : ℕ) (t : Tree) → IsRound o w f → LookIsSo place (look_in o d place t) (known w f d t)
look_so o w f d place (binary op a b) round =
    operator_so op place (look_in o d place a) (look_in o d place b) (sides_look place (side_in o d a) (side_in o d b)) (sides_look place (side_in o d a) (side_in o d b))
    (quiet_in o d (binary op a b)) (known w f d a) (known w f d b) (side_of w f d a) (side_of w f d b) (look_so o w f d place a round) (look_so o w f d place b round)
    (sides_so Equal place (side_in o d a) (side_in o d b) (side_of w f d a) (side_of w f d b) (λ s h. side_so o w f d a s round h) (λ s h. side_so o w f d b s round h))
    (sides_so NullSafeEqual place (side_in o d a) (side_in o d b) (side_of w f d a) (side_of w f d b) (λ s h. side_so o w f d a s round h) (λ s h. side_so o w f d b s round h))
    (λ e. quiet_so o w f d (binary op a b) round e) refl
look_so o w f d place (unary op a) round = other_so o w f d place (unary op a) round
look_so o w f d place (literal v) round = other_so o w f d place (literal v) round
look_so o w f d place (name n) round = other_so o w f d place (name n) round
look_so o w f d place (column t c) round = other_so o w f d place (column t c) round
look_so o w f d place (new_column c) round = other_so o w f d place (new_column c) round
look_so o w f d place (old_column c) round = other_so o w f d place (old_column c) round
look_so o w f d place (user_variable n) round = other_so o w f d place (user_variable n) round
look_so o w f d place (name_const n v) round = other_so o w f d place (name_const n v) round
look_so o w f d place (values_of c) round = other_so o w f d place (values_of c) round
look_so o w f d place (system_variable n) round = other_so o w f d place (system_variable n) round
look_so o w f d place (is_in negated a ts) round = other_so o w f d place (is_in negated a ts) round
look_so o w f d place (choice arms p) round = other_so o w f d place (choice arms p) round
look_so o w f d place (subquery q) round = other_so o w f d place (subquery q) round
look_so o w f d place (exists q) round = other_so o w f d place (exists q) round
look_so o w f d place (call n ts) round = other_so o w f d place (call n ts) round
look_so o w f d place (floor_rand a) round = other_so o w f d place (floor_rand a) round
look_so o w f d place (built_in g ts) round = other_so o w f d place (built_in g ts) round

-- ---- keys

key_step : (row : List Value) (place : ℕ) (places : List ℕ) (k : Known) (look : Look) (rest : Option (List Value)) (key : List Value) → LookIsSo place look k → agrees k.kept row ≡ true
    → ((vs : List Value) → rest ≡ Some vs → values_at places row ≡ vs)
    → option_and_then (λ v. option_map (λ (vs : List Value). v ∷ vs) rest) (value_found look) ≡ Some key → values_at (place ∷ places) row ≡ key
key_step row place places k calm rest key so agree more e = cc
key_step row place places k stopped rest key so agree more e = cc
key_step row place places k (found v) None key so agree more e = cc
key_step row place places k (found v) (Some vs) key so agree more e =
    ap (λ (x : Value). x ∷ values_at places row) (so.1 row agree) ∙ ap (λ (xs : List Value). v ∷ xs) (more vs refl) ∙ some_is (v ∷ vs) key e

pub key_so : (o : Outside) (w : World) (f : Frame) (d : TableDef) (t : Tree) (row : List Value) (places : List ℕ) (key : List Value) → IsRound o w f
    → agrees (known w f d t).kept row ≡ true → key_in o d t places ≡ Some key → values_at places row ≡ key
key_so o w f d t row [] key round agree e = some_is [] key e
key_so o w f d t row (place ∷ places) key round agree e =
    key_step row place places (known w f d t) (look_in o d place t) (key_in o d t places) key (look_so o w f d place t round) agree
    (λ vs h. key_so o w f d t row places vs round agree h) e

pub named_keys_are_enough : NamedKeysAreEnough
named_keys_are_enough o d t key named = record {
  gives = λ w f round rows kept scene.
      facts_are_enough w f d (part t) (has_values d.primary key) rows scene
      (λ row agree. ap (same_values key) (key_so o w f d t row d.primary key round agree named) ∙ same_self key) kept.fit
      ∙ ap (λ (left : List (List Value)). kept_by (kept_where w f d (part t)) left scene) (only_one (has_key d key) rows (key_is_lone d key rows kept.rising));
}
