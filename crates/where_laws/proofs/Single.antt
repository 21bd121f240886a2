-- Where facts name a key, at most one row need be looked at.
use Rattle.std.proofs.Common.{◌≡◌, ℕ, zero, suc, List, [], ◌∷◌, ◌++◌, Bool, true, false, not, ◌&&◌, ◌||◌, cond, Option, Some, None, Ordering, refl, sym, ap, subst, ◌∙◌}
use Rattle.std.specs.Prelude.{filter, option_to_list, slice_get}
use Rattle.std.specs.List.{list_all, list_any, find, AllByRecursion}
use Rattle.std.specs.Option.{option_map, option_and_then}
use Rattle.std.specs.Ordering.{is_eq, is_lt}
use Rattle.std.specs.declared.cmp.Ordering.TheVariants as orders
use Rattle.std.proofs.lemmas.Bool.{and_parts, or_parts}
use Rattle.val_types.specs.declared.value.Value.{Value}
use Rattle.val_types.specs.declared.value.Value.TheVariants.{Null, Int, Text}
use Rattle.val_types.specs.declared.definitions.ColumnDef.{ColumnDef}
use Rattle.val_types.specs.declared.definitions.KeyDef.{KeyDef}
use Rattle.val_types.specs.declared.definitions.TableDef.{TableDef}
use Rattle.val_types.specs.declared.ops.BinOp.{BinOp}
use Rattle.val_types.specs.declared.ops.BinOp.TheVariants.{Or, And, Equal, NullSafeEqual, NotEqual, Less, LessOrEqual, Greater, GreaterOrEqual, Add, Subtract, Multiply, Divide, Modulo}
use Rattle.val_types.specs.declared.ops.UnOp.{UnOp}
use Rattle.val_types.specs.declared.ops.UnOp.TheVariants.{Negate, Not, IsNull, IsNotNull}
use Rattle.val_types.specs.Fitting.{is_null}
use Rattle.val_types.specs.Order.{key_order}
use Rattle.val_types.specs.Keys.{primary_key, values_at, same_values, agree_on, collide}
use Rattle.table_rules.specs.Tables.{is_below, rise, are_apart}
use Rattle.table_rules.specs.Stored.{has_key}
use Rattle.table_rules.proofs.Taking.{same_is}
use Rattle.sql_tree.specs.Tree.{Tree, literal, name, column, new_column, old_column, user_variable, system_variable, unary, binary, is_in, choice, subquery, exists, call, built_in, values_of, name_const, floor_rand, Part, no_part, part}
use Rattle.sql_meaning.specs.Scenes.{kept_by}
use Rattle.sql_meaning.specs.Frames.{World, Frame}
use Rattle.where_laws.specs.Facts.{Way, way_of, turned, Fact}
use Rattle.where_laws.specs.Sides.{Side, of_column, standing, side_of, kind_of, do_compare}
use Rattle.where_laws.specs.Known.{Known, nothing_known, says, is_sure, column_beside, sides_compared, compared, both_known, operator_known, side_known, unary_known, known, facts_of}
use Rattle.where_laws.specs.Keys.{names, named_value, key_named, has_values}
use Rattle.where_laws.specs.Laws.{kept_where, KeysAreEnough, UniqueKeysAreEnough}
use Rattle.where_laws.proofs.Sides.{some_is}
use Rattle.where_laws.proofs.Enough.{values_are_enough}

abbrev Rows : Type 0
Rows = List (List Value)

-- ---- tests that at most one row passes

-- where a row passes, none behind it does
abbrev pub IsLone : (List Value → Bool) → Rows → Type 0
IsLone test [] = Unit {0}
IsLone test (row ∷ rows) = (test row ≡ true → filter test rows ≡ []) × IsLone test rows

pub only_one : (test : List Value → Bool) (rows : Rows) → IsLone test rows → filter test rows ≡ option_to_list (find test rows)
only_one test [] lone = refl
only_one test (row ∷ rows) lone = step (test row) lone.0 (only_one test rows lone.1)
  where
    step : (b : Bool) → (b ≡ true → filter test rows ≡ []) → filter test rows ≡ option_to_list (find test rows)
        → cond b (row ∷ filter test rows) (filter test rows) ≡ option_to_list (cond b (Some row) (find test rows))
    step true none rest = ap (λ (left : Rows). row ∷ left) (none refl)
    step false none rest = rest

none_left : (test : List Value → Bool) (rows : Rows) → list_all (λ row. not (test row)) rows ≡ true → filter test rows ≡ []
none_left test [] none = refl
none_left test (row ∷ rows) none =
    let both = and_parts (not (test row)) (list_all (λ row. not (test row)) rows) none in step (test row) both.0 (none_left test rows both.1)
  where
    step : (b : Bool) → not b ≡ true → filter test rows ≡ [] → cond b (row ∷ filter test rows) (filter test rows) ≡ []
    step true e rest = cc
    step false e rest = rest

all_follow : (p q : List Value → Bool) → ((row : List Value) → p row ≡ true → q row ≡ true) → (rows : Rows) → list_all p rows ≡ true → list_all q rows ≡ true
all_follow p q follows [] all = refl
all_follow p q follows (row ∷ rows) all =
    let both = and_parts (p row) (list_all p rows) all in ap (λ (b : Bool). b && list_all q rows) (follows row both.0) ∙ all_follow p q follows rows both.1

-- ---- the primary key

less_unequal : (o : Ordering) → is_lt o ≡ true → not (is_eq o) ≡ true
less_unequal orders.Less e = refl
less_unequal orders.Equal e = cc
less_unequal orders.Greater e = cc

pub key_is_lone : (d : TableDef) (key : List Value) (rows : Rows) → rise d rows ≡ true → IsLone (has_key d key) rows
key_is_lone d key [] rising = tt
key_is_lone d key (row ∷ rows) rising =
    let both = and_parts (list_all (is_below d row) rows) (rise d rows) rising in (
      λ here. none_left (has_key d key) rows (all_follow (is_below d row) (λ later. not (has_key d key later)) (λ later below.
          subst (λ (k : List Value). not (is_eq (key_order k (primary_key d later))) ≡ true) (sym (same_is key (primary_key d row) here)) (less_unequal (key_order (primary_key d row) (primary_key d later)) below)) rows both.0),
      key_is_lone d key rows both.1,
    )

pub keys_are_enough : KeysAreEnough
keys_are_enough world frame table condition key scene named kept =
    values_are_enough world frame table.definition condition table.definition.primary key table.rows scene named kept.fit
    ∙ ap (λ (rows : Rows). kept_by (kept_where world frame table.definition condition) rows scene)
    (only_one (has_key table.definition key) table.rows (key_is_lone table.definition key table.rows kept.rising))

-- ---- facts have values that are not NULL

abbrev AreValues : List Fact → Type 0
AreValues facts = AllByRecursion (λ (fact : Fact). is_null fact.value ≡ false) facts

abbrev HasValues : Known → Type 0
HasValues k = AreValues k.facts × AreValues k.kept

joined : (xs ys : List Fact) → AreValues xs → AreValues ys → AreValues (xs ++ ys)
joined [] ys left right = right
joined (x ∷ xs) ys left right = (left.0, joined xs ys left.1 right)

either_of : (test : Bool) (xs ys : List Fact) → AreValues xs → AreValues ys → AreValues (cond test xs ys)
either_of true xs ys left right = left
either_of false xs ys left right = right

both_values : (k l : Known) → HasValues k → HasValues l → HasValues (both_known k l)
both_values k l left right = (
  joined k.facts (cond k.quiet l.facts []) left.0 (either_of k.quiet l.facts [] right.0 tt),
  joined (cond l.quiet k.kept k.facts) (cond k.quiet l.kept []) (either_of l.quiet k.kept k.facts left.1 left.0) (either_of k.quiet l.kept [] right.1 tt),
)

said_values : (sure : Bool) (fact : Fact) → is_null fact.value ≡ false → HasValues (says sure fact)
said_values true fact there = ((there, tt), (there, tt))
said_values false fact there = (tt, (there, tt))

beside_values : (op : BinOp) (way : Way) (place : ℕ) (c : ColumnDef) (v : Value) → HasValues (column_beside op way place c v)
beside_values op way place c Null = (tt, tt)
beside_values op way place c (Int n) = said_values (is_sure op c) (record { place = place; way = way; value = Int n }) refl
beside_values op way place c (Text t) = said_values (is_sure op c) (record { place = place; way = way; value = Text t }) refl

sides_values : (op : BinOp) (way : Way) (a b : Side) → HasValues (sides_compared op way a b)
sides_values op way (of_column place c) (of_column other d) = (tt, tt)
sides_values op way (of_column place c) (standing v) = beside_values op way place c v
sides_values op way (standing v) (of_column place c) = beside_values op (turned way) place c v
sides_values op way (standing v) (standing w) = (tt, tt)

when_values : (compares : Bool) (k : Known) → HasValues k → HasValues (cond compares k nothing_known)
when_values true k values = values
when_values false k values = (tt, tt)

compared_values : (op : BinOp) (way : Option Way) (a b : Option Side) → HasValues (compared op way a b)
compared_values op None a b = (tt, tt)
compared_values op (Some way) None b = (tt, tt)
compared_values op (Some way) (Some a) None = (tt, tt)
compared_values op (Some way) (Some a) (Some b) = when_values (do_compare (kind_of a) (kind_of b)) (sides_compared op way a b) (sides_values op way a b)

operator_values : (op : BinOp) (k l c : Known) → HasValues k → HasValues l → HasValues c → HasValues (operator_known op k l c)
operator_values Or k l c left right own = (tt, tt)
operator_values And k l c left right own = both_values k l left right
operator_values Equal k l c left right own = own
operator_values NullSafeEqual k l c left right own = own
operator_values NotEqual k l c left right own = own
operator_values Less k l c left right own = own
operator_values LessOrEqual k l c left right own = own
operator_values Greater k l c left right own = own
operator_values GreaterOrEqual k l c left right own = own
operator_values Add k l c left right own = own
operator_values Subtract k l c left right own = own
operator_values Multiply k l c left right own = own
operator_values Divide k l c left right own = own
operator_values Modulo k l c left right own = own

side_values : (side : Option Side) → HasValues (side_known side)
side_values None = (tt, tt)
side_values (Some side) = (tt, tt)

unary_values : (op : UnOp) (k : Known) (a whole : Option Side) → HasValues (unary_known op k a whole)
unary_values Negate k a whole = side_values whole
unary_values Not k a whole = (tt, tt)
unary_values IsNull k a whole = (tt, tt)
unary_values IsNotNull k a whole = (tt, tt)

known_values : (world : World) (frame : Frame) (d : TableDef) (t : Tree) → HasValues (known world frame d t)
known_values world frame d (unary op a) = unary_values op (known world frame d a) (side_of world frame d a) (side_of world frame d (unary op a))
known_values world frame d (binary op a b) =
    operator_values op (known world frame d a) (known world frame d b) (compared op (way_of op) (side_of world frame d a) (side_of world frame d b))
    (known_values world frame d a) (known_values world frame d b) (compared_values op (way_of op) (side_of world frame d a) (side_of world frame d b))
known_values world frame d (literal v) = side_values (side_of world frame d (literal v))
known_values world frame d (name n) = side_values (side_of world frame d (name n))
known_values world frame d (column t c) = side_values (side_of world frame d (column t c))
known_values world frame d (new_column c) = side_values (side_of world frame d (new_column c))
known_values world frame d (old_column c) = side_values (side_of world frame d (old_column c))
known_values world frame d (user_variable n) = side_values (side_of world frame d (user_variable n))
known_values world frame d (values_of c) = side_values (side_of world frame d (values_of c))
known_values world frame d (name_const n v) = side_values (side_of world frame d (name_const n v))
known_values world frame d (system_variable n) = (tt, tt)
known_values world frame d (is_in negated a ts) = (tt, tt)
known_values world frame d (choice arms o) = (tt, tt)
known_values world frame d (subquery q) = (tt, tt)
known_values world frame d (exists q) = (tt, tt)
known_values world frame d (call n ts) = (tt, tt)
known_values world frame d (floor_rand a) = (tt, tt)
known_values world frame d (built_in f ts) = (tt, tt)

facts_are_values : (world : World) (frame : Frame) (d : TableDef) (condition : Part) → AreValues (facts_of world frame d condition)
facts_are_values world frame d no_part = tt
facts_are_values world frame d (part t) = (known_values world frame d t).1

named_is_value : (facts : List Fact) (place : ℕ) (v : Value) → AreValues facts → named_value facts place ≡ Some v → is_null v ≡ false
named_is_value [] place v values named = cc
named_is_value (fact ∷ facts) place v values named = step (names place fact) named (λ later. named_is_value facts place v values.1 later)
  where
    step : (here : Bool) → cond here (Some fact.value) (named_value facts place) ≡ Some v → (named_value facts place ≡ Some v → is_null v ≡ false) → is_null v ≡ false
    step true named later = subst (λ (x : Value). is_null x ≡ false) (some_is fact.value v named) values.0
    step false named later = later named

values_step : (first : Option Value) (rest : Option (List Value)) (key : List Value) → option_and_then (λ v. option_map (λ (vs : List Value). v ∷ vs) rest) first ≡ Some key
    → ((v : Value) → first ≡ Some v → is_null v ≡ false) → ((vs : List Value) → rest ≡ Some vs → list_any is_null vs ≡ false) → list_any is_null key ≡ false
values_step None rest key e one more = cc
values_step (Some v) None key e one more = cc
values_step (Some v) (Some vs) key e one more =
    ap (list_any is_null) (sym (some_is (v ∷ vs) key e)) ∙ ap (λ (b : Bool). b || list_any is_null vs) (one v refl) ∙ more vs refl

no_null_named : (facts : List Fact) (places : List ℕ) (key : List Value) → AreValues facts → key_named facts places ≡ Some key → list_any is_null key ≡ false
no_null_named facts [] key values e = ap (list_any is_null) (sym (some_is [] key e))
no_null_named facts (place ∷ places) key values e =
    values_step (named_value facts place) (key_named facts places) key e (λ v at. named_is_value facts place v values at) (λ vs others. no_null_named facts places vs values others)

-- ---- a unique key

any_at : {A : Type 0} (p : A → Bool) (xs : List A) (place : ℕ) (x : A) → slice_get xs place ≡ Some x → list_any p xs ≡ false → p x ≡ false
any_at p [] place x at none = cc
any_at p (y ∷ ys) zero x at none = ap p (sym (some_is y x at)) ∙ (or_parts (p y) (list_any p ys) none).0
any_at p (y ∷ ys) (suc place) x at none = any_at p ys place x at (or_parts (p y) (list_any p ys) none).1

not_true : (b : Bool) → not b ≡ true → b ≡ false
not_true true e = cc
not_true false e = refl

-- rows that are apart do not both have the values of a unique key
others_differ : (d : TableDef) (place : ℕ) (key : KeyDef) (values row later : List Value) → slice_get d.uniques place ≡ Some key → list_any is_null values ≡ false
    → values ≡ values_at key.columns row → not (collide d row later) ≡ true → not (has_values key.columns values later) ≡ true
others_differ d place key values row later at there own apart =
    let parts = or_parts (same_values (primary_key d row) (primary_key d later)) (list_any (agree_on row later) d.uniques) (not_true (collide d row later) apart) in
    let differ : agree_on row later key ≡ false = any_at (agree_on row later) d.uniques place key at parts.1 in
    let same : not (list_any is_null values) && same_values values (values_at key.columns later) ≡ false =
    subst (λ (vs : List Value). not (list_any is_null vs) && same_values vs (values_at key.columns later) ≡ false) (sym own) differ in
    ap not (ap (λ (b : Bool). not b && same_values values (values_at key.columns later)) (sym there) ∙ same)

pub value_is_lone : (d : TableDef) (place : ℕ) (key : KeyDef) (values : List Value) (rows : Rows) → slice_get d.uniques place ≡ Some key → list_any is_null values ≡ false → are_apart d rows ≡ true
    → IsLone (has_values key.columns values) rows
value_is_lone d place key values [] at there apart = tt
value_is_lone d place key values (row ∷ rows) at there apart =
    let both = and_parts (list_all (λ later. not (collide d row later)) rows) (are_apart d rows) apart in (
      λ here. none_left (has_values key.columns values) rows (all_follow (λ later. not (collide d row later)) (λ later. not (has_values key.columns values later))
          (λ later. others_differ d place key values row later at there (same_is values (values_at key.columns row) here)) rows both.0),
      value_is_lone d place key values rows at there both.1,
    )

pub unique_keys_are_enough : UniqueKeysAreEnough
unique_keys_are_enough world frame table condition place key values scene at named kept =
    let there : list_any is_null values ≡ false =
    no_null_named (facts_of world frame table.definition condition) key.columns values (facts_are_values world frame table.definition condition) named in
    values_are_enough world frame table.definition condition key.columns values table.rows scene named kept.fit
    ∙ ap (λ (rows : Rows). kept_by (kept_where world frame table.definition condition) rows scene)
    (only_one (has_values key.columns values) table.rows (value_is_lone table.definition place key values table.rows at there kept.apart)
    ∙ ap (λ (b : Bool). option_to_list (find (λ row. not b && same_values values (values_at key.columns row)) table.rows)) (sym there))
