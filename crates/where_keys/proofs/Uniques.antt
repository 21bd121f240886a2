-- Where a condition names each column of a unique key, only the row of these values need be looked at.
use Rattle.std.proofs.Common.{◌≡◌, ℕ, List, [], ◌∷◌, Bool, true, false, not, ◌&&◌, ◌||◌, cond, Option, Some, None, refl, sym, ap, ◌∙◌}
use Rattle.std.specs.Prelude.{◌==◌, option_to_list}
use Rattle.std.specs.List.{list_any, find}
use Rattle.std.specs.Option.{option_map, option_and_then}
use Rattle.std.proofs.lemmas.Bool.{and_parts}
use Rattle.val_types.specs.declared.value.Value.{Value}
use Rattle.val_types.specs.declared.definitions.ColumnDef.{ColumnDef}
use Rattle.val_types.specs.declared.definitions.TableDef.{TableDef}
use Rattle.val_types.specs.declared.ops.BinOp.{BinOp}
use Rattle.val_types.specs.declared.ops.BinOp.TheVariants.{Or, And, Equal, NullSafeEqual, NotEqual, Less, LessOrEqual, Greater, GreaterOrEqual, Add, Subtract, Multiply, Divide, Modulo}
use Rattle.val_types.specs.Fitting.{is_null}
use Rattle.val_types.specs.Keys.{values_at, same_values}
use Rattle.table_rules.proofs.Taking.{same_self}
use Rattle.sql_tree.specs.Tree.{Tree, literal, name, column, new_column, old_column, user_variable, system_variable, unary, binary, is_in, choice, subquery, exists, call, built_in, values_of, name_const, floor_rand, part}
use Rattle.session_ctx.specs.sql_meaning.Scenes.{kept_by}
use Rattle.where_laws.specs.Keys.{has_values}
use Rattle.where_laws.specs.Sides.{Side, of_column, standing}
use Rattle.where_laws.specs.Laws.{kept_where}
use Rattle.where_laws.proofs.Sides.{some_is}
use Rattle.where_laws.proofs.Enough.{facts_are_enough}
use Rattle.where_laws.proofs.Single.{only_one, value_is_lone}
use Rattle.where_keys.specs.declared.outside.Outside.{Outside}
use Rattle.where_keys.specs.Sides.{side_in, sides_compare}
use Rattle.where_keys.specs.Keys.{quiet_in, Look, found, calm, stopped, calm_if, followed, column_look, equal_look, sides_look, operator_look, look_in, value_found, key_in}
use Rattle.where_keys.specs.Laws.{NamedUniqueKeysAreEnough}
use Rattle.where_keys.proofs.Named.{key_so}

-- ---- a value that is said of a column is not NULL

abbrev IsValue : Look → Type 0
IsValue (found v) = is_null v ≡ false
IsValue calm = Unit {0}
IsValue stopped = Unit {0}

not_true : (b : Bool) → not b ≡ true → b ≡ false
not_true true e = cc
not_true false e = refl

calm_value : (quiet : Bool) → IsValue (calm_if quiet)
calm_value true = tt
calm_value false = tt

followed_value : (a b : Look) → IsValue a → IsValue b → IsValue (followed a b)
followed_value (found v) b left right = left
followed_value calm b left right = right
followed_value stopped b left right = tt

column_value : (place at : ℕ) (c : ColumnDef) (v : Value) → IsValue (column_look place at c v)
column_value place at c v = step (at == place && not c.nullable && not (is_null v)) refl
  where
    step : (here : Bool) → at == place && not c.nullable && not (is_null v) ≡ here → IsValue (cond here (found v) calm)
    step true e = not_true (is_null v) (and_parts (at == place && not c.nullable) (not (is_null v)) e).1
    step false e = tt

equal_value : (place : ℕ) (a b : Side) → IsValue (equal_look place a b)
equal_value place (of_column at c) (of_column other d) = tt
equal_value place (of_column at c) (standing v) = column_value place at c v
equal_value place (standing v) (of_column at c) = column_value place at c v
equal_value place (standing v) (standing w) = tt

sides_value : (place : ℕ) (a b : Option Side) → IsValue (sides_look place a b)
sides_value place None b = tt
sides_value place (Some x) None = tt
sides_value place (Some x) (Some y) = step (sides_compare x y)
  where
    step : (compares : Bool) → IsValue (cond compares (equal_look place x y) stopped)
    step true = equal_value place x y
    step false = tt

operator_value : (op : BinOp) (a b sides : Look) (quiet : Bool) → IsValue a → IsValue b → IsValue sides → IsValue (operator_look op a b sides quiet)
operator_value And a b sides quiet left right own = followed_value a b left right
operator_value Equal a b sides quiet left right own = own
operator_value NullSafeEqual a b sides quiet left right own = own
operator_value Or a b sides quiet left right own = calm_value quiet
operator_value NotEqual a b sides quiet left right own = calm_value quiet
operator_value Less a b sides quiet left right own = calm_value quiet
operator_value LessOrEqual a b sides quiet left right own = calm_value quiet
operator_value Greater a b sides quiet left right own = calm_value quiet
operator_value GreaterOrEqual a b sides quiet left right own = calm_value quiet
operator_value Add a b sides quiet left right own = calm_value quiet
operator_value Subtract a b sides quiet left right own = calm_value quiet
operator_value Multiply a b sides quiet left right own = calm_value quiet
operator_value Divide a b sides quiet left right own = calm_value quiet
operator_value Modulo a b sides quiet left right own = calm_value quiet

look_value : (o : Outside) (d : TableDef) (place : ℕ) (t : Tree) → IsValue (look_in o d place t)
look_value o d place (binary op a b) =
    operator_value op (look_in o d place a) (look_in o d place b) (sides_look place (side_in o d a) (side_in o d b)) (quiet_in o d (binary op a b))
    (look_value o d place a) (look_value o d place b) (sides_value place (side_in o d a) (side_in o d b))
look_value o d place (unary op a) = calm_value (quiet_in o d (unary op a))
look_value o d place (literal v) = calm_value (quiet_in o d (literal v))
look_value o d place (name n) = calm_value (quiet_in o d (name n))
look_value o d place (column t c) = calm_value (quiet_in o d (column t c))
look_value o d place (new_column c) = calm_value (quiet_in o d (new_column c))
look_value o d place (old_column c) = calm_value (quiet_in o d (old_column c))
look_value o d place (user_variable n) = calm_value (quiet_in o d (user_variable n))
look_value o d place (name_const n v) = calm_value (quiet_in o d (name_const n v))
look_value o d place (values_of c) = calm_value (quiet_in o d (values_of c))
look_value o d place (system_variable n) = calm_value (quiet_in o d (system_variable n))
look_value o d place (is_in negated a ts) = calm_value (quiet_in o d (is_in negated a ts))
look_value o d place (choice arms p) = calm_value (quiet_in o d (choice arms p))
look_value o d place (subquery q) = calm_value (quiet_in o d (subquery q))
look_value o d place (exists q) = calm_value (quiet_in o d (exists q))
look_value o d place (call n ts) = calm_value (quiet_in o d (call n ts))
look_value o d place (floor_rand a) = calm_value (quiet_in o d (floor_rand a))
look_value o d place (built_in g ts) = calm_value (quiet_in o d (built_in g ts))

values_step : (look : Look) (rest : Option (List Value)) (key : List Value) → IsValue look → ((vs : List Value) → rest ≡ Some vs → list_any is_null vs ≡ false)
    → option_and_then (λ v. option_map (λ (vs : List Value). v ∷ vs) rest) (value_found look) ≡ Some key → list_any is_null key ≡ false
values_step calm rest key so more e = cc
values_step stopped rest key so more e = cc
values_step (found v) None key so more e = cc
values_step (found v) (Some vs) key so more e =
    ap (list_any is_null) (sym (some_is (v ∷ vs) key e)) ∙ ap (λ (b : Bool). b || list_any is_null vs) so ∙ more vs refl

no_null_named : (o : Outside) (d : TableDef) (t : Tree) (places : List ℕ) (key : List Value) → key_in o d t places ≡ Some key → list_any is_null key ≡ false
no_null_named o d t [] key e = ap (list_any is_null) (sym (some_is [] key e))
no_null_named o d t (place ∷ places) key e =
    values_step (look_in o d place t) (key_in o d t places) key (look_value o d place t) (λ vs others. no_null_named o d t places vs others) e

-- ---- a unique key

pub named_unique_keys_are_enough : NamedUniqueKeysAreEnough
named_unique_keys_are_enough o d t place key values at named = record {
  gives = λ w f round rows kept scene.
      let there : list_any is_null values ≡ false = no_null_named o d t key.columns values named in
      facts_are_enough w f d (part t) (has_values key.columns values) rows scene
      (λ row agree. ap (same_values values) (key_so o w f d t row key.columns values round agree named) ∙ same_self values) kept.fit
      ∙ ap (λ (left : List (List Value)). kept_by (kept_where w f d (part t)) left scene)
      (only_one (has_values key.columns values) rows (value_is_lone d place key values rows at there kept.apart)
      ∙ ap (λ (b : Bool). option_to_list (find (λ row. not b && same_values values (values_at key.columns row)) rows)) (sym there));
}
