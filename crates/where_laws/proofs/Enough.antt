-- Which rows need not be looked at.
use Rattle.std.proofs.Common.{◌≡◌, ℕ, List, [], ◌∷◌, Bool, true, false, cond, Option, Some, None, Result, Ordering, refl, sym, ap, ◌∙◌, arith}
use Rattle.std.specs.Prelude.{slice_index_or, ◌==◌}
use Rattle.std.specs.List.{list_all}
use Rattle.std.specs.Option.{option_map, option_and_then}
use Rattle.std.specs.Ordering.{is_eq}
use Rattle.std.specs.declared.cmp.Ordering.TheVariants as orders
use Rattle.std.proofs.lemmas.Bool.{and_parts, true≢false}
use Rattle.std.proofs.lemmas.Bool.Decides.{nat_tests}
use Rattle.val_types.specs.declared.value.Value.{Value}
use Rattle.val_types.specs.declared.value.Value.TheVariants.{Null}
use Rattle.val_types.specs.declared.definitions.TableDef.{TableDef}
use Rattle.val_types.specs.Fitting.{row_fits}
use Rattle.val_types.specs.Keys.{values_at, same_values}
use Rattle.val_types.specs.Order.{value_order}
use Rattle.val_types.proofs.Values.{value_exact}
use Rattle.table_rules.proofs.Taking.{same_self}
use Rattle.value_rules.specs.Functions.{is_known_true}
use Rattle.sql_tree.specs.Tree.{Part, no_part, part}
use Rattle.sql_meaning.specs.Scenes.{Scene, Ending, done, then_do, answered, pure}
use Rattle.sql_meaning.specs.Frames.{World, Frame, sees}
use Rattle.sql_meaning.specs.Values.{value, holds}
use Rattle.where_laws.specs.Facts.{Way, equal, unequal, below, at_most, above, at_least, stands_so, Fact, is_so, agrees}
use Rattle.where_laws.specs.Keys.{is_equality, names, named_value, key_named, has_values, facts_at}
use Rattle.where_laws.specs.Known.{facts_of}
use Rattle.where_laws.specs.Leaving.{IsQuietlyFalse, AreQuietBeside}
use Rattle.where_laws.specs.Laws.{GivesTruth, kept_where, FactsAreEnough, RangesAreEnough, ValuesAreEnough}
use Rattle.where_laws.proofs.Leaving.{left_out}
use Rattle.where_laws.proofs.Facts.{agrees_at}
use Rattle.where_laws.proofs.Sides.{some_is}
use Rattle.where_laws.proofs.Known.{known_is_so}

-- ---- rows of which the facts are not so

untrue : (scene : Scene) (p : Option Bool) (e : Ending Value) → GivesTruth scene p e → is_known_true p ≡ false → then_do e holds ≡ done false scene
untrue scene p e gives not_true =
    ap (λ (e : Ending Value). then_do e holds) gives.ends
    ∙ ap (λ (r : Result (Option Bool) ℕ). then_do (answered r scene) (λ t. pure (is_known_true t))) gives.is
    ∙ ap (λ (b : Bool). done b scene) not_true

dropped : (world : World) (frame : Frame) (d : TableDef) (condition : Part) (row : List Value) → row_fits d.columns row ≡ true → agrees (facts_of world frame d condition) row ≡ false
    → IsQuietlyFalse (kept_where world frame d condition row)
dropped world frame d no_part row fits other = cc
dropped world frame d (part t) row fits other = record {
  ends = λ scene.
      let p = (known_is_so world frame d t).keeps.gives row scene fits other in
      untrue scene p.0 (value world (sees d row frame) t scene) p.2 p.1;
}

disagrees : (a b : Bool) → (a ≡ true → b ≡ true) → b ≡ false → a ≡ false
disagrees true b only none = absurd (true≢false (sym (only refl) ∙ none))
disagrees false b only none = refl

all_dropped : (world : World) (frame : Frame) (d : TableDef) (condition : Part) (stays : List Value → Bool) (rows : List (List Value))
    → ((row : List Value) → agrees (facts_of world frame d condition) row ≡ true → stays row ≡ true) → list_all (row_fits d.columns) rows ≡ true
    → AreQuietBeside stays (kept_where world frame d condition) rows
all_dropped world frame d condition stays [] only fits = tt
all_dropped world frame d condition stays (row ∷ rows) only fits =
    let both = and_parts (row_fits d.columns row) (list_all (row_fits d.columns) rows) fits in (
      λ none. dropped world frame d condition row both.0 (disagrees (agrees (facts_of world frame d condition) row) (stays row) (only row) none),
      all_dropped world frame d condition stays rows only both.1,
    )

pub facts_are_enough : FactsAreEnough
facts_are_enough world frame d condition stays rows scene only fits =
    left_out stays (kept_where world frame d condition) rows (all_dropped world frame d condition stays rows only fits) scene

pub ranges_are_enough : RangesAreEnough
ranges_are_enough world frame d condition place rows scene fits =
    facts_are_enough world frame d condition (agrees (facts_at place (facts_of world frame d condition))) rows scene (λ row. agrees_at place (facts_of world frame d condition) row) fits

-- ---- keys that facts name

pub equal_is : (a b : Value) → is_eq (value_order a b) ≡ true → a ≡ b
equal_is a b e = value_exact a b (eq_is (value_order a b) e)
  where
    eq_is : (o : Ordering) → is_eq o ≡ true → o ≡ orders.Equal
    eq_is orders.Less h = cc
    eq_is orders.Equal h = refl
    eq_is orders.Greater h = cc

equal_way : (way : Way) (a b : Value) → is_equality way ≡ true → stands_so way (value_order a b) ≡ true → a ≡ b
equal_way equal a b e so = equal_is a b so
equal_way unequal a b e so = cc
equal_way below a b e so = cc
equal_way at_most a b e so = cc
equal_way above a b e so = cc
equal_way at_least a b e so = cc

-- a row that agrees has the value that is named for a column
has_value : (facts : List Fact) (place : ℕ) (v : Value) (row : List Value) → agrees facts row ≡ true → named_value facts place ≡ Some v → slice_index_or row place Null ≡ v
has_value [] place v row agree named = cc
has_value (fact ∷ facts) place v row agree named =
    let both = and_parts (is_so fact row) (agrees facts row) agree in
    step (names place fact) refl both.0 named (λ later. has_value facts place v row both.1 later)
  where
    place_is : (m n : ℕ) → (m == n) ≡ true → m ≡ n
    place_is m n h = grind (arith, nat_tests)

    step : (here : Bool) → names place fact ≡ here → is_so fact row ≡ true → cond here (Some fact.value) (named_value facts place) ≡ Some v
        → (named_value facts place ≡ Some v → slice_index_or row place Null ≡ v) → slice_index_or row place Null ≡ v
    step true same so named later =
        let parts = and_parts (fact.place == place) (is_equality fact.way) same in
        ap (λ (k : ℕ). slice_index_or row k Null) (sym (place_is fact.place place parts.0))
        ∙ equal_way fact.way (slice_index_or row fact.place Null) fact.value parts.1 so ∙ some_is fact.value v named
    step false same so named later = later named

-- so it has the key that is named
key_step : (facts : List Fact) (row : List Value) (place : ℕ) (places : List ℕ) (key : List Value) (first : Option Value) (rest : Option (List Value)) → named_value facts place ≡ first → key_named facts places ≡ rest
    → option_and_then (λ v. option_map (λ (vs : List Value). v ∷ vs) rest) first ≡ Some key
    → ((v : Value) → named_value facts place ≡ Some v → slice_index_or row place Null ≡ v)
    → ((vs : List Value) → key_named facts places ≡ Some vs → values_at places row ≡ vs) → values_at (place ∷ places) row ≡ key
key_step facts row place places key None rest at others e one more = cc
key_step facts row place places key (Some v) None at others e one more = cc
key_step facts row place places key (Some v) (Some vs) at others e one more =
    ap (λ (x : Value). x ∷ values_at places row) (one v at) ∙ ap (λ (k : List Value). v ∷ k) (more vs others) ∙ some_is (v ∷ vs) key e

has_key_named : (facts : List Fact) (places : List ℕ) (key row : List Value) → agrees facts row ≡ true → key_named facts places ≡ Some key → values_at places row ≡ key
has_key_named facts [] key row agree e = some_is [] key e
has_key_named facts (place ∷ places) key row agree e =
    key_step facts row place places key (named_value facts place) (key_named facts places) refl refl e
    (λ v at. has_value facts place v row agree at) (λ vs others. has_key_named facts places vs row agree others)

pub values_are_enough : ValuesAreEnough
values_are_enough world frame d condition places key rows scene named fits =
    facts_are_enough world frame d condition (has_values places key) rows scene
    (λ row agree. ap (same_values key) (has_key_named (facts_of world frame d condition) places key row agree named) ∙ same_self key) fits
