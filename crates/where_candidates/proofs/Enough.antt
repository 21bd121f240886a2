-- Rows that are all that a WHERE has to look at.
use Rattle.std.proofs.Common.{◌≡◌, ℕ, zero, suc, List, [], ◌∷◌, Option, Some, None, map, refl, sym, ap, ◌∙◌, arith}
use Rattle.std.specs.Prelude.{◌&&◌, ◌||◌, Bool, true, false, is_some, filter, slice_get, option_to_list, Result, Ok, Err, IfOk}
use Rattle.std.specs.Option.{option_map, option_and_then, option_map_or}
use Rattle.val_types.specs.declared.value.Value.{Value}
use Rattle.val_types.specs.declared.definitions.TableDef.{TableDef}
use Rattle.table_rules.specs.Tables.{Table, IsKept}
use Rattle.table_rules.specs.Stored.{table_named, row_at, rows_of, row_of_key, row_of_values}
use Rattle.row_store.specs.Found.{found_with}
use Rattle.value_ranges.specs.Ranges.{Bound, Range, has_end, is_from, is_to}
use Rattle.value_ranges.specs.Keys.{first_of, row_is_in}
use Rattle.val_types.specs.Keys.{primary_key}
use Rattle.table_rules.specs.Stores.{place_of, definitions_of, Store, IsWhole}
use Rattle.table_rules.proofs.Places.{place_is_of_name, none_named}
use Rattle.table_rules.proofs.Storing.{named_kept}
use Rattle.sql_tree.specs.Tree.{Tree, Part, no_part, part}
use Rattle.where_ranges.specs.where_keys.sql_meaning.Scenes.{kept_by}
use Rattle.where_ranges.specs.where_keys.where_laws.Laws.{kept_where}
use Rattle.where_ranges.specs.where_keys.declared.outside.Outside.{Outside}
use Rattle.where_ranges.specs.where_keys.Keys.{key_in}
use Rattle.where_ranges.proofs.of_where_keys.Named.{named_keys_are_enough}
use Rattle.where_ranges.proofs.of_where_keys.Uniques.{named_unique_keys_are_enough}
use Rattle.where_ranges.specs.Saying.{key_range}
use Rattle.where_ranges.proofs.Named.{named_ranges_are_enough}
use Rattle.where_candidates.specs.declared.seeing.Named.{Named}
use Rattle.where_candidates.specs.Candidates.{AreCandidates, first_named, key_of_part, unique_of_part, range_of_part}
use Rattle.where_candidates.proofs.Uniques.{IsNamed, is_named, row_is}

-- ---- the table of a name, at its place

get_mapped : {X Y : Type 0} (f : X → Y) (xs : List X) (i : ℕ) → slice_get (map f xs) i ≡ option_map f (slice_get xs i)
get_mapped f [] i = refl
get_mapped f (x ∷ xs) zero = refl
get_mapped f (x ∷ xs) (suc i) = get_mapped f xs i

definition_there : (name : List ℕ) (tables : List Table) (at : ℕ) → place_of name tables ≡ Some at
    → slice_get (definitions_of tables) at ≡ option_map (λ (t : Table). t.definition) (table_named name tables)
definition_there name tables at place =
    get_mapped (λ (t : Table). t.definition) tables at ∙ ap (option_map (λ (t : Table). t.definition)) (place_is_of_name name tables at place)

-- nothing is there
no_definition : (found : Option Table) → option_map (λ (t : Table). t.definition) found ≡ None → found ≡ None
no_definition None e = refl
no_definition (Some t) e = cc

pub not_at : (name : List ℕ) (tables : List Table) (at : ℕ) → place_of name tables ≡ Some at → slice_get (definitions_of tables) at ≡ None → table_named name tables ≡ None
not_at name tables at place none = no_definition (table_named name tables) (sym (definition_there name tables at place) ∙ none)

pub not_placed : (name : List ℕ) (tables : List Table) → place_of name tables ≡ None → table_named name tables ≡ None
not_placed name tables e = none_named name tables e

-- it has its definition and its rows, is kept, and has the row of a key
table_is : (d : TableDef) (found : Option Table) → option_map (λ (t : Table). t.definition) found ≡ Some d
    → found ≡ Some (record { definition = d; rows = option_map_or (λ (t : Table). t.rows) found [] })
table_is d None here = cc
table_is d (Some t) here = let same : t.definition ≡ d = cc in ap (λ (e : TableDef). Some (record { definition = e; rows = t.rows })) same

pub table_there : (name : List ℕ) (d : TableDef) (tables : List Table) (at : ℕ) → place_of name tables ≡ Some at → slice_get (definitions_of tables) at ≡ Some d
    → table_named name tables ≡ Some (record { definition = d; rows = rows_of name tables })
table_there name d tables at place there = table_is d (table_named name tables) (sym (definition_there name tables at place) ∙ there)

kept_there : (d : TableDef) (found : Option Table) → option_map (λ (t : Table). t.definition) found ≡ Some d → ((t : Table) → found ≡ Some t → IsKept t)
    → IsKept (record { definition = d; rows = option_map_or (λ (t : Table). t.rows) found [] })
kept_there d found here kept = kept (record { definition = d; rows = option_map_or (λ (t : Table). t.rows) found [] }) (table_is d found here)

row_there : (key : List Value) (d : TableDef) (found : Option Table) → option_map (λ (t : Table). t.definition) found ≡ Some d
    → option_and_then (λ (t : Table). row_of_key t.definition key t.rows) found ≡ row_of_key d key (option_map_or (λ (t : Table). t.rows) found [])
row_there key d None here = cc
row_there key d (Some t) here = let same : t.definition ≡ d = cc in ap (λ (e : TableDef). row_of_key e key t.rows) same

-- ---- candidates

-- all rows are within a range without ends
open_all : (d : TableDef) (range : Range) (row : List Value) → has_end range ≡ false → row_is_in d range row ≡ true
open_all d range row endless = step range.low range.high endless
  where
    step : (low high : Option Bound) → (is_some low || is_some high) ≡ false
        → (is_from low (first_of (primary_key d row)) && is_to high (first_of (primary_key d row))) ≡ true
    step None None e = refl
    step None (Some b) e = cc
    step (Some a) high e = cc

all_within : (d : TableDef) (range : Range) (rows : List (List Value)) → has_end range ≡ false → filter (row_is_in d range) rows ≡ rows
all_within d range [] endless = refl
all_within d range (row ∷ rows) endless = rw (open_all d range row endless) (ap (λ (rest : List (List Value)). row ∷ rest) (all_within d range rows endless))

-- all rows are enough
all_so : (o : Outside) (name : List ℕ) (d : TableDef) (p : Part) (tables : List Table) (at : ℕ) (rows : List (List Value)) → key_of_part o d p ≡ None → unique_of_part o d p ≡ None → has_end (range_of_part o d p) ≡ false
    → place_of name tables ≡ Some at → slice_get (definitions_of tables) at ≡ Some d → rows ≡ rows_of name tables → AreCandidates o name d p tables rows
all_so o name d p tables at rows none nothing endless place there is = record {
  all = rows_of name tables;
  there = table_is d (table_named name tables) (sym (definition_there name tables at place) ∙ there);
  enough = λ world frame round scene. ap (λ (left : List (List Value)). kept_by (kept_where world frame d p) left scene) (sym is);
  alone = λ key named. cc;
  lone = λ named first so. cc;
  within = λ no so. is ∙ sym (all_within d (range_of_part o d p) (rows_of name tables) endless);
}

pub without_so : (o : Outside) (name : List ℕ) (d : TableDef) (tables : List Table) (at : ℕ) (rows : List (List Value)) → place_of name tables ≡ Some at
    → slice_get (definitions_of tables) at ≡ Some d → rows ≡ rows_of name tables → AreCandidates o name d no_part tables rows
without_so o name d tables at rows place there is = all_so o name d no_part tables at rows refl refl refl place there is

pub unkeyed_so : (o : Outside) (name : List ℕ) (d : TableDef) (t : Tree) (tables : List Table) (at : ℕ) (rows : List (List Value)) → key_in o d t d.primary ≡ None → first_named o d t 1 d.uniques ≡ None
    → has_end (key_range o d t) ≡ false → place_of name tables ≡ Some at → slice_get (definitions_of tables) at ≡ Some d → rows ≡ rows_of name tables → AreCandidates o name d (part t) tables rows
unkeyed_so o name d t tables at rows none nothing endless place there is = all_so o name d (part t) tables at rows none nothing endless place there is

some_is : (a b : List Value) → Some a ≡ Some b → a ≡ b
some_is a b e = cc

-- so is the row of a key that the condition names
pub keyed_so : (o : Outside) (name : List ℕ) (d : TableDef) (t : Tree) (store : Store) (at : ℕ) (key : List Value) (rows : List (List Value)) → IsWhole store
    → place_of name store.tables ≡ Some at → slice_get (definitions_of store.tables) at ≡ Some d → key_in o d t d.primary ≡ Some key
    → rows ≡ option_to_list (row_at name key store.tables) → AreCandidates o name d (part t) store.tables rows
keyed_so o name d t store at key rows whole place there named is =
    let here = sym (definition_there name store.tables at place) ∙ there in
    let kept = kept_there d (table_named name store.tables) here (λ t e. named_kept name store.tables t whole.rows e) in
    let same : rows ≡ option_to_list (row_of_key d key (rows_of name store.tables)) =
    is ∙ ap (λ (r : Option (List Value)). option_to_list r) (row_there key d (table_named name store.tables) here) in
    record {
      all = rows_of name store.tables;
      there = table_is d (table_named name store.tables) here;
      enough = λ world frame round scene.
          (named_keys_are_enough o d t key named).gives world frame round (rows_of name store.tables) kept scene
          ∙ ap (λ (left : List (List Value)). kept_by (kept_where world frame d (part t)) left scene) (sym same);
      alone = λ other again. is ∙ ap (λ (k : List Value). option_to_list (row_at name k store.tables)) (some_is key other (sym named ∙ again));
      lone = λ other none so. cc;
      within = λ none so. cc;
    }

same_named : (a b : Named) → Some a ≡ Some b → a ≡ b
same_named a b e = cc

-- and that of the values of a unique key, where it names no primary one
pub unique_so : (o : Outside) (name : List ℕ) (d : TableDef) (t : Tree) (store : Store) (at : ℕ) (named : Named) (rows : List (List Value)) → IsWhole store
    → key_in o d t d.primary ≡ None → first_named o d t 1 d.uniques ≡ Some named → place_of name store.tables ≡ Some at → slice_get (definitions_of store.tables) at ≡ Some d
    → rows ≡ option_to_list (found_with name named.which named.values store.tables) → AreCandidates o name d (part t) store.tables rows
unique_so o name d t store at named rows whole none first place there is =
    let here = sym (definition_there name store.tables at place) ∙ there in
    let kept = kept_there d (table_named name store.tables) here (λ t e. named_kept name store.tables t whole.rows e) in
    let key : IsNamed o d t 1 d.uniques named = is_named o d t 1 d.uniques named first in
    let number : named.which ≡ suc key.place = omega (arith, key.number) in
    let same : rows ≡ option_to_list (row_of_values key.key named.values (rows_of name store.tables)) =
    is ∙ ap (λ (r : Option (List Value)). option_to_list r) (row_is d named.which key.place key.key named.values name store.tables (rows_of name store.tables) number key.there (table_is d (table_named name store.tables) here)) in
    record {
      all = rows_of name store.tables;
      there = table_is d (table_named name store.tables) here;
      enough = λ world frame round scene.
          (named_unique_keys_are_enough o d t key.place key.key named.values key.there key.said).gives world frame round (rows_of name store.tables) kept scene
          ∙ ap (λ (left : List (List Value)). kept_by (kept_where world frame d (part t)) left scene) (sym same);
      alone = λ other so. cc;
      lone = λ other nothing again. is ∙ ap (λ (m : Named). option_to_list (found_with name m.which m.values store.tables)) (same_named named other (sym first ∙ again));
      within = λ no nothing. cc;
    }

-- and those within the range that it says, where it names no key
pub ranged_so : (o : Outside) (name : List ℕ) (d : TableDef) (t : Tree) (store : Store) (at : ℕ) (rows : List (List Value)) → IsWhole store
    → key_in o d t d.primary ≡ None → first_named o d t 1 d.uniques ≡ None → place_of name store.tables ≡ Some at → slice_get (definitions_of store.tables) at ≡ Some d
    → rows ≡ filter (row_is_in d (key_range o d t)) (rows_of name store.tables)
    → AreCandidates o name d (part t) store.tables rows
ranged_so o name d t store at rows whole none nothing place there is =
    let here = sym (definition_there name store.tables at place) ∙ there in
    let kept = kept_there d (table_named name store.tables) here (λ t e. named_kept name store.tables t whole.rows e) in
    record {
      all = rows_of name store.tables;
      there = table_is d (table_named name store.tables) here;
      enough = λ world frame round scene.
          (named_ranges_are_enough o d t).gives world frame round (rows_of name store.tables) kept scene
          ∙ ap (λ (left : List (List Value)). kept_by (kept_where world frame d (part t)) left scene) (sym is);
      alone = λ key named. cc;
      lone = λ named no so. cc;
      within = λ no so. is;
    }

pub if_ok : {A E : Type 0} (r : Result A E) (P Q : A → Type 0) → ((a : A) → P a → Q a) → IfOk r P → IfOk r Q
if_ok (Ok a) P Q f p = f a p
if_ok (Err e) P Q f p = p

pub ruleset seeing = (without_so, keyed_so)

pub ruleset missing = (not_at, not_placed)
